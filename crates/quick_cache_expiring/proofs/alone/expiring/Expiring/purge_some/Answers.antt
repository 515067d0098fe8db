use Rattle.std.proofs.Common.{rules, refl}
use Rattle.quick_cache_shard.proofs.RetainSomeLemmas.{RetainsSome-told}
use Rattle.quick_cache_expiring.proofs.alone.expiring.Expiring.purge_some.Goals as goal

-- the predicate answers whether an entry lives
pub returns-clause-purges : goal.returns-clause-purges
returns-clause-purges g c =
    rw (← c.self.view_is)
    (record {
      stopped = c.retain_some-stopped.result.0;
      purges = RetainsSome-told _ _ (λ key lasting answer told. search rules) _ _ _ _ _
          c.retain_some-stopped.ensures.retains;
      goes_on = refl;
    })
