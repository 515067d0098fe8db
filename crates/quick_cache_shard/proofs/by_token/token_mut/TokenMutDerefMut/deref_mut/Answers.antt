use Rattle.std.proofs.Common.{ℕ, refl, subst}
use Rattle.quick_cache_shard.specs.TokenValues.{IsValueOf}
use Rattle.quick_cache_shard.proofs.LentTokenLemmas.{is_with_value}
use Rattle.quick_cache_shard.proofs.by_token.token_mut.TokenMutDerefMut.deref_mut.Goals as goal

-- the item is there with any value
pub invariant_of-self-lent : goal.invariant_of-self-lent
invariant_of-self-lent g c w =
    let r = c.args.self.now in (r.named, (r.there, tt))

pub returns : goal.returns
returns g c = (
  (refl, λ w. is_with_value c.args.self.now w _ c.token_of-token.ensures _ _),
  record {
    writes_back = tt;
    value = subst
        (λ (n : ℕ). IsValueOf c.args.self.now.shard.now n c.value_at_mut.result.now)
        c.token_of-token.ensures c.value_at_mut.ensures.value;
  },
)
