use Rattle.std.proofs.Common.{refl}
use Rattle.quick_cache_unsync.specs.References.{still_under}
use Rattle.quick_cache_unsync.proofs.ReferenceLemmas.{is_with_value}
use Rattle.quick_cache_unsync.proofs.lent.reference.RefMutDerefMut.deref_mut.Goals as goal

-- the item is there with any value
pub invariant_of-self-lent : goal.invariant_of-self-lent
invariant_of-self-lent g c w =
    let r = c.args.self.now in (
      still_under (g.Q.Equivalent.equivalent r.query.now) w r.cache.now.state r.there,
      (r.hash_is, tt),
    )

pub returns : goal.returns
returns g c = (
  (refl, λ w. is_with_value c.args.self.now w _ _),
  record { writes_back = tt; value = c.value_mut.ensures.value },
)
