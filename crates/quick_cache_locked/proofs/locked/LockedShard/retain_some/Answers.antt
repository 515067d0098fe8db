use Rattle.std.proofs.Common.{List, subst}
use Rattle.std.specs.List.{AllByRecursion}
use Rattle.quick_cache_model.specs.CacheState.{Item}
use Rattle.quick_cache_model.proofs.EachElement.{all-middle}
use Rattle.quick_cache_locked.specs.Fitting.{FitsIn}
use Rattle.quick_cache_locked.proofs.FitLemmas.{AllFit-at}
use Rattle.quick_cache_locked.proofs.FitRemovals.{RetainsAsked-fits}
use Rattle.quick_cache_locked.proofs.locked.LockedShard.retain_some.Goals as goal

-- it is asked of pairs that are there, and these fit
pub retain_some-requires : goal.retain_some-requires
retain_some-requires g c = record {
  callable = λ place before item after split. c.requires.callable item.key item.value
      (all-middle (FitsIn g.L.Lifecycle.fits) before item after
      (subst (λ (xs : List (Item g.row.K.Denot g.row.V.Denot)).
      AllByRecursion (FitsIn g.L.Lifecycle.fits) xs) split
      (AllFit-at g.L.Lifecycle.fits place c.self.inside.shard.state c.self.invariant)));
}

-- the items that are left are as they were
pub invariant_of-self : goal.invariant_of-self
invariant_of-self g c = RetainsAsked-fits g.L.Lifecycle.fits _ c.self.inside.shard.state
    c.retain_some.new.self.state c.retain_some.ensures.retains.retains.retains c.self.invariant

pub returns-clause-retains : goal.returns-clause-retains
returns-clause-retains g c = rw (← c.self.view_is) c.retain_some.ensures.retains
