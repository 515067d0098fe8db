use Rattle.std.proofs.Common.{List, subst}
use Rattle.std.specs.List.{AllByRecursion}
use Rattle.quick_cache_model.specs.CacheState.{Item}
use Rattle.quick_cache_model.proofs.EachElement.{all-middle}
use Rattle.quick_cache_locked.specs.Fitting.{FitsIn}
use Rattle.quick_cache_locked.proofs.FitLemmas.{AllFit-at}
use Rattle.quick_cache_locked.proofs.FitRemovals.{RetainsAsked-fits, AllFit-stepped}
use Rattle.quick_cache_locked.proofs.locked.LockedShard.retain.Goals as goal

-- it is asked of pairs that are there, and these fit
pub retain-requires : goal.retain-requires
retain-requires g c = record {
  callable = λ place before item after split. c.requires.callable item.key item.value
      (all-middle (FitsIn g.L.Lifecycle.fits) before item after
      (subst (λ (xs : List (Item g.row.K.Denot g.row.V.Denot)).
      AllByRecursion (FitsIn g.L.Lifecycle.fits) xs) split
      (AllFit-at g.L.Lifecycle.fits place c.self.inside.shard.state c.self.invariant)));
}

-- the items that are left are as they were
pub invariant_of-self : goal.invariant_of-self
invariant_of-self g c = AllFit-stepped g.L.Lifecycle.fits c.self.inside.shard.state
    c.retain.new.self.state c.retain.ensures.asks
    (λ next step. RetainsAsked-fits g.L.Lifecycle.fits _ c.self.inside.shard.state next step)
    c.self.invariant

pub returns-clause-places : goal.returns-clause-places
returns-clause-places g c = rw (← c.self.view_is) c.retain.ensures.places
