use Rattle.std.proofs.Common.{List, subst}
use Rattle.std.specs.List.{AllByRecursion}
use Rattle.quick_cache_model.specs.CacheState.{Item}
use Rattle.quick_cache_model.proofs.EachElement.{all-middle}
use Rattle.quick_cache_shard.specs.Predicates.{Answers}
use Rattle.quick_cache_shard.specs.WalksFrom.{number_or_zero}
use Rattle.quick_cache_locked.specs.Fitting.{FitsIn}
use Rattle.quick_cache_locked.proofs.FitLemmas.{AllFit-at}
use Rattle.quick_cache_locked.proofs.FitWalks.{AllFit-wanted, wanted-fits}
use Rattle.quick_cache_locked.proofs.locked.LockedShard.take_next_if.Goals as goal

-- it is asked of pairs that are there, and these fit
pub take_next_if-requires : goal.take_next_if-requires
take_next_if-requires g c = record {
  callable = λ place before item after split. c.requires.callable item.key item.value
      (all-middle (FitsIn g.L.Lifecycle.fits) before item after
      (subst (λ (xs : List (Item g.row.K.Denot g.row.V.Denot)).
      AllByRecursion (FitsIn g.L.Lifecycle.fits) xs) split
      (AllFit-at g.L.Lifecycle.fits place c.self.inside.shard.state c.self.invariant)));
}

-- the items that are left are as they were
pub invariant_of-self : goal.invariant_of-self
invariant_of-self g c =
    AllFit-wanted g.L.Lifecycle (number_or_zero c.args.after) c.self.inside.shard
    c.take_next_if.new.self c.self.invariant (Answers g.F.Fn c.args.wanted.now)
    c.take_next_if.result c.take_next_if.ensures.takes

-- the shard had values that fit, and the answer is one of them
pub returns-clause-fits : goal.returns-clause-fits
returns-clause-fits g c =
    wanted-fits g.L.Lifecycle (number_or_zero c.args.after) c.self.inside.shard
    c.take_next_if.new.self c.self.invariant (Answers g.F.Fn c.args.wanted.now)
    c.take_next_if.result c.take_next_if.ensures.takes

-- the step is the shard's
pub returns-clause-takes : goal.returns-clause-takes
returns-clause-takes g c = rw (← c.self.view_is) c.take_next_if.ensures.takes
