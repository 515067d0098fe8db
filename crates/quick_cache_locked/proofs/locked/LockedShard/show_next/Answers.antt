use Rattle.std.proofs.Common.{Some, Ok, subst}
use Rattle.quick_cache_shard.specs.PlaceWalks.{EndsAt}
use Rattle.quick_cache_shard.specs.WalksFrom.{WalkFrom, number_or_zero, ShowsNext as StepShown}
use Rattle.quick_cache_locked.proofs.FitWalks.{ShowsNext-fits}
use Rattle.quick_cache_locked.proofs.locked.LockedShard.show_next.Goals as goal

-- no item is left
pub returns-in-None-clause-shows : goal.returns-in-None-clause-shows
returns-in-None-clause-shows g c =
    rw (← c.self.view_is)
    (subst (λ (walk : WalkFrom g.row.K.Denot g.row.V.Denot). EndsAt walk.places walk.after)
    c.iter_from-walk.ensures.begins c.in-None.ensures.steps.0)

-- the copies are clones of what is shown
pub returns-in-Ok-clone-clause-shows : goal.returns-in-Ok-clone-clause-shows
returns-in-Ok-clone-clause-shows g c =
    let shows = subst (λ (walk : WalkFrom g.row.K.Denot g.row.V.Denot).
    StepShown walk (c.in-Some.token, c.in-Some.key, c.in-Some.value) c.next.new.self)
    c.iter_from-walk.ensures.begins c.in-Some.ensures.steps in
    rw (← c.self.view_is)
    (record {
      item = shows.item;
      next = shows.next;
      there = shows.there;
      key = subst (λ (k : g.row.K.Denot). g.K.Clone.is_clone k c.in-Ok.own) shows.key
          c.in-Ok.ensures.cases;
      value = subst (λ (v : g.row.V.Denot). g.V.Clone.is_clone v c.in-Ok-clone.copy) shows.value
          c.in-Ok-clone.ensures.cases;
    })

-- the shard has values that fit
pub returns-in-Ok-clone-clause-fits : goal.returns-in-Ok-clone-clause-fits
returns-in-Ok-clone-clause-fits g c keys clones =
    ShowsNext-fits g.L.Lifecycle (number_or_zero c.args.after) _ g.K.Clone.is_clone
    g.V.Clone.is_clone g.K.PartialEq.eq g.met.L.Lifecycle.same_fits
    (Ok (Some (c.in-Some.token, c.in-Ok.own, c.in-Ok-clone.copy)))
    (returns-in-Ok-clone-clause-shows g c) c.facts.ensures.fit keys clones
