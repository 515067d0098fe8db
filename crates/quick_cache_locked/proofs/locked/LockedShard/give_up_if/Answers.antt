use Rattle.std.proofs.Common.{refl}
use Rattle.quick_cache_policy.proofs.FindLemmas.{none-found}
use Rattle.quick_cache_locked.specs.Invalidates.{GivesUpAsked}
use Rattle.quick_cache_locked.proofs.locked.LockedShard.give_up_if.Goals as goal

-- no key is being loaded by the ticket
pub returns-in_default-clause-gives_up : goal.returns-in_default-clause-gives_up
returns-in_default-clause-gives_up g c =
    GivesUpAsked.was_gone (rw (← c.self.view_is)
    (none-found _ _ c.in_default.not-Some c.loading_key.ensures.key))

-- its key does not pass
pub returns-then-not-test-clause-gives_up : goal.returns-then-not-test-clause-gives_up
returns-then-not-test-clause-gives_up g c =
    GivesUpAsked.stays c.in-Some.key.now (rw (← c.self.view_is) c.in-Some.ensures.key)
    (record { shown = c.in-Some.key; shows = refl; says = record { met = c.if-not-test.ensures } })

-- it passes
pub returns-clause-gives_up : goal.returns-clause-gives_up
returns-clause-gives_up g c =
    GivesUpAsked.goes c.in-Some.key.now _ (rw (← c.self.view_is) c.in-Some.ensures.key)
    (record { shown = c.in-Some.key; shows = refl; says = record { met = c.if-not-test.ensures } })
    c.give_up_load.ensures.gives_up
