use Rattle.std.proofs.Common.{ap}
use Rattle.quick_cache_policy.specs.declared.contents.Contents.{Contents}
use Rattle.quick_cache_policy.specs.Places.{places_of}
use Rattle.quick_cache_policy.proofs.PlaceLemmas.{LosesOnly-same}
use Rattle.quick_cache_policy.proofs.contents.Contents.entry_or_placeholder.Goals as goal

-- a hit alone was counted
pub returns-in-Loading-clause-sound : goal.returns-in-Loading-clause-sound
returns-in-Loading-clause-sound g c =
    c.meet_placeholder.ensures.sound (g.M.Policy.hashed c.args.terms.now) c.requires.sound

pub returns-in-Ok-clause-sound : goal.returns-in-Ok-clause-sound
returns-in-Ok-clause-sound g c =
    c.make_on_ghost.ensures.sound (g.M.Policy.hashed c.args.terms.now) c.requires.hashed
    c.requires.sound

pub returns-in-Ok-make_on_nothing-clause-sound : goal.returns-in-Ok-make_on_nothing-clause-sound
returns-in-Ok-make_on_nothing-clause-sound g c =
    c.make_on_nothing.ensures.sound (g.M.Policy.hashed c.args.terms.now) c.requires.hashed
    c.requires.sound

-- no item moves where none was found
pub returns-in-Loading-clause-places : goal.returns-in-Loading-clause-places
returns-in-Loading-clause-places g c =
    LosesOnly-same _ _
    (ap (λ (s : Contents _ _ _ _ _ _). places_of s.lists) c.meet_placeholder.ensures.same)

pub returns-in-Ok-clause-places : goal.returns-in-Ok-clause-places
returns-in-Ok-clause-places g c = LosesOnly-same _ _ c.make_on_ghost.ensures.places

pub returns-in-Err-clause-places : goal.returns-in-Err-clause-places
returns-in-Err-clause-places g c = LosesOnly-same _ _ c.make_on_ghost.ensures.places

pub returns-in-Ok-make_on_nothing-clause-places : goal.returns-in-Ok-make_on_nothing-clause-places
returns-in-Ok-make_on_nothing-clause-places g c = LosesOnly-same _ _ c.make_on_nothing.ensures.places

pub returns-in-Err-make_on_nothing-clause-places : goal.returns-in-Err-make_on_nothing-clause-places
returns-in-Err-make_on_nothing-clause-places g c = LosesOnly-same _ _ c.make_on_nothing.ensures.places
