use Rattle.std.proofs.Common.{ap}
use Rattle.quick_cache_policy.specs.declared.contents.Contents.{Contents}
use Rattle.quick_cache_policy.specs.Places.{places_of}
use Rattle.quick_cache_policy.proofs.contents.Contents.get_or_placeholder.Goals as goal

pub returns-in-Item-clause-sound : goal.returns-in-Item-clause-sound
returns-in-Item-clause-sound g c = λ hashed under sound. c.count_hit.ensures.sound hashed sound

-- a hit alone was counted
pub returns-in-Loading-clause-sound : goal.returns-in-Loading-clause-sound
returns-in-Loading-clause-sound g c = λ hashed under sound.
    c.meet_placeholder.ensures.sound hashed sound

pub returns-in-Loading-clause-places : goal.returns-in-Loading-clause-places
returns-in-Loading-clause-places g c =
    ap (λ (s : Contents _ _ _ _ _ _). places_of s.lists) c.meet_placeholder.ensures.same
