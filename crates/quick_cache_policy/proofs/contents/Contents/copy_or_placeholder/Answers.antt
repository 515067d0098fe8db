use Rattle.std.proofs.Common.{true, false}
use Rattle.quick_cache_policy.specs.Loading.{BeginsLoad}
use Rattle.quick_cache_policy.proofs.contents.Contents.copy_or_placeholder.Goals as goal

-- an item was found, whose value was cloned or not
pub returns-in-Ok-clause-begins : goal.returns-in-Ok-clause-begins
returns-in-Ok-clause-begins g c = BeginsLoad.finds _ _ c.in-Ok.ensures.copies

pub returns-in-Ok-clause-sound : goal.returns-in-Ok-clause-sound
returns-in-Ok-clause-sound g c = λ hashed under sound. c.copy_item.ensures.sound hashed sound

pub returns-in-Err-clause-begins : goal.returns-in-Err-clause-begins
returns-in-Err-clause-begins g c = BeginsLoad.lacks_a_clone _ _ c.in-Err.ensures.copies

pub returns-in-Err-clause-sound : goal.returns-in-Err-clause-sound
returns-in-Err-clause-sound g c = λ hashed under sound. c.copy_item.ensures.sound hashed sound

-- a placeholder was met
pub returns-in-Loading-clause-begins : goal.returns-in-Loading-clause-begins
returns-in-Loading-clause-begins g c =
    BeginsLoad.makes_or_meets false _ _ c.meet_placeholder.ensures.meets

pub returns-in-Loading-clause-sound : goal.returns-in-Loading-clause-sound
returns-in-Loading-clause-sound g c = λ hashed under sound.
    c.meet_placeholder.ensures.sound hashed sound

-- or one was made, or none
pub returns-in-Ok-make_on_ghost-clause-begins : goal.returns-in-Ok-make_on_ghost-clause-begins
returns-in-Ok-make_on_ghost-clause-begins g c =
    BeginsLoad.makes_or_meets true _ _ c.in-Ok-make_on_ghost.ensures.makes

pub returns-in-Err-make_on_ghost-clause-begins : goal.returns-in-Err-make_on_ghost-clause-begins
returns-in-Err-make_on_ghost-clause-begins g c =
    BeginsLoad.makes_none _ _ c.in-Err-make_on_ghost.ensures.makes

pub returns-in-Ok-make_on_nothing-clause-begins : goal.returns-in-Ok-make_on_nothing-clause-begins
returns-in-Ok-make_on_nothing-clause-begins g c =
    BeginsLoad.makes_or_meets true _ _ c.in-Ok-make_on_nothing.ensures.makes

pub returns-in-Err-make_on_nothing-clause-begins :
    goal.returns-in-Err-make_on_nothing-clause-begins
returns-in-Err-make_on_nothing-clause-begins g c =
    BeginsLoad.makes_none _ _ c.in-Err-make_on_nothing.ensures.makes
