use Rattle.std.proofs.Common.{◌≡◌, Option, Some}
use Rattle.quick_cache_listeners.specs.declared.causes.cause.Cause.{Cause}
use Rattle.quick_cache_listeners.specs.declared.causes.listener.Request.{Request}
use Rattle.promises.proofs.TakenLemmas.{TellsEach-last}
use Rattle.promises.proofs.alone.taken.hear_of_those_above.Goals as goal

-- each pair that came was told as retained
pub returns : goal.returns
returns g c =
    TellsEach-last c.tell_each_taken.ensures.tells
    (λ (heard : Request (Option Cause)). heard.state ≡ Some Cause.Retained)
    (λ old new key value told. told.0)
