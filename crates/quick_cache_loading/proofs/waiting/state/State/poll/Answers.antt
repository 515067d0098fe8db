use Rattle.std.proofs.Common.{refl}
use Rattle.quick_cache_loading.specs.declared.protocol.events.Answer.{Answer}
use Rattle.quick_cache_loading.proofs.waiting.state.State.poll.Goals as goal

-- one who keeps its place goes on waiting
pub returns-in-Err-clause-looks : goal.returns-in-Err-clause-looks
returns-in-Err-clause-looks g c =
    λ here goes_on. rw c.if-is_over.false
    (record { answer = Answer.Waiting; step = c.in-Err.ensures.event.1; tells = refl })
