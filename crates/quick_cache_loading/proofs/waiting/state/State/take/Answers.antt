use Rattle.std.proofs.Common.{refl, rules}
use Rattle.quick_cache_loading.proofs.waiting.SlotLemmas.{taken}
use Rattle.quick_cache_loading.proofs.waiting.state.State.take.Goals as goal

-- the slots stay, and so do the numbers
pub invariant_of-self-in-Guard : goal.invariant_of-self-in-Guard
invariant_of-self-in-Guard g c = (
  search rules,
  search rules,
  search rules,
  taken c.self.inside.next c.self.inside.tasks c.self.inside.core _ _ g.V.Clone.is_clone _
      c.self.inside.core.life refl c.step-answer.ensures.step c.self.invariant.3,
)
