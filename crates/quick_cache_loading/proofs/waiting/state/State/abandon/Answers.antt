use Rattle.std.proofs.Common.{◌≡◌, true, refl, rules}
use Rattle.quick_cache_loading.specs.Core.{is_sound}
use Rattle.quick_cache_loading.proofs.waiting.SlotLemmas.{abandoned}
use Rattle.quick_cache_loading.proofs.waiting.state.State.abandon.Goals as goal

-- one to whom the guard is handed has a slot no more
pub invariant_of-self-in_default : goal.invariant_of-self-in_default
invariant_of-self-in_default g c =
    let sound : is_sound c.self.inside.core.life ≡ true = search rules in (
      search rules,
      search rules,
      search rules,
      rw c.wake_handed.ensures (abandoned c.self.inside.next c.self.inside.tasks
          c.self.inside.core c.abandon-answer.result c.abandon-answer.new.core c.self.inside.core.life refl sound c.abandon-answer.ensures.step
          c.self.invariant.3),
    )
