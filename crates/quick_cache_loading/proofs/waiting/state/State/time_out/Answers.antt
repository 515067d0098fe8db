use Rattle.std.proofs.Common.{◌≡◌, true, refl, rules}
use Rattle.quick_cache_loading.specs.Core.{is_sound}
use Rattle.quick_cache_loading.proofs.waiting.SlotLemmas.{timed_out}
use Rattle.quick_cache_loading.proofs.waiting.state.State.time_out.Goals as goal

-- one whose time is over has a slot no more
pub invariant_of-self : goal.invariant_of-self
invariant_of-self g c =
    let sound : is_sound c.self.inside.core.life ≡ true = search rules in (
      search rules,
      search rules,
      search rules,
      rw c.wake.ensures (timed_out c.self.inside.next c.self.inside.tasks c.self.inside.core c.step-answer.result c.step-answer.new.core
          g.V.Clone.is_clone c.end-waiter.result c.self.inside.core.life refl sound c.step-answer.ensures.step
          c.self.invariant.3),
    )

pub invariant_of-self-in_default : goal.invariant_of-self-in_default
invariant_of-self-in_default g c =
    let sound : is_sound c.self.inside.core.life ≡ true = search rules in (
      search rules,
      search rules,
      search rules,
      rw c.wake.ensures (timed_out c.self.inside.next c.self.inside.tasks c.self.inside.core c.step-answer.result c.step-answer.new.core
          g.V.Clone.is_clone c.end-waiter.result c.self.inside.core.life refl sound c.step-answer.ensures.step
          c.self.invariant.3),
    )
