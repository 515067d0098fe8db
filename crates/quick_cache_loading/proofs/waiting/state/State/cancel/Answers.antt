use Rattle.std.proofs.Common.{◌≡◌, ◌∙◌, true, ap, refl, rules}
use Rattle.quick_cache_loading.specs.Core.{is_sound}
use Rattle.quick_cache_loading.specs.Tasks.{slots_after}
use Rattle.quick_cache_loading.proofs.waiting.SlotLemmas.{cancelled}
use Rattle.quick_cache_loading.proofs.waiting.WithdrawalLemmas.{withdrawn}
use Rattle.quick_cache_loading.proofs.waiting.state.State.cancel.Goals as goal

-- whatever the life, who cancels waits no more
pub returns-clause-withdrawn : goal.returns-clause-withdrawn
returns-clause-withdrawn g c =
    let sound : is_sound c.self.inside.core.life ≡ true = search rules in
    λ here. rw (← c.end-waiter.ensures) (withdrawn c.self.inside.core.life _ c.self.inside.core
    c.cancel-answer.result _ refl sound c.cancel-answer.ensures.step)

-- it has a slot no more, nor has one to whom its guard is handed
pub invariant_of-self : goal.invariant_of-self
invariant_of-self g c =
    let sound : is_sound c.self.inside.core.life ≡ true = search rules in
    let slots = c.wake_handed.ensures ∙ ap (λ slots. slots_after c.cancel-answer.result slots) c.wake.ensures in (
      search rules,
      search rules,
      search rules,
      rw slots (cancelled c.self.inside.next c.self.inside.tasks c.self.inside.core c.cancel-answer.result c.cancel-answer.new.core c.end-waiter.result
          c.self.inside.core.life refl sound c.cancel-answer.ensures.step c.self.invariant.3),
    )
