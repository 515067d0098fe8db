use Rattle.std.proofs.Common.{◌==◌, not, rules}
use Rattle.std.proofs.lemmas.Fn.{filter_same}
use Rattle.quick_cache_loading.specs.declared.waiting.tasks.Slot.{Slot}
use Rattle.quick_cache_loading.proofs.waiting.tasks.Tasks.wake.Goals as goal

-- the closure keeps a slot exactly where it is another waiter's
pub returns : goal.returns
returns g c =
    rw (← c.self.view_is) (filter_same _ (λ (slot : Slot). not (slot.waiter == c.args.waiter)) _
    (λ x b q h. search rules) _ _ c.retain.ensures.filtered)
