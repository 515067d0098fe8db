use Rattle.std.proofs.Common.{◌≡◌, ◌∙◌, false, inl, inr, sym, rules}
use Rattle.std.proofs.lemmas.List.Quantifiers.{any-set}
use Rattle.std.proofs.Math.Seq.{map-set_same}
use Rattle.quick_cache_loading.specs.Tasks.{has_slot}
use Rattle.quick_cache_loading.proofs.waiting.SlotLemmas.{no-slot}
use Rattle.quick_cache_loading.proofs.waiting.tasks.Tasks.wait.Goals as goal

-- the waker is in the waiter's slot
pub returns-in-Some-clause-waker : goal.returns-in-Some-clause-waker
returns-in-Some-clause-waker g c =
    let at = c.in-Some.ensures.place c.index_mut-slot.result.now in
    let same : c.index_mut-slot.result.now.waiter ≡ c.args.waiter = search rules in
    elim c.register.ensures.left [
      | inl lacks ↦ inl lacks
      | inr waker ↦ inr (inr (any-set _ _ _ _ (search rules) (same, waker)))
    ]

-- nobody's number changes
pub returns-in-Some-clause-same : goal.returns-in-Some-clause-same
returns-in-Some-clause-same g c =
    let at = c.in-Some.ensures.place c.index_mut-slot.result.now in
    let same : c.index_mut-slot.result.now.waiter ≡ c.args.waiter = search rules in
    rw (← c.self.view_is) (map-set_same (λ slot. slot.waiter) _ _ _ c.index_mut-slot.result.now
    (same ∙ sym at))

-- or there is none
pub returns-in-None-clause-waker : goal.returns-in-None-clause-waker
returns-in-None-clause-waker g c =
    let none : has_slot c.args.waiter c.self.inside.slots.items ≡ false =
    no-slot c.args.waiter _ (search rules) in
    inr (inl (rw (← c.self.view_is) none, search rules))
