use Rattle.std.proofs.Common.{◌≡◌, ◌∙◌, refl, sym, ap, subst, Some, ℕ, arith}
use Rattle.std.specs.Int.NonZero.{non_zero_u32_get as number}
use Rattle.quick_cache_store.specs.Pool.{item_at}
use Rattle.quick_cache_store.specs.Rings.{CanLeaveRing, restarts}
use Rattle.quick_cache_store.specs.declared.slots.entry.Slot.{Slot}
use Rattle.quick_cache_store.specs.ListSlots.{with_entry, Stand, stand_of, stand_in, weight_in, weight_at}
use Rattle.quick_cache_store.proofs.lists.ItemLemmas.{one_slot}
use Rattle.quick_cache_store.proofs.lists.LeaveLemmas.{can_leave}
use Rattle.quick_cache_store.proofs.lists.MoveLemmas.{can_enter-moved, IsSound-moved, Replaces-moved, loading-kept}
use Rattle.quick_cache_store.proofs.lists.TakeLemmas.{occupied_by_entry}
use Rattle.quick_cache_store.proofs.lists.lists.Lists.replace.Goals as goal

pub replace-was-requires : goal.replace-was-requires
replace-was-requires g c =
    let i = c.self.inside in
    occupied_by_entry i.slots i.index i.rings (number c.args.token)
    (rw (← c.self.view_is) at c.requires)

pub leave-requires : goal.leave-requires
leave-requires g c =
    let i = c.self.inside in
    let t = number c.args.token in
    let x = c.replace-was.ensures.writes.slot in
    let at = c.replace-was.ensures.writes.was in
    let old = c.replace-was.ensures.old in
    let was : c.replace-was.result ≡ x.entry = ap (λ (s : Slot _ _ _ _). s.entry)
    (one_slot (item_at i.slots t) (record { hash = old.0; entry = c.replace-was.result }) x
    old.1 at) in
    let stands : stand_of (item_at i.slots t) ≡ Some c.stand-from.result = ap stand_of at
    ∙ ap (λ (s : Stand). Some s) (sym (c.stand-from.ensures ∙ ap stand_in was)) in
    let weighs : weight_at (item_at i.slots t) ≡ c.weight-weighed.result = ap weight_at at
    ∙ sym (c.weight-weighed.ensures ∙ ap weight_in was) in
    subst (λ (w : ℕ). CanLeaveRing i.rings t w c.stand-from.result) weighs
    (can_leave i.slots i.rings c.self.invariant.standing t c.stand-from.result stands)

pub enter-requires : goal.enter-requires
enter-requires g c =
    let i = c.self.inside in
    let t = number c.args.token in
    let x = c.replace-was.ensures.writes.slot in
    let at = c.replace-was.ensures.writes.was in
    let old = c.replace-was.ensures.old in
    let was : c.replace-was.result ≡ x.entry = ap (λ (s : Slot _ _ _ _). s.entry)
    (one_slot (item_at i.slots t) (record { hash = old.0; entry = c.replace-was.result }) x
    old.1 at) in
    can_enter-moved i.slots i.index t (restarts c.args.order) i.rings c.leave.new.self i.loading
    c.self.invariant x (with_entry c.args.entry x) at refl
    (omega (arith, c.weight-weight.ensures)) c.stand-from.result c.weight-weighed.result
    (c.stand-from.ensures ∙ ap stand_in was) (c.weight-weighed.ensures ∙ ap weight_in was)
    c.leave.ensures c.weight-weight.result (omega arith) c.stand-to.result

pub overflow_sub-self : goal.overflow_sub-self
overflow_sub-self g c =
    let i = c.self.inside in
    let t = number c.args.token in
    let x = c.replace-was.ensures.writes.slot in
    let at = c.replace-was.ensures.writes.was in
    let old = c.replace-was.ensures.old in
    let was : c.replace-was.result ≡ x.entry = ap (λ (s : Slot _ _ _ _). s.entry)
    (one_slot (item_at i.slots t) (record { hash = old.0; entry = c.replace-was.result }) x
    old.1 at) in
    omega (
      arith,
      loading-kept i.slots i.index t (restarts c.args.order) i.rings c.leave.new.self i.loading
          c.self.invariant x (with_entry c.args.entry x) at refl
          (omega (arith, c.weight-weight.ensures)) c.stand-from.result c.weight-weighed.result
          (c.stand-from.ensures ∙ ap stand_in was) (c.weight-weighed.ensures ∙ ap weight_in was)
          c.leave.ensures,
      c.loading.ensures,
    )

pub invariant_of-self : goal.invariant_of-self
invariant_of-self g c =
    let i = c.self.inside in
    let t = number c.args.token in
    let x = c.replace-was.ensures.writes.slot in
    let at = c.replace-was.ensures.writes.was in
    let old = c.replace-was.ensures.old in
    let was : c.replace-was.result ≡ x.entry = ap (λ (s : Slot _ _ _ _). s.entry)
    (one_slot (item_at i.slots t) (record { hash = old.0; entry = c.replace-was.result }) x
    old.1 at) in
    rw c.replace-was.ensures.writes.is (IsSound-moved i.slots i.index t (restarts c.args.order) i.rings
    c.leave.new.self i.loading c.self.invariant x (with_entry c.args.entry x) at refl
    (omega (arith, c.weight-weight.ensures)) c.stand-from.result c.weight-weighed.result
    (c.stand-from.ensures ∙ ap stand_in was) (c.weight-weighed.ensures ∙ ap weight_in was)
    c.leave.ensures c.enter.new.self c.stand-to.result c.weight-weight.result c.stand-to.ensures
    c.weight-weight.ensures c.enter.ensures c.loading.result c.loading-2.result
    c.loading.ensures c.loading-2.ensures)

pub returns : goal.returns
returns g c =
    let i = c.self.inside in
    let t = number c.args.token in
    let x = c.replace-was.ensures.writes.slot in
    let at = c.replace-was.ensures.writes.was in
    let old = c.replace-was.ensures.old in
    let was : c.replace-was.result ≡ x.entry = ap (λ (s : Slot _ _ _ _). s.entry)
    (one_slot (item_at i.slots t) (record { hash = old.0; entry = c.replace-was.result }) x
    old.1 at) in
    rw (← c.self.view_is, was, c.replace-was.ensures.writes.is) (Replaces-moved i.slots i.index t
    (restarts c.args.order) i.rings c.leave.new.self i.loading c.self.invariant x
    (with_entry c.args.entry x) at refl (omega (arith, c.weight-weight.ensures))
    c.stand-from.result c.weight-weighed.result (c.stand-from.ensures ∙ ap stand_in was)
    (c.weight-weighed.ensures ∙ ap weight_in was) c.leave.ensures c.enter.new.self
    c.stand-to.result c.weight-weight.result c.stand-to.ensures c.weight-weight.ensures
    c.enter.ensures)
