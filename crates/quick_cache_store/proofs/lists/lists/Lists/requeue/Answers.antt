use Rattle.std.proofs.Common.{◌≡◌, ◌∙◌, ◌<◌, refl, sym, ap, subst, Some, ℕ, arith}
use Rattle.std.specs.Int.NonZero.{non_zero_u32_get as number}
use Rattle.quick_cache_store.specs.Pool.{item_at, with_item}
use Rattle.quick_cache_store.specs.Rings.{CanLeaveRing, restarts}
use Rattle.quick_cache_store.specs.declared.slots.entry.Slot.{Slot}
use Rattle.quick_cache_store.specs.ListSlots.{Stand, stand_of, stand_in, slot_changed, weight_in, weight_at, loading_in}
use Rattle.quick_cache_store.specs.Lists.{PutsLast, requeued, without_entry}
use Rattle.quick_cache_store.specs.Sound.{lists_of}
use Rattle.quick_cache_store.proofs.lists.LeaveLemmas.{can_leave}
use Rattle.quick_cache_store.proofs.lists.MoveLemmas.{can_enter-moved, last-moved, room-moved, next-moved, IsSound-requeued}
use Rattle.quick_cache_store.proofs.lists.ItemLemmas.{item_by_token, one_slot, slot_is}
use Rattle.quick_cache_store.proofs.lists.ChangeLemmas.{changed_slot}
use Rattle.quick_cache_store.proofs.lists.CountLemmas.{loading_in-slot, PutsItem-from}
use Rattle.quick_cache_store.proofs.lists.StandLemmas.{HasItem-from}
use Rattle.quick_cache_store.proofs.lists.lists.Lists.requeue.Goals as goal

pub slot-slot-requires : goal.slot-slot-requires
slot-slot-requires g c =
    let i = c.self.inside in
    let has = item_by_token i.slots i.index i.rings
    (number c.args.token) (rw (← c.self.view_is) at c.requires) in
    rw has.2 refl

pub requeue-requires : goal.requeue-requires
requeue-requires g c =
    let i = c.self.inside in
    item_by_token i.slots i.index i.rings (number c.args.token)
    (rw (← c.self.view_is) at c.requires)

pub leave-requires : goal.leave-requires
leave-requires g c =
    let i = c.self.inside in
    let t = number c.args.token in
    let at = c.slot-slot.ensures in
    let stands : stand_of (item_at i.slots t) ≡ Some c.stand-from.result = ap stand_of at
    ∙ ap (λ (s : Stand). Some s) (sym c.stand-from.ensures) in
    let weighs : weight_at (item_at i.slots t) ≡ c.weight-weighed.result = ap weight_at at
    ∙ sym c.weight-weighed.ensures in
    subst (λ (w : ℕ). CanLeaveRing i.rings t w c.stand-from.result) weighs
    (can_leave i.slots i.rings c.self.invariant.standing t c.stand-from.result stands)

pub enter-requires : goal.enter-requires
enter-requires g c =
    let i = c.self.inside in
    let t = number c.args.token in
    let x = c.requeue.ensures.slot in
    let at = c.requeue.ensures.was in
    let y = slot_changed (requeued c.args.queue c.args.mark c.args.weight) x in
    let same = one_slot (item_at i.slots t) c.slot-slot.result x c.slot-slot.ensures at in
    let has = item_by_token i.slots i.index i.rings t (rw (← c.self.view_is) at c.requires) in
    let now = (changed_slot (item_at i.slots t) x has.0 has.1
    (requeued c.args.queue c.args.mark c.args.weight) has.2 at).1 in
    let light : weight_in y.entry < 18446744073709551616 =
    omega (arith, ap (λ (s : Slot _ _ _ _). weight_in s.entry) now) in
    let from_is = c.stand-from.ensures ∙ ap (λ (s : Slot _ _ _ _). stand_in s.entry) same in
    let weighed_is = c.weight-weighed.ensures
    ∙ ap (λ (s : Slot _ _ _ _). weight_in s.entry) same in
    can_enter-moved i.slots i.index t (restarts c.args.order) i.rings c.leave.new.self i.loading
    c.self.invariant x y at refl light c.stand-from.result c.weight-weighed.result from_is
    weighed_is c.leave.ensures c.args.weight (omega arith) c.of_item-to.result

pub invariant_of-self : goal.invariant_of-self
invariant_of-self g c =
    let i = c.self.inside in
    let t = number c.args.token in
    let x = c.requeue.ensures.slot in
    let at = c.requeue.ensures.was in
    let y = slot_changed (requeued c.args.queue c.args.mark c.args.weight) x in
    let same = one_slot (item_at i.slots t) c.slot-slot.result x c.slot-slot.ensures at in
    let has = item_by_token i.slots i.index i.rings t (rw (← c.self.view_is) at c.requires) in
    let now = (changed_slot (item_at i.slots t) x has.0 has.1
    (requeued c.args.queue c.args.mark c.args.weight) has.2 at).1 in
    let light : weight_in y.entry < 18446744073709551616 =
    omega (arith, ap (λ (s : Slot _ _ _ _). weight_in s.entry) now) in
    let from_is = c.stand-from.ensures ∙ ap (λ (s : Slot _ _ _ _). stand_in s.entry) same in
    let weighed_is = c.weight-weighed.ensures
    ∙ ap (λ (s : Slot _ _ _ _). weight_in s.entry) same in
    let to_is = c.of_item-to.ensures ∙ sym (ap (λ (s : Slot _ _ _ _). stand_in s.entry) now) in
    let weight_is = sym (ap (λ (s : Slot _ _ _ _). weight_in s.entry) now) in
    let none = ap loading_in from_is ∙ loading_in-slot x has.0 has.1
    (slot_is (item_at i.slots t) x has.0 has.1 has.2 at) in
    let still = ap loading_in to_is ∙ loading_in-slot y has.0
    (requeued c.args.queue c.args.mark c.args.weight has.1) now in
    rw c.requeue.ensures.is (IsSound-requeued i.slots i.index t (restarts c.args.order) i.rings c.leave.new.self i.loading
    c.self.invariant x y at refl light c.stand-from.result c.weight-weighed.result from_is
    weighed_is c.leave.ensures
    c.enter.new.self c.of_item-to.result c.args.weight to_is weight_is
    c.enter.ensures none still)

pub returns : goal.returns
returns g c =
    let i = c.self.inside in
    let t = number c.args.token in
    let x = c.requeue.ensures.slot in
    let at = c.requeue.ensures.was in
    let y = slot_changed (requeued c.args.queue c.args.mark c.args.weight) x in
    let same = one_slot (item_at i.slots t) c.slot-slot.result x c.slot-slot.ensures at in
    let has = item_by_token i.slots i.index i.rings t (rw (← c.self.view_is) at c.requires) in
    let now = (changed_slot (item_at i.slots t) x has.0 has.1
    (requeued c.args.queue c.args.mark c.args.weight) has.2 at).1 in
    let light : weight_in y.entry < 18446744073709551616 =
    omega (arith, ap (λ (s : Slot _ _ _ _). weight_in s.entry) now) in
    let from_is = c.stand-from.ensures ∙ ap (λ (s : Slot _ _ _ _). stand_in s.entry) same in
    let weighed_is = c.weight-weighed.ensures
    ∙ ap (λ (s : Slot _ _ _ _). weight_in s.entry) same in
    let to_is = c.of_item-to.ensures ∙ sym (ap (λ (s : Slot _ _ _ _). stand_in s.entry) now) in
    let weight_is = sym (ap (λ (s : Slot _ _ _ _). weight_in s.entry) now) in
    let last = last-moved i.slots i.index t (restarts c.args.order) i.rings c.leave.new.self i.loading
    c.self.invariant x y at refl light c.stand-from.result c.weight-weighed.result from_is
    weighed_is c.leave.ensures
    c.enter.new.self c.of_item-to.result c.args.weight to_is weight_is
    c.enter.ensures in
    let room = room-moved i.slots i.index t (restarts c.args.order) i.rings c.leave.new.self i.loading
    c.self.invariant x y at refl light c.stand-from.result c.weight-weighed.result from_is
    weighed_is c.leave.ensures
    c.enter.new.self c.of_item-to.result c.args.weight to_is weight_is
    c.enter.ensures in
    let next = next-moved i.slots i.index t (restarts c.args.order) i.rings c.leave.new.self i.loading
    c.self.invariant x y at refl light c.stand-from.result c.weight-weighed.result from_is
    weighed_is c.leave.ensures
    c.enter.new.self c.of_item-to.result c.args.weight to_is weight_is
    c.enter.ensures in
    let left = without_entry (restarts c.args.order) t (lists_of i.slots i.index i.rings) in
    let new = lists_of (with_item i.slots t y) i.index c.enter.new.self in
    let puts = subst (λ (s : Slot _ _ _ _). PutsLast left t s.hash s.entry new) now last in
    rw (← c.self.view_is) (record {
      hash = has.0;
      item = has.1;
      taken = HasItem-from i.slots i.index i.rings c.self.invariant.standing t has.0 has.1 has.2;
      last = rw c.requeue.ensures.is (PutsItem-from left new t has.0
          (requeued c.args.queue c.args.mark c.args.weight has.1) puts);
      room = rw c.requeue.ensures.is room;
      next = rw c.requeue.ensures.is next;
    })
