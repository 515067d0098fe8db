use Rattle.std.proofs.Common.{◌≡◌, ◌∙◌, refl, sym, ap, false, Some, arith}
use Rattle.std.specs.Int.NonZero.{non_zero_u32_get as number}
use Rattle.quick_cache_store.specs.Pool.{item_at}
use Rattle.quick_cache_store.specs.Rings.{Rings, LeavesRingOf, without_first}
use Rattle.quick_cache_store.specs.declared.slots.entry.Entry.{Entry}
use Rattle.quick_cache_store.specs.declared.slots.entry.Slot.{Slot}
use Rattle.quick_cache_store.specs.ListSlots.{with_entry, AmongCold, AmongGhosts, stand_of, stand_in, weight_in, weight_at}
use Rattle.quick_cache_store.proofs.lists.ItemLemmas.{first_cold-item, slot_is, stand_of-first_cold}
use Rattle.quick_cache_store.proofs.lists.FirstLemmas.{first_cold-weighs, first_cold-left}
use Rattle.quick_cache_store.proofs.lists.MoveLemmas.{can_enter-moved, IsSound-requeued, Replaces-moved}
use Rattle.quick_cache_store.proofs.lists.lists.Lists.bury.Goals as goal

-- the first cold item is in the slot
pub bury-item-requires : goal.bury-item-requires
bury-item-requires g c =
    let i = c.self.inside in
    first_cold-item i.slots i.index i.rings c.args.token (rw (← c.self.view_is) at c.requires)

pub bury_first-requires : goal.bury_first-requires
bury_first-requires g c =
    let i = c.self.inside in
    let t = number c.args.token in
    let writes = c.bury-item.ensures.writes in
    let x = writes.slot in
    let y = with_entry Entry.Ghost x in
    let old = c.bury-item.ensures.old in
    let was = ap (λ (s : Slot _ _ _ _). s.entry)
    (slot_is (item_at i.slots t) x old.0 c.bury-item.result old.1 writes.was) in
    let stands : Some AmongCold ≡ Some (stand_in x.entry) =
    sym (stand_of-first_cold i.slots i.index i.rings
    c.self.invariant.standing.cold_ring c.args.token (rw (← c.self.view_is) at c.requires))
    ∙ ap stand_of writes.was in
    let weighs : weight_at (item_at i.slots t) ≡ c.weight-weight.result = ap weight_at writes.was
    ∙ ap weight_in was ∙ sym c.weight-weight.ensures in
    let left : Rings = record i.rings { cold = without_first c.weight-weight.result i.rings.cold } in
    let leaves : LeavesRingOf i.rings left t false c.weight-weight.result AmongCold =
    first_cold-left i.slots i.index i.rings c.self.invariant.standing c.args.token
    (rw (← c.self.view_is) at c.requires) c.weight-weight.result weighs in
    record {
      weighs = first_cold-weighs i.slots i.index i.rings c.self.invariant.standing c.args.token
          (rw (← c.self.view_is) at c.requires) c.weight-weight.result weighs;
      enters = can_enter-moved i.slots i.index t false i.rings left i.loading c.self.invariant x y
          writes.was refl (omega arith) AmongCold c.weight-weight.result (cc stands)
          (c.weight-weight.ensures ∙ sym (ap weight_in was)) leaves 0 (omega arith) AmongGhosts;
    }

-- neither the item nor the ghost is a placeholder
pub invariant_of-self : goal.invariant_of-self
invariant_of-self g c =
    let i = c.self.inside in
    let t = number c.args.token in
    let writes = c.bury-item.ensures.writes in
    let x = writes.slot in
    let y = with_entry Entry.Ghost x in
    let old = c.bury-item.ensures.old in
    let was = ap (λ (s : Slot _ _ _ _). s.entry)
    (slot_is (item_at i.slots t) x old.0 c.bury-item.result old.1 writes.was) in
    let stands : Some AmongCold ≡ Some (stand_in x.entry) =
    sym (stand_of-first_cold i.slots i.index i.rings
    c.self.invariant.standing.cold_ring c.args.token (rw (← c.self.view_is) at c.requires))
    ∙ ap stand_of writes.was in
    let weighs : weight_at (item_at i.slots t) ≡ c.weight-weight.result = ap weight_at writes.was
    ∙ ap weight_in was ∙ sym c.weight-weight.ensures in
    let left : Rings = record i.rings { cold = without_first c.weight-weight.result i.rings.cold } in
    let leaves : LeavesRingOf i.rings left t false c.weight-weight.result AmongCold =
    first_cold-left i.slots i.index i.rings c.self.invariant.standing c.args.token
    (rw (← c.self.view_is) at c.requires) c.weight-weight.result weighs in
    rw writes.is (IsSound-requeued i.slots i.index t false i.rings left i.loading
    c.self.invariant x y writes.was refl (omega arith) AmongCold c.weight-weight.result
    (cc stands) (c.weight-weight.ensures ∙ sym (ap weight_in was)) leaves
    c.bury_first.new.self AmongGhosts 0 refl refl c.bury_first.ensures refl refl)

pub returns : goal.returns
returns g c =
    let i = c.self.inside in
    let t = number c.args.token in
    let writes = c.bury-item.ensures.writes in
    let x = writes.slot in
    let y = with_entry Entry.Ghost x in
    let old = c.bury-item.ensures.old in
    let was = ap (λ (s : Slot _ _ _ _). s.entry)
    (slot_is (item_at i.slots t) x old.0 c.bury-item.result old.1 writes.was) in
    let stands : Some AmongCold ≡ Some (stand_in x.entry) =
    sym (stand_of-first_cold i.slots i.index i.rings
    c.self.invariant.standing.cold_ring c.args.token (rw (← c.self.view_is) at c.requires))
    ∙ ap stand_of writes.was in
    let weighs : weight_at (item_at i.slots t) ≡ c.weight-weight.result = ap weight_at writes.was
    ∙ ap weight_in was ∙ sym c.weight-weight.ensures in
    let left : Rings = record i.rings { cold = without_first c.weight-weight.result i.rings.cold } in
    let leaves : LeavesRingOf i.rings left t false c.weight-weight.result AmongCold =
    first_cold-left i.slots i.index i.rings c.self.invariant.standing c.args.token
    (rw (← c.self.view_is) at c.requires) c.weight-weight.result weighs in
    rw (← c.self.view_is, ← was, writes.is) (Replaces-moved i.slots i.index t false i.rings left i.loading
    c.self.invariant x y writes.was refl (omega arith) AmongCold c.weight-weight.result
    (cc stands) (c.weight-weight.ensures ∙ sym (ap weight_in was)) leaves
    c.bury_first.new.self AmongGhosts 0 refl refl c.bury_first.ensures)
