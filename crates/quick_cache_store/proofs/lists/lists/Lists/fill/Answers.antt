use Rattle.std.proofs.Common.{◌≡◌, ◌∙◌, sym, ap, subst, Some, ℕ, ◌+◌, ◌-◌, ◌<◌, false, arith, refl}
use Rattle.std.specs.Int.NonZero.{non_zero_u32_get as number}
use Rattle.quick_cache_store.specs.Pool.{item_at, with_item}
use Rattle.quick_cache_store.specs.declared.slots.entry.Entry.{Entry}
use Rattle.quick_cache_store.specs.Fills.{filled}
use Rattle.quick_cache_store.specs.Lists.{PutsLast, without_entry}
use Rattle.quick_cache_store.specs.ListSlots.{slot_filled, AmongLoading, stand_in, weight_in, loading_in, entry_filled, stand_by}
use Rattle.quick_cache_store.specs.Sound.{IsSound, lists_of}
use Rattle.quick_cache_store.proofs.lists.AwaitedLemmas.{awaited_by_token, loading_by_token}
use Rattle.quick_cache_store.proofs.lists.CountLemmas.{loading_in-slot, PutsItem-from}
use Rattle.quick_cache_store.proofs.lists.MoveLemmas.{can_enter-moved, last-moved, room-moved, next-moved, IsSound-moved, loading-kept}
use Rattle.quick_cache_store.proofs.lists.StandLemmas.{StandsIn-loading}
use Rattle.quick_cache_store.proofs.lists.lists.Lists.fill.Goals as goal

-- what has the token of a placeholder is one
pub fill-requires : goal.fill-requires
fill-requires g c =
    let i = c.self.inside in
    loading_by_token i.slots i.index i.rings (number c.args.token)
    (rw (← c.self.view_is) at c.requires)

-- a placeholder is in no ring
pub enter_item-requires : goal.enter_item-requires
enter_item-requires g c =
    let i = c.self.inside in
    let t = number c.args.token in
    let x = c.fill.ensures.slot in
    let at = c.fill.ensures.was in
    let has = awaited_by_token i.slots i.index i.rings t
    (rw (← c.self.view_is) at c.requires) x at in
    let change = filled c.args.queue c.args.mark c.args.weight c.args.value in
    let item = change has.0.key in
    let y = slot_filled change x in
    let entry : y.entry ≡ Entry.Item item = ap (entry_filled change) has.1 in
    can_enter-moved i.slots i.index t false i.rings i.rings i.loading
    c.self.invariant x y at refl (omega (arith, sym (ap weight_in entry))) AmongLoading 0
    (sym (ap stand_in has.1)) (sym (ap weight_in has.1)) refl
    c.args.weight (omega arith) (stand_by c.args.weight c.args.queue)

pub overflow_sub-self : goal.overflow_sub-self
overflow_sub-self g c =
    let i = c.self.inside in
    let t = number c.args.token in
    let x = c.fill.ensures.slot in
    let at = c.fill.ensures.was in
    let has = awaited_by_token i.slots i.index i.rings t
    (rw (← c.self.view_is) at c.requires) x at in
    let change = filled c.args.queue c.args.mark c.args.weight c.args.value in
    let item = change has.0.key in
    let y = slot_filled change x in
    let entry : y.entry ≡ Entry.Item item = ap (entry_filled change) has.1 in
    omega (
      arith,
      loading-kept i.slots i.index t false i.rings i.rings i.loading
          c.self.invariant x y at refl (omega (arith, sym (ap weight_in entry))) AmongLoading 0
          (sym (ap stand_in has.1)) (sym (ap weight_in has.1)) refl,
    )

-- there is one placeholder less
pub invariant_of-self : goal.invariant_of-self
invariant_of-self g c =
    let i = c.self.inside in
    let t = number c.args.token in
    let x = c.fill.ensures.slot in
    let at = c.fill.ensures.was in
    let has = awaited_by_token i.slots i.index i.rings t
    (rw (← c.self.view_is) at c.requires) x at in
    let change = filled c.args.queue c.args.mark c.args.weight c.args.value in
    let item = change has.0.key in
    let y = slot_filled change x in
    let entry : y.entry ≡ Entry.Item item = ap (entry_filled change) has.1 in
    let now : y ≡ record { hash = x.hash; entry = Entry.Item item } =
    λ i. record { hash = x.hash; entry = entry i } in
    let none : loading_in (stand_by c.args.weight c.args.queue) ≡ 0 =
    ap loading_in (sym (ap stand_in entry)) ∙ loading_in-slot y x.hash item now in
    let less : i.loading - 1 + 0 ≡ i.loading - 1 = omega arith in
    rw c.fill.ensures.is (subst (λ (n : ℕ). IsSound (with_item i.slots t y) i.index
    c.enter_item.new.self n) less
    (IsSound-moved i.slots i.index t false i.rings i.rings i.loading
    c.self.invariant x y at refl (omega (arith, sym (ap weight_in entry))) AmongLoading 0
    (sym (ap stand_in has.1)) (sym (ap weight_in has.1)) refl
    c.enter_item.new.self (stand_by c.args.weight c.args.queue) c.args.weight
    (sym (ap stand_in entry)) (sym (ap weight_in entry)) c.enter_item.ensures 1 0 refl (sym none)))

pub returns : goal.returns
returns g c =
    let i = c.self.inside in
    let t = number c.args.token in
    let x = c.fill.ensures.slot in
    let at = c.fill.ensures.was in
    let has = awaited_by_token i.slots i.index i.rings t
    (rw (← c.self.view_is) at c.requires) x at in
    let change = filled c.args.queue c.args.mark c.args.weight c.args.value in
    let item = change has.0.key in
    let y = slot_filled change x in
    let entry : y.entry ≡ Entry.Item item = ap (entry_filled change) has.1 in
    let last = last-moved i.slots i.index t false i.rings i.rings i.loading
    c.self.invariant x y at refl (omega (arith, sym (ap weight_in entry))) AmongLoading 0
    (sym (ap stand_in has.1)) (sym (ap weight_in has.1)) refl
    c.enter_item.new.self (stand_by c.args.weight c.args.queue) c.args.weight
    (sym (ap stand_in entry)) (sym (ap weight_in entry)) c.enter_item.ensures in
    let room = room-moved i.slots i.index t false i.rings i.rings i.loading
    c.self.invariant x y at refl (omega (arith, sym (ap weight_in entry))) AmongLoading 0
    (sym (ap stand_in has.1)) (sym (ap weight_in has.1)) refl
    c.enter_item.new.self (stand_by c.args.weight c.args.queue) c.args.weight
    (sym (ap stand_in entry)) (sym (ap weight_in entry)) c.enter_item.ensures in
    let next = next-moved i.slots i.index t false i.rings i.rings i.loading
    c.self.invariant x y at refl (omega (arith, sym (ap weight_in entry))) AmongLoading 0
    (sym (ap stand_in has.1)) (sym (ap weight_in has.1)) refl
    c.enter_item.new.self (stand_by c.args.weight c.args.queue) c.args.weight
    (sym (ap stand_in entry)) (sym (ap weight_in entry)) c.enter_item.ensures in
    let left = without_entry false t (lists_of i.slots i.index i.rings) in
    let new = lists_of (with_item i.slots t y) i.index c.enter_item.new.self in
    let puts = subst (λ (e : Entry _ _ _ _). PutsLast left t x.hash e new) entry last in
    let here : item_at i.slots t ≡ Some (record { hash = x.hash; entry = Entry.Loading has.0 }) =
    at ∙ ap (λ (e : Entry _ _ _ _). Some (record x { entry = e })) has.1 in
    rw (← c.self.view_is) (record {
      hash = x.hash;
      awaited = has.0;
      taken = StandsIn-loading i.slots i.index i.rings c.self.invariant.standing t _ _ here refl;
      last = rw c.fill.ensures.is (PutsItem-from left new t x.hash item puts);
      room = rw c.fill.ensures.is room;
      next = rw c.fill.ensures.is next;
    })
