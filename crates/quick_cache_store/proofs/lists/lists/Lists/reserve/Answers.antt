use Rattle.std.proofs.Common.{refl, ap, length, arith}
use Rattle.quick_cache_store.specs.Pool.{Pool}
use Rattle.quick_cache_store.specs.Rings.{Rings}
use Rattle.quick_cache_store.proofs.lists.ItemLemmas.{IsKeyed-grown, IsSound-grown, bounded-grown, token_count-keyed, lists-reserved}
use Rattle.quick_cache_store.proofs.lists.lists.Lists.reserve.Goals as goal

-- the index has the tokens of all slots, however much room these have
pub grow_index-requires : goal.grow_index-requires
grow_index-requires g c = record {
  keyed = IsKeyed-grown c.self.inside.slots c.reserve.new.self c.self.inside.index
      c.reserve.ensures.kept c.self.invariant.keyed;
}

-- the rings have no more room than what was made in slots and index
pub invariant_of-self-2 : goal.invariant_of-self-2
invariant_of-self-2 g c =
    let i = c.self.inside in
    let count = token_count-keyed i.slots c.reserve.new.self i.index c.grow_index.new.index
    c.reserve.ensures.kept c.self.invariant.keyed c.grow_index.ensures.keyed in
    IsSound-grown i.slots c.reserve.new.self i.index c.grow_index.new.index i.rings
    c.reserve-2.new.self i.loading c.reserve.ensures.kept c.reserve-2.ensures.kept
    (omega (arith, c.in_ok-reserve-2.ensures.room))
    (omega (
      arith,
      count,
      c.in_ok-reserve-2.ensures.room,
      c.len-entries.ensures.value,
      c.spare.ensures,
      c.room.ensures,
      c.self.invariant.keyed.counted,
      c.self.invariant.keyed.few,
      ap (λ (s : Pool _). length s.free) c.reserve.ensures.kept,
      bounded-grown i.slots c.reserve.new.self i.index c.grow_index.new.index i.rings.capacity
          c.reserve.ensures.kept c.reserve.ensures.grows c.grow_index.ensures.grows
          c.self.invariant.bounded,
    )) c.grow_index.ensures.keyed c.self.invariant

pub returns-clause-lists : goal.returns-clause-lists
returns-clause-lists g c =
    let i = c.self.inside in
    rw (← c.self.view_is) (lists-reserved i.slots c.reserve.new.self i.index c.grow_index.new.index
    i.rings c.reserve-2.new.self c.reserve.ensures.kept c.reserve-2.ensures.kept)

-- a refusal may leave room beside the slots
pub invariant_of-self : goal.invariant_of-self
invariant_of-self g c =
    let i = c.self.inside in
    IsSound-grown i.slots c.reserve.new.self i.index i.index i.rings i.rings i.loading
    c.reserve.ensures.kept refl (omega arith)
    (bounded-grown i.slots c.reserve.new.self i.index i.index i.rings.capacity
    c.reserve.ensures.kept c.reserve.ensures.grows (omega arith) c.self.invariant.bounded)
    (IsKeyed-grown i.slots c.reserve.new.self i.index
    c.reserve.ensures.kept c.self.invariant.keyed) c.self.invariant

pub returns-in_err-reserve-clause-lists : goal.returns-in_err-reserve-clause-lists
returns-in_err-reserve-clause-lists g c =
    let i = c.self.inside in
    rw (← c.self.view_is) (lists-reserved i.slots c.reserve.new.self i.index i.index
    i.rings i.rings c.reserve.ensures.kept refl)

-- or in the index
pub invariant_of-self-in_err-grow_index : goal.invariant_of-self-in_err-grow_index
invariant_of-self-in_err-grow_index g c =
    let i = c.self.inside in
    IsSound-grown i.slots c.reserve.new.self i.index c.grow_index.new.index i.rings i.rings
    i.loading c.reserve.ensures.kept refl (omega arith)
    (bounded-grown i.slots c.reserve.new.self i.index c.grow_index.new.index i.rings.capacity
    c.reserve.ensures.kept c.reserve.ensures.grows c.grow_index.ensures.grows
    c.self.invariant.bounded) c.grow_index.ensures.keyed c.self.invariant

pub returns-in_err-grow_index-clause-lists : goal.returns-in_err-grow_index-clause-lists
returns-in_err-grow_index-clause-lists g c =
    let i = c.self.inside in
    rw (← c.self.view_is) (lists-reserved i.slots c.reserve.new.self i.index c.grow_index.new.index
    i.rings i.rings c.reserve.ensures.kept refl)

-- or in some of the rings
pub invariant_of-self-in_err-reserve-2 : goal.invariant_of-self-in_err-reserve-2
invariant_of-self-in_err-reserve-2 g c =
    let i = c.self.inside in
    IsSound-grown i.slots c.reserve.new.self i.index c.grow_index.new.index i.rings
    c.reserve-2.new.self i.loading c.reserve.ensures.kept c.reserve-2.ensures.kept
    (omega (arith, ap (λ (r : Rings). r.capacity) c.in_err-reserve-2.ensures.refused))
    (rw c.in_err-reserve-2.ensures.refused (bounded-grown i.slots c.reserve.new.self i.index
    c.grow_index.new.index i.rings.capacity c.reserve.ensures.kept c.reserve.ensures.grows
    c.grow_index.ensures.grows c.self.invariant.bounded)) c.grow_index.ensures.keyed
    c.self.invariant

pub returns-in_err-reserve-2-clause-lists : goal.returns-in_err-reserve-2-clause-lists
returns-in_err-reserve-2-clause-lists g c =
    let i = c.self.inside in
    rw (← c.self.view_is) (lists-reserved i.slots c.reserve.new.self i.index c.grow_index.new.index
    i.rings c.reserve-2.new.self c.reserve.ensures.kept c.reserve-2.ensures.kept)
