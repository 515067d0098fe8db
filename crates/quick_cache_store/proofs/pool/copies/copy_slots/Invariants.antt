use Rattle.std.proofs.Common.{◌≡◌, ◌≤◌, length, take, vec_capacity}
use Rattle.std.specs.List.{AllZip}
use Rattle.quick_cache_store.specs.Pool.{IsSlotCopy}
use Rattle.quick_cache_store.specs.Stack.{slots_past, AreNoted}
use Rattle.quick_cache_store.proofs.pool.copies.copy_slots.Given as goal

-- the slots up to here are copied, and there is room for the rest
abbrev pub invariant-loop-i : goal.invariant-loop-i
invariant-loop-i g l = record {
  copied : AllZip (IsSlotCopy (g.C.CopyItem.is_copy l.copier))
      (slots_past l.free 0 (take l.i l.items)) (slots_past l.free 0 l.copies.items);
  noted : AreNoted g.T.Blank.is_blank g.T.Blank.note_of l.free 0 l.copies.items;
  len : length l.copies.items ≡ l.i;
  room : length l.items ≤ vec_capacity l.copies;
}
