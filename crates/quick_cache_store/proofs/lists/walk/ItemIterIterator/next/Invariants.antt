use Rattle.std.proofs.Common.{◌≡◌, length}
use Rattle.quick_cache_store.specs.ListWalks.{items_in}
use Rattle.quick_cache_store.proofs.lists.walk.ItemIterIterator.next.Given as goal

-- no item was passed over, and as many are left as are counted
abbrev pub invariant-loop-slot : goal.invariant-loop-slot
invariant-loop-slot g l = record {
  items : items_in l.self-inside.slots ≡ l.fn.self;
  counted : length (items_in l.self-inside.slots) ≡ l.self-inside.left;
}

abbrev pub decreases-loop-slot : goal.decreases-loop-slot
decreases-loop-slot g l = length l.self-inside.slots
