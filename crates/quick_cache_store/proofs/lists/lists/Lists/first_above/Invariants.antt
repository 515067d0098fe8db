use Rattle.std.proofs.Common.{◌≡◌}
use Rattle.quick_cache_store.specs.ListSlots.{first_item}
use Rattle.quick_cache_store.proofs.lists.lists.Lists.first_above.Given as goal

abbrev pub invariant-loop-next : goal.invariant-loop-next
invariant-loop-next g l = first_item l.initial.next-iterator ≡ first_item l.next-iterator
