use Rattle.std.proofs.Common.{◌≡◌, length}
use Rattle.quick_cache_store.specs.Pool.{entries_past}
use Rattle.quick_cache_store.specs.Stack.{slots_past, AreLeft}
use Rattle.quick_cache_store.proofs.pool.iter.IterFromIterator.next.Given as goal

-- only free slots were passed over
abbrev pub invariant-loop-first : goal.invariant-loop-first
invariant-loop-first g l =
    let it = l.self-inside in record {
      left : AreLeft g.T.Blank.is_blank g.T.Blank.note_of it.free.now it.passed it.items.now;
      same : entries_past it.passed (slots_past it.free.now it.passed it.items.now) ≡ l.fn.self;
    }

abbrev pub decreases-loop-first : goal.decreases-loop-first
decreases-loop-first g l = length l.self-inside.items.now
