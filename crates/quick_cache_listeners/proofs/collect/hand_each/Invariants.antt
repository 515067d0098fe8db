use Rattle.std.specs.List.{FoldsTo}
use Rattle.std.specs.Vec.Iter.{into_iter_items, into_iter_len}
use Rattle.quick_cache_listeners.proofs.collect.hand_each.Given as goal

-- If the calls at the pairs that are left end in a state, those at all pairs end in it.
abbrev pub invariant-loop-key : goal.invariant-loop-key
invariant-loop-key g l =
    goal.F-IsAlwaysCallable g l.tell
    × ((last : _) → FoldsTo (λ old pair new. goal.F-step g old pair.0 pair.1 tt new) l.tell
    (into_iter_items l.rest) last
    → FoldsTo (λ old pair new. goal.F-step g old pair.0 pair.1 tt new) l.fn.tell l.fn.pairs.items last)

abbrev pub decreases-loop-key : goal.decreases-loop-key
decreases-loop-key g l = into_iter_len l.rest
