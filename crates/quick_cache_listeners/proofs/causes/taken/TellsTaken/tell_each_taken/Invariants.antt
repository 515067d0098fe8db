use Rattle.std.specs.List.{FoldsTo}
use Rattle.quick_cache_listeners.proofs.causes.taken.TellsTaken.tell_each_taken.Given as goal

-- the pairs that came were told, and the iterator goes on
abbrev pub invariant-loop-key : goal.invariant-loop-key
invariant-loop-key g l =
    (goal.iterator-loop-key g).can_next l.pairs × (goal.iterator-loop-key g).is_finite l.pairs
    × FoldsTo (λ before pair after. g.Self.TellsTaken.tells_taken l.fn.self before pair.0 pair.1
    l.fn.cause after) l.fn.state l.yielded l.state
