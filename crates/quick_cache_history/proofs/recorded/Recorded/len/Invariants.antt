use Rattle.quick_cache_shard.specs.Goes.{goes_by}
use Rattle.quick_cache_history.specs.Rows.{Counts, OnEach}
use Rattle.quick_cache_history.proofs.recorded.Recorded.len.Given as goal

-- the items of the shards up to here were counted
abbrev pub invariant-loop-number : goal.invariant-loop-number
invariant-loop-number g l = OnEach
    (Counts (goes_by g.K.Hash.hash_input g.We.Weighter g.B.BuildHasher g.B.Hasher.Hasher
    g.L.Lifecycle)
    g.L.RequestState.Default.is_default g.K.PartialEq.eq) (l.fn.seat, 0) l.number (l.seat, l.total)
