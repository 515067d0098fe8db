use Rattle.std.proofs.Common.{Ok}
use Rattle.std.specs.List.{AllByRecursion}
use Rattle.quick_cache_shard.specs.Steps.{goes_by}
use Rattle.quick_cache_sync.proofs.FillLemmas.{Answers}
use Rattle.quick_cache_sync.proofs.cache.Cache.fill.Given as goal

-- the pairs that came were taken, and the iterator goes on
abbrev pub invariant-loop-key : goal.invariant-loop-key
invariant-loop-key g l =
    (goal.iterator-loop-key g).can_next l.pairs × (goal.iterator-loop-key g).is_finite l.pairs
    × AllByRecursion (λ pair. Answers g.L.Lifecycle (goes_by g.K.Hash.hash_input g.We.Weighter
    g.B.BuildHasher g.B.Hasher.Hasher g.L.Lifecycle) g.L.RequestState.Default.is_default
    g.K.PartialEq.eq g.I.Iterator.next_gives l.fn.pairs pair.0 pair.1 (Ok tt)) l.yielded
