use Rattle.std.specs.List.{FoldsTo}
use Rattle.quick_cache_shard.specs.Shard.{KeepsWork}
use Rattle.quick_cache_shard.specs.Steps.{goes_by}
use Rattle.quick_cache_unsync.specs.Saving.{ComesBack}
use Rattle.quick_cache_unsync.proofs.cache.Cache.restore_all.Given as goal

-- the pairs that came are back or left out, and the iterator goes on
abbrev pub invariant-loop-key : goal.invariant-loop-key
invariant-loop-key g l =
    (goal.iterator-loop-key g).can_next l.pairs × (goal.iterator-loop-key g).is_finite l.pairs
    × FoldsTo (ComesBack (goes_by g.K.Hash.hash_input g.We.Weighter g.B.BuildHasher g.B.Hasher.Hasher
    g.L.Lifecycle) g.K.PartialEq.eq) l.fn.self l.yielded l.self
    × KeepsWork l.fn.self l.self
