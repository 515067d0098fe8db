use Rattle.std.proofs.Common.{◌≡◌, ◌++◌, ◌+◌, ◌≤◌, Bool, length, vec_len, vec_capacity}
use Rattle.std.specs.Prelude.{All}
use Rattle.std.specs.Vec.Iter.{into_iter_items, into_iter_len}
use Rattle.quick_cache_model.specs.Answered.{AlwaysClones, AreAnswered}
use Rattle.quick_cache_shard.specs.Shard.{KeepsTerms}
use Rattle.quick_cache_shard.specs.Steps.{goes_by}
use Rattle.quick_cache_runs.specs.Asked.{IsAskedAs}
use Rattle.quick_cache_runs.specs.Made.{IsRunBy}
use Rattle.quick_cache_runs.specs.Room.{AreInRoom}
use Rattle.quick_cache_runs.proofs.calls.CallMaker.make_all.Given as goal

-- the calls that the loop took were made, and there is room for the replies of those that are left
abbrev pub invariant-loop-call : goal.invariant-loop-call
invariant-loop-call g l = record {
  split : l.fn.calls.items ≡ l.yielded ++ into_iter_items l.call-iterator;
  run : g.L.Lifecycle.steady l.fn.cache.lifecycle
      → (answers : g.row.F.Denot → g.row.K.Denot → g.row.V.Denot → Bool)
      → All (IsAskedAs g.F.Fn answers) l.fn.calls.items
      → IsRunBy (goes_by g.K.Hash.hash_input g.We.Weighter g.B.BuildHasher g.B.Hasher.Hasher
      g.L.Lifecycle) g.K.PartialEq.eq g.K.Clone.is_clone g.V.Clone.is_clone answers l.fn.cache
      l.fn.state l.yielded l.replies.items l.cache l.state;
  same : KeepsTerms l.fn.cache l.cache;
  left : into_iter_len l.call-iterator ≡ length (into_iter_items l.call-iterator);
  as_many : length l.yielded ≡ length l.replies.items;
  spared : l.fn.cache.room ≤ l.cache.room + length l.yielded;
  asks : AlwaysClones g.K.Clone.is_infallible → AlwaysClones g.V.Clone.is_infallible
      → AreInRoom l.fn.cache.room l.yielded l.replies.items;
  answered : AlwaysClones g.V.Clone.is_infallible → AreAnswered l.yielded l.replies.items;
  room : vec_len l.replies + into_iter_len l.call-iterator ≤ vec_capacity l.replies;
}
