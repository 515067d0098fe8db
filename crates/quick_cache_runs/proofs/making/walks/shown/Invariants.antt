use Rattle.std.proofs.Common.{◌+◌, ◌≤◌, length, vec_len, vec_capacity}
use Rattle.quick_cache_runs.proofs.WalkLemmas.{HasShown}
use Rattle.quick_cache_runs.proofs.making.walks.shown.Given as goal

-- the pairs that the loop took are shown, and there is room for those that are left
abbrev pub invariant-loop-key : goal.invariant-loop-key
invariant-loop-key g l = record {
  shown : HasShown g.K.Clone.is_clone g.V.Clone.is_clone l.fn.items l.pairs.items l.key-iterator;
  room : vec_len l.pairs + length l.key-iterator ≤ vec_capacity l.pairs;
}
