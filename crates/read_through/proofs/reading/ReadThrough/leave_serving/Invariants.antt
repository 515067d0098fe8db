use Rattle.std.proofs.Common.{◌≡◌, ◌<◌, ◌≤◌, ℕ, None, length, slice_index_or, vec_len}
use Rattle.std.specs.Prelude.{IfSome}
use Rattle.read_through.specs.Answers.{Answers}
use Rattle.read_through.proofs.reading.ReadThrough.leave_serving.Given as goal

-- what was found of the keys up to here serves, and the rest is as it was
abbrev pub invariant-loop-index : goal.invariant-loop-index
invariant-loop-index g l = record {
  one_each : vec_len l.found ≡ length l.keys;
  serve : (i : ℕ) (key : g.row.K.Denot) → i < l.index → key ≡ slice_index_or l.keys i key
      → IfSome (slice_index_or l.found.items i None) (λ loaded. Answers g.S.Source.gives
      g.K.PartialEq.eq key (g.Li.Lives.life_of l.self.lives key) l.now loaded.value);
  rest : (i : ℕ) → l.index ≤ i
      → slice_index_or l.found.items i None ≡ slice_index_or l.fn.found.items i None;
}
