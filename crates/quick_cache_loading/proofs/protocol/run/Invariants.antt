use Rattle.std.proofs.Common.{◌≡◌, ◌≤◌, length, vec_len, vec_capacity}
use Rattle.quick_cache_loading.specs.LoadingRun.{LoadingRun}
use Rattle.quick_cache_loading.proofs.protocol.run.Given as goal

-- The events so far are a schedule with the answers so far, and there is room for the others.
abbrev pub invariant-loop-event : goal.invariant-loop-event
invariant-loop-event g l = record {
  steps : LoadingRun g.V.Clone.is_clone l.initial.core l.yielded l.answers.items l.core;
  count : vec_len l.answers ≡ length l.yielded;
  room : vec_len l.fn.events ≤ vec_capacity l.answers;
}
