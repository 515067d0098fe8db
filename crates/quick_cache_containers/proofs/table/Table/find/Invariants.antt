use Rattle.std.proofs.Common.{Option}
use Rattle.std.specs.declared.num.NonZeroU32.{NonZeroU32}
use Rattle.quick_cache_containers.specs.Table.{SearchesAlong}
use Rattle.quick_cache_containers.proofs.table.Table.find.Given as goal

-- a search along the tokens that are left is one along all of them
abbrev pub invariant-loop-token : goal.invariant-loop-token
invariant-loop-token g l = record {
  callable : goal.F-IsAlwaysCallable g l.is_it;
  onward : (result : Option NonZeroU32)
      → SearchesAlong (goal.F-step g) l.is_it l.token-iterator result
      → SearchesAlong (goal.F-step g) l.fn.is_it l.initial.token-iterator result;
}
