use Rattle.std.proofs.Common.{subst, arith}
use Rattle.quick_cache_sync.specs.Shards.{IsDivision}
use Rattle.quick_cache_history.proofs.recorded.Recorded.new.Goals as goal

-- there are as many shards as the sizes tell: some, and their number is a power of two
pub invariant_of-result : goal.invariant_of-result
invariant_of-result g c =
    subst IsDivision
    (omega (
      arith,
      c.loop-number.invariant.len,
      c.loop-number.auto.number-end,
      c.loop-number-test.false,
    ))
    (record { some = c.history.invariant.some; power = c.history.invariant.count.power })
