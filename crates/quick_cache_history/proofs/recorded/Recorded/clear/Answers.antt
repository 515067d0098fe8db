use Rattle.quick_cache_history.specs.Rows.{OnEach}
use Rattle.quick_cache_history.proofs.recorded.Recorded.clear.Goals as goal

pub loop-number-init : goal.loop-number-init
loop-number-init g c = OnEach.none

-- and so was one more
pub loop-number-preserved : goal.loop-number-preserved
loop-number-preserved g c = OnEach.more c.loop-number.number c.loop-number.seat _
    c.loop-number.invariant (rw (← c.place_at-place.ensures.number) (record {
      extends = c.clear.ensures.extends;
      run = record {
        shard = c.clear.new.self.shard;
        stands = c.clear.ensures.run;
        holds = tt;
      };
    }))
