use Rattle.std.proofs.Common.{◌+◌, ◌∙◌, ap, min}
use Rattle.quick_cache_history.specs.Rows.{OnEach}
use Rattle.quick_cache_history.proofs.recorded.Recorded.len.Goals as goal

pub loop-number-init : goal.loop-number-init
loop-number-init g c = OnEach.none

-- and so were those of one more
pub loop-number-preserved : goal.loop-number-preserved
loop-number-preserved g c = OnEach.more c.loop-number.number
    (c.loop-number.seat, c.loop-number.total) _ c.loop-number.invariant
    (rw (← c.place_at-place.ensures.number) (record {
      longer = c.look.ensures.longer;
      seat = c.look.ensures.seat;
      shows = record {
        shard = c.look.result.now;
        stands = c.look.ensures.run;
        holds = c.saturating_add-total.ensures ∙ ap (λ n. min (c.loop-number.total + n) _)
            c.count-items.ensures.shows;
      };
    }))
