use Rattle.std.proofs.Common.{ap, ◌∙◌, length}
use Rattle.quick_cache_history.proofs.CallerLemmas.{Clears-longer, Clears-mine, Counts-longer, Counts-mine}
use Rattle.promises.proofs.HistoryLemmas.{prefix-trans}
use Rattle.promises.proofs.behind_a_lock.history.clear_and_count.Goals as goal

-- what was cleared and then counted was seen
pub returns-clause-longer : goal.returns-clause-longer
returns-clause-longer g c =
    prefix-trans c.args.seat.now.seen c.clear.new.seat.seen c.len.new.seat.seen
    (Clears-longer _ _ _ c.args.seat.now c.args.numbers.now.shards c.clear.new.seat
    c.clear.ensures.clears)
    (Counts-longer _ _ _ (c.clear.new.seat, 0) c.args.numbers.now.shards
    (c.len.new.seat, c.len.result) c.len.ensures.counts)

-- and who counts makes no call
pub returns-clause-each : goal.returns-clause-each
returns-clause-each g c =
    ap length (Counts-mine _ _ _ (c.clear.new.seat, 0) c.args.numbers.now.shards
    (c.len.new.seat, c.len.result) c.len.ensures.counts)
    ∙ Clears-mine _ _ _ c.args.seat.now c.args.numbers.now.shards c.clear.new.seat
    c.clear.ensures.clears
