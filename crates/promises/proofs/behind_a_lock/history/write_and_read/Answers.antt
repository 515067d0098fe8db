use Rattle.std.proofs.Common.{ap}
use Rattle.quick_cache_model.specs.declared.calls.call.Call.{Call}
use Rattle.quick_cache_model.specs.declared.calls.reply.Reply.{Reply}
use Rattle.quick_cache_history.specs.declared.entry.Entry.{Entry}
use Rattle.quick_cache_history.proofs.CallerLemmas.{HasCall-longer, Extends-made}
use Rattle.promises.proofs.HistoryLemmas.{seen-on, one_more}
use Rattle.promises.proofs.behind_a_lock.history.write_and_read.Goals as goal

pub returns-in-Ok-clause-longer : goal.returns-in-Ok-clause-longer
returns-in-Ok-clause-longer g c =
    let made = c.in-Ok.ensures.extends in
    seen-on c.args.seat.seen c.insert.new.seat.seen c.get.new.seat.seen made.before _ made.longer
    made.ends c.get.ensures.longer

-- the write stands in what was seen, and so in what is
pub returns-in-Ok-clause-made : goal.returns-in-Ok-clause-made
returns-in-Ok-clause-made g c =
    HasCall-longer (Call.Insert c.args.key c.args.value) Reply.Done c.insert.new.seat.seen
    c.get.new.seat.seen c.get.ensures.longer
    (Extends-made _ _ _ (Call.Insert c.args.key c.args.value) Reply.Done c.args.seat
    c.insert.new.seat c.in-Ok.ensures.extends)

pub returns-in-Ok-clause-once : goal.returns-in-Ok-clause-once
returns-in-Ok-clause-once g c =
    one_more c.args.seat.mine c.insert.new.seat.mine c.get.new.seat.mine _
    c.in-Ok.ensures.extends.one_more (ap (λ seat. seat.mine) c.get.ensures.seat)
