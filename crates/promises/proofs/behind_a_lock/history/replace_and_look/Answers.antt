use Rattle.std.proofs.Common.{◌∙◌, ap, false, length}
use Rattle.quick_cache_model.specs.declared.calls.call.Call.{Call}
use Rattle.quick_cache_model.specs.declared.calls.reply.Reply.{Reply}
use Rattle.quick_cache_history.specs.Histories.{reply_of_replace}
use Rattle.quick_cache_history.proofs.CallerLemmas.{HasCall-longer, Extends-made, Extends-longer, Extends-mine}
use Rattle.promises.proofs.HistoryLemmas.{prefix-trans}
use Rattle.promises.proofs.behind_a_lock.history.replace_and_look.Goals as goal

pub returns-clause-longer : goal.returns-clause-longer
returns-clause-longer g c =
    prefix-trans c.args.seat.now.seen c.replace-replaced.new.seat.seen
    c.contains_key-there.new.seat.seen
    (Extends-longer _ c.args.seat.now c.replace-replaced.new.seat c.replace-replaced.ensures.extends)
    c.contains_key-there.ensures.longer

-- the call stands in what was seen, and so in what is
pub returns-clause-made : goal.returns-clause-made
returns-clause-made g c =
    HasCall-longer (Call.Replace c.args.key c.args.value false)
    (reply_of_replace c.replace-replaced.result) c.replace-replaced.new.seat.seen
    c.contains_key-there.new.seat.seen c.contains_key-there.ensures.longer
    (Extends-made _ _ _ (Call.Replace c.args.key c.args.value false)
    (reply_of_replace c.replace-replaced.result) c.args.seat.now c.replace-replaced.new.seat
    c.replace-replaced.ensures.extends)

pub returns-clause-once : goal.returns-clause-once
returns-clause-once g c =
    ap (λ seat. length seat.mine) c.contains_key-there.ensures.seat
    ∙ Extends-mine _ c.args.seat.now c.replace-replaced.new.seat c.replace-replaced.ensures.extends
