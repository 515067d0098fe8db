use Rattle.std.proofs.Common.{is_some}
use Rattle.quick_cache_model.specs.declared.calls.call.Call.{Call}
use Rattle.quick_cache_model.specs.declared.calls.reply.Reply.{Reply}
use Rattle.quick_cache_history.proofs.CallerLemmas.{Extends-made, Extends-mine}
use Rattle.promises.proofs.behind_a_lock.history.take_small.Goals as goal

pub returns-clause-made : goal.returns-clause-made
returns-clause-made g c =
    Extends-made _ _ _ (Call.RemoveIf c.args.key (is_some c.remove_if.result))
    (Reply.Pair c.remove_if.result) c.args.seat.now c.remove_if.new.seat
    c.remove_if.ensures.extends

pub returns-clause-once : goal.returns-clause-once
returns-clause-once g c =
    Extends-mine _ c.args.seat.now c.remove_if.new.seat c.remove_if.ensures.extends
