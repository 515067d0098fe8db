use Rattle.promises.proofs.HistoryLemmas.{taken-made}
use Rattle.promises.proofs.behind_a_lock.history.take_or_count_up.Goals as goal

-- what was taken out was taken by this call
pub returns-in-Removed : goal.returns-in-Removed
returns-in-Removed g c = taken-made _ _ _ _ _ c.args.key _ c.args.seat.now c.entry-entered.new.seat
    c.in-Removed.pair (rw c.in-Removed.is at c.in_ok-entered.ensures.enters)
