use Rattle.std.proofs.Common.{◌∙◌, ap}
use Rattle.promises.proofs.LentLemmas.{lent-shown, none-shown}
use Rattle.promises.proofs.behind_a_lock.shards.peek_and_lend.Goals as goal

-- the value that is lent is the one that a peek shows
pub returns-in-Some : goal.returns-in-Some
returns-in-Some g c =
    let at = c.drop-reference.ensures.reweighs in
    let lent = c.in-Some.reference in
    c.copied-shown.ensures ∙ lent-shown (g.K.PartialEq.eq c.args.key.now) c.args.shard.now.state
    (c.peek.ensures.sound.valid.one_entry_a_key c.args.key.now) _ c.peek.ensures.sees
    (g.K.PartialEq.eq lent.query.now) lent.shard.now.state
    (ap g.K.PartialEq.eq c.in-Some.ensures.query) (λ i. (c.in-Some.ensures.same i).state)
    c.deref.result.now c.deref.ensures at.place at.before at.item at.after at.at

-- and where none is lent, none is shown
pub returns-in-None : goal.returns-in-None
returns-in-None g c =
    c.copied-shown.ensures ∙ none-shown (g.K.PartialEq.eq c.args.key.now) c.args.shard.now.state
    (c.peek.ensures.sound.valid.one_entry_a_key c.args.key.now) _ c.peek.ensures.sees
    c.in-None.ensures.absent
