use Rattle.std.proofs.Common.{◌∙◌, ap, Some, option_copied}
use Rattle.std.specs.Int.NonZero.{non_zero_u32_get as number}
use Rattle.quick_cache_shard.proofs.TokenValueLemmas.{one-value, no-value}
use Rattle.promises.proofs.behind_a_lock.shards.show_and_lend.Goals as goal

-- the value that is lent is the one that is shown
pub returns-in-Some : goal.returns-in-Some
returns-in-Some g c =
    let of = one-value g.K.PartialEq.eq g.met.K.Eq.laws.refl c.args.shard.now
    c.peek_token.ensures.sound (number c.args.token) (λ x. x.now) c.peek_token.result
    c.peek_token.ensures.shown c.in-Some.reference.shard.now c.in-Some.reference.slot
    c.in-Some.ensures.same c.in-Some.ensures.slot c.deref.result.now c.deref.ensures in
    c.copied-shown.ensures ∙ ap option_copied of.1 ∙ ap (λ (v : g.row.V.Denot). Some v) of.2

-- and where none is lent, none is shown
pub returns-in-None : goal.returns-in-None
returns-in-None g c =
    let none = no-value g.K.PartialEq.eq g.met.K.Eq.laws.refl c.args.shard.now
    c.peek_token.ensures.sound (number c.args.token) (λ x. x.now) c.peek_token.result
    c.peek_token.ensures.shown c.in-None.ensures.absent in
    c.copied-shown.ensures ∙ ap option_copied none
