use Rattle.std.proofs.Common.{◌∙◌, sym}
use Rattle.std.specs.Int.NonZero.{non_zero_u32_get as number}
use Rattle.promises.proofs.LentLemmas.{shown-taken}
use Rattle.promises.proofs.behind_a_lock.shards.show_and_take.Goals as goal

-- what stands at the token is shown and is taken out
pub returns : goal.returns
returns g c = c.is_some-is_shown.ensures
    ∙ shown-taken c.args.shard.now (number c.args.token) (λ x. x.now) c.peek_token.result
    c.remove_token.result c.remove_token.new.self c.peek_token.ensures.shown
    c.remove_token.ensures.leaves
    ∙ sym c.is_some.ensures
