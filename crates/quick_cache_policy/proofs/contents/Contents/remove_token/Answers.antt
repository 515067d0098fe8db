use Rattle.std.proofs.Common.{sym, ◌∙◌}
use Rattle.std.specs.Int.NonZero.{non_zero_u32_get as number}
use Rattle.quick_cache_policy.proofs.TokenLemmas.{TakesToken-state, stands-there}
use Rattle.quick_cache_policy.proofs.contents.Contents.remove_token.Goals as goal

pub take_item-requires : goal.take_item-requires
take_item-requires g c =
    stands-there c.args.self.now.lists (number c.args.token) (λ item. item) c.item_at.result
    c.item_at.ensures (sym c.is_some.ensures ∙ c.if-is_some.true)

pub returns-then-is_some-clause-takes : goal.returns-then-is_some-clause-takes
returns-then-is_some-clause-takes g c =
    TakesToken-state g.P.SharedPlaceholder.ticket_of c.args.self.now c.take_item.new.self
    c.facts.ensures.apart (number c.args.token) c.take_item.result c.take_item.ensures.takes
