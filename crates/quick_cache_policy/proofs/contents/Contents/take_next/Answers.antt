use Rattle.std.specs.Int.NonZero.{non_zero_u32_get as number}
use Rattle.quick_cache_policy.proofs.TokenLemmas.{TakesToken-state}
use Rattle.quick_cache_policy.proofs.contents.Contents.take_next.Goals as goal

pub returns-clause-takes : goal.returns-clause-takes
returns-clause-takes g c =
    TakesToken-state g.P.SharedPlaceholder.ticket_of c.args.self.now c.take_item.new.self
    c.facts.ensures.apart (number c.in_ok-token.token) c.take_item.result c.take_item.ensures.takes
