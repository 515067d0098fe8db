use Rattle.std.proofs.Common.{subst}
use Rattle.std.specs.Int.NonZero.{non_zero_u32_get as number}
use Rattle.quick_cache_store.specs.Lists.{IsFirstAbove, number_or_zero}
use Rattle.quick_cache_policy.proofs.TokenLemmas.{TakesToken-state}
use Rattle.quick_cache_policy.proofs.contents.Contents.remove_next.Goals as goal

pub take_item-key-requires : goal.take_item-key-requires
take_item-key-requires g c = (c.first_above.ensures.found c.in-Some.token c.in-Some.is).1

-- no item stands above
pub returns-in_default-clause-first : goal.returns-in_default-clause-first
returns-in_default-clause-first g c =
    subst (λ first. IsFirstAbove c.args.self.now.lists (number_or_zero c.args.after) first)
    c.in_default.is c.first_above.ensures

-- the item of the least token goes
pub returns-clause-first : goal.returns-clause-first
returns-clause-first g c =
    subst (λ first. IsFirstAbove c.args.self.now.lists (number_or_zero c.args.after) first)
    c.in-Some.is c.first_above.ensures

pub returns-clause-takes : goal.returns-clause-takes
returns-clause-takes g c =
    TakesToken-state g.P.SharedPlaceholder.ticket_of c.args.self.now c.take_item-key.new.self
    c.facts.ensures.apart (number c.in-Some.token) c.take_item-key.result
    c.take_item-key.ensures.takes
