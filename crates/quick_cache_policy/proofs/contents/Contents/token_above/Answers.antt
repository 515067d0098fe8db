use Rattle.quick_cache_policy.proofs.TokenLemmas.{IsFirstAbove-all}
use Rattle.quick_cache_policy.proofs.contents.Contents.token_above.Goals as goal

pub returns-in-Some : goal.returns-in-Some
returns-in-Some g c = (c.first_above.ensures.found c.in-Some.token c.in-Some.is).1

pub returns : goal.returns
returns g c =
    IsFirstAbove-all g.P.SharedPlaceholder.ticket_of c.args.self.now c.numbered.ensures
    c.first_above-2.result c.first_above-2.ensures
