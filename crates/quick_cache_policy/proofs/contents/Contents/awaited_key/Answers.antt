use Rattle.std.proofs.Common.{ap, ◌∙◌}
use Rattle.std.specs.Int.NonZero.{non_zero_u32_get as number}
use Rattle.quick_cache_store.specs.Lists.{HeldLoading}
use Rattle.quick_cache_policy.proofs.FillLemmas.{HasNoTicket-state, awaited-is_loading, left-awaits}
use Rattle.quick_cache_policy.proofs.FindLemmas.{none-found}
use Rattle.quick_cache_policy.proofs.contents.Contents.awaited_key.Goals as goal

-- it is gone
pub returns-in_default : goal.returns-in_default
returns-in_default g c =
    HasNoTicket-state g.P.SharedPlaceholder.ticket_of c.args.self.now
    (g.P.SharedPlaceholder.own_ticket c.args.placeholder.now)
    (none-found _ _ c.in_default.not-Some c.find_placeholder.ensures)

pub awaited-awaited-requires : goal.awaited-awaited-requires
awaited-awaited-requires g c =
    let found = c.in-Some.ensures in (found.waiting, found.stands, found.named)

-- it is there
pub returns : goal.returns
returns g c =
    let ticket_of = g.P.SharedPlaceholder.ticket_of in
    let contents = c.args.self.now in
    let found = c.in-Some.ensures in
    let seen = c.awaited-awaited.ensures in
    left-awaits ticket_of contents c.facts.ensures.apart (number c.in-Some.token) found.waiting
    found.stands found.named (g.P.SharedPlaceholder.own_ticket c.args.placeholder.now)
    found.passes _
    (c.key.ensures ∙ ap (λ (w : HeldLoading _ _). w.key)
    (awaited-is_loading contents.lists c.facts.ensures.apart (number c.in-Some.token) seen.0 _
    seen.1 found.waiting found.stands found.named))
