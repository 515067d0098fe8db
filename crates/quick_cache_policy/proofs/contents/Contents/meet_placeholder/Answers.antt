use Rattle.std.proofs.Common.{◌≡◌, sym, ap, subst, ◌∙◌, arith}
use Rattle.std.specs.Int.NonZero.{non_zero_u32_get as number}
use Rattle.quick_cache_model.specs.Placeholders.{MeetsPlaceholder}
use Rattle.quick_cache_model.specs.Touches.{counted_up}
use Rattle.quick_cache_model.proofs.OrderLaws.{UpToOrder-exact}
use Rattle.quick_cache_store.specs.Lists.{HeldLoading}
use Rattle.quick_cache_store.specs.Views.{loading_entry, loading_entries}
use Rattle.quick_cache_policy.specs.Contents.{state_of}
use Rattle.quick_cache_policy.proofs.FindLemmas.{IsLoadingAt-stands}
use Rattle.quick_cache_policy.proofs.FillLemmas.{awaited-is_loading}
use Rattle.quick_cache_policy.proofs.contents.Contents.meet_placeholder.Goals as goal

pub awaited-requires : goal.awaited-requires
awaited-requires g c =
    (c.requires.found.waiting, c.requires.found.stands, c.requires.found.named)

-- its ticket is that of the placeholder that was found
pub returns-clause-meets : goal.returns-clause-meets
returns-clause-meets g c =
    let ticket_of = g.P.SharedPlaceholder.ticket_of in
    let contents = c.args.self.now in
    let stands_for = g.Q.Equivalent.equivalent c.args.query.now in
    let found = c.requires.found in
    let is = awaited-is_loading contents.lists c.facts.ensures.apart (number c.args.token)
    c.awaited.ensures.0 c.awaited.result c.awaited.ensures.1 found.waiting found.stands found.named
    in
    let ticket : ticket_of found.waiting.placeholder
    ≡ g.P.SharedPlaceholder.own_ticket c.met-placeholder.result =
    sym (c.met-placeholder.ensures.ticket ∙ ap ticket_of c.placeholder.ensures
    ∙ ap (λ (w : HeldLoading _ _). ticket_of w.placeholder) is) in
    let hits : counted_up 1 contents.hits ≡ c.saturating_add-self.result =
    omega (arith, c.saturating_add-self.ensures) in
    UpToOrder-exact _ _
    (subst (λ n. MeetsPlaceholder stands_for (state_of ticket_of contents) n
    (record (state_of ticket_of contents) { hits = c.saturating_add-self.result })) ticket
    (subst (λ h. MeetsPlaceholder stands_for (state_of ticket_of contents)
    (ticket_of found.waiting.placeholder) (record (state_of ticket_of contents) { hits = h })) hits
    (MeetsPlaceholder.is_there (loading_entries ticket_of found.stands.before)
    (loading_entry ticket_of found.waiting) (loading_entries ticket_of found.stands.after)
    (IsLoadingAt-stands ticket_of stands_for c.args.hash contents found.stands.before found.waiting
    found.stands.after found.stands.split found.passes))))
