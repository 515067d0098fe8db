use Rattle.std.proofs.Common.{sym, ◌∙◌}
use Rattle.std.specs.Int.NonZero.{non_zero_u32_get as number}
use Rattle.quick_cache_store.proofs.lists.PlaceholderLemmas.{FindsPlaceholder-at, on-true}
use Rattle.quick_cache_store.proofs.lists.lists.Lists.has_placeholder.Goals as goal

pub returns-in-Some : goal.returns-in-Some
returns-in-Some g c =
    let i = c.self.inside in
    on-true c.is_meant.result
    (λ is. rw (← c.self.view_is) (FindsPlaceholder-at i.slots i.index i.rings c.self.invariant.standing (g.M.Meaning.means c.args.by.now)
    (number c.args.token) _ c.in-Some.ensures.item (sym c.is_meant.ensures ∙ is)))
