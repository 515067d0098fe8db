use Rattle.std.proofs.Common.{sym, ◌∙◌}
use Rattle.std.specs.Int.NonZero.{non_zero_u32_get as number}
use Rattle.quick_cache_store.proofs.lists.PlaceholderLemmas.{PassesNoneMeant-start, PassesNoneMeant-past, FindsPlaceholder-walk}
use Rattle.quick_cache_store.proofs.lists.PlaceholderLemmas.{HasNoPlaceholder-walk}
use Rattle.quick_cache_store.proofs.lists.lists.Lists.seek_placeholder.Goals as goal

pub loop-token-init : goal.loop-token-init
loop-token-init g c = PassesNoneMeant-start (g.M.Meaning.means c.args.by.now) _

-- the slot that the walk has come to
pub returns-then-is_meant : goal.returns-then-is_meant
returns-then-is_meant g c =
    let i = c.self.inside in
    rw (← c.self.view_is) (FindsPlaceholder-walk i.slots i.index i.rings c.self.invariant.standing (g.M.Meaning.means c.args.by.now) _ _ _
    (number c.in-Some.token) c.in-Some.slot
    (c.into_iter-token-iterator.ensures.into_iter_gives ∙ c.iter_from-token-items.ensures)
    c.in-Some.ensures.steps c.loop-token.invariant (sym c.is_meant.ensures ∙ c.if-is_meant.true))

pub loop-token-preserved : goal.loop-token-preserved
loop-token-preserved g c =
    PassesNoneMeant-past (g.M.Meaning.means c.args.by.now) _ _ _ (number c.in-Some.token)
    c.in-Some.slot c.in-Some.ensures.steps (sym c.is_meant.ensures ∙ c.if-is_meant.false)
    c.loop-token.invariant

-- none is left
pub returns : goal.returns
returns g c =
    let i = c.self.inside in
    rw (← c.self.view_is) (HasNoPlaceholder-walk i.slots i.index i.rings c.self.invariant.standing (g.M.Meaning.means c.args.by.now) _ _
    (c.into_iter-token-iterator.ensures.into_iter_gives ∙ c.iter_from-token-items.ensures)
    c.in-None.ensures.steps.0 c.loop-token.invariant)
