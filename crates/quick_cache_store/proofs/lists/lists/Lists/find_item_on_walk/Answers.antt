use Rattle.std.proofs.Common.{◌∙◌, sym, subst}
use Rattle.std.specs.Int.NonZero.{non_zero_u32_get as number}
use Rattle.quick_cache_store.specs.Sound.{PassesNoItem}
use Rattle.quick_cache_store.proofs.lists.FindLemmas.{occupied_by_token, FindsItemOfAnyHash-from, HasNoItem-from, PassesNoItem-start}
use Rattle.quick_cache_store.proofs.lists.FindLemmas.{PassesNoItem-past, PassesNoItem-has, PassesNoItem-none}
use Rattle.quick_cache_store.proofs.lists.lists.Lists.find_item_on_walk.Goals as goal

pub loop-token-init : goal.loop-token-init
loop-token-init g c =
    let i = c.self.inside in
    let stands_for = g.Q.Equivalent.equivalent c.args.query.now in
    subst (PassesNoItem i.slots i.index c.args.hash stands_for)
    (sym c.into_iter-token-iterator.ensures.into_iter_gives)
    (PassesNoItem-start i.slots i.index c.args.hash stands_for _ c.self.invariant.keyed
    c.candidates-token-items.ensures)

pub is_item_under-requires : goal.is_item_under-requires
is_item_under-requires g c =
    let i = c.self.inside in
    let has = PassesNoItem-has i.slots i.index c.args.hash _ _ _ c.in-Some.token
    c.in-Some.ensures.steps c.loop-token.invariant in
    occupied_by_token i.slots i.index c.self.invariant.keyed (number c.in-Some.token) has

-- a later candidate is the item
pub returns-then-is_item_under : goal.returns-then-is_item_under
returns-then-is_item_under g c =
    let i = c.self.inside in
    let stands_for = g.Q.Equivalent.equivalent c.args.query.now in
    let has = PassesNoItem-has i.slots i.index c.args.hash _ _ _ c.in-Some.token
    c.in-Some.ensures.steps c.loop-token.invariant in
    rw (← c.self.view_is) (FindsItemOfAnyHash-from i.slots i.index i.rings c.self.invariant.standing c.self.invariant.keyed stands_for
    (number c.in-Some.token)
    (sym c.is_item_under.ensures ∙ c.if-is_item_under.true))

-- another candidate was passed
pub loop-token-preserved : goal.loop-token-preserved
loop-token-preserved g c =
    let i = c.self.inside in
    PassesNoItem-past i.slots i.index c.args.hash _ _ _ c.in-Some.token
    c.in-Some.ensures.steps
    (λ _. sym c.is_item_under.ensures ∙ c.if-is_item_under.false)
    c.loop-token.invariant

pub returns : goal.returns
returns g c =
    let i = c.self.inside in
    rw (← c.self.view_is) (HasNoItem-from i.slots i.index i.rings
    c.self.invariant.standing c.self.invariant.keyed _ c.args.hash
    (PassesNoItem-none i.slots i.index c.args.hash _ _ c.in-None.ensures.steps.0
    c.loop-token.invariant))
