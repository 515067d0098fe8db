use Rattle.std.proofs.Common.{◌∙◌, sym, subst}
use Rattle.std.specs.Int.NonZero.{non_zero_u32_get as number}
use Rattle.quick_cache_store.specs.Sound.{PassesNoItem}
use Rattle.quick_cache_store.proofs.lists.FindLemmas.{occupied_by_token, FindsItemOfAnyHash-from, HasNoItem-from, PassesNoItem-start}
use Rattle.quick_cache_store.proofs.lists.FindLemmas.{PassesNoItem-past, PassesNoItem-has, PassesNoItem-none}
use Rattle.quick_cache_store.proofs.lists.lists.Lists.find_item.Goals as goal

-- there was no candidate
pub returns-in-Nothing : goal.returns-in-Nothing
returns-in-Nothing g c =
    let i = c.self.inside in
    let stands_for = g.Q.Equivalent.equivalent c.args.query.now in
    rw (← c.self.view_is) (HasNoItem-from i.slots i.index i.rings
    c.self.invariant.standing c.self.invariant.keyed _ c.args.hash
    (PassesNoItem-none i.slots i.index c.args.hash _ _ c.in-Nothing.ensures
    (PassesNoItem-start i.slots i.index c.args.hash stands_for _ c.self.invariant.keyed
    c.candidates.ensures)))

pub is_item_under-requires : goal.is_item_under-requires
is_item_under-requires g c =
    let i = c.self.inside in
    let stands_for = g.Q.Equivalent.equivalent c.args.query.now in
    let has = PassesNoItem-has i.slots i.index c.args.hash stands_for _ _ c.in-At.first
    c.in-At.ensures.1
    (PassesNoItem-start i.slots i.index c.args.hash stands_for _ c.self.invariant.keyed
    c.candidates.ensures) in
    occupied_by_token i.slots i.index c.self.invariant.keyed (number c.in-At.first) has

-- the first candidate is the item
pub returns-then-is_item_under : goal.returns-then-is_item_under
returns-then-is_item_under g c =
    let i = c.self.inside in
    let stands_for = g.Q.Equivalent.equivalent c.args.query.now in
    let has = PassesNoItem-has i.slots i.index c.args.hash stands_for _ _ c.in-At.first
    c.in-At.ensures.1
    (PassesNoItem-start i.slots i.index c.args.hash stands_for _ c.self.invariant.keyed
    c.candidates.ensures) in
    rw (← c.self.view_is) (FindsItemOfAnyHash-from i.slots i.index i.rings c.self.invariant.standing c.self.invariant.keyed stands_for
    (number c.in-At.first) (sym c.is_item_under.ensures ∙ c.if-is_item_under.true))
