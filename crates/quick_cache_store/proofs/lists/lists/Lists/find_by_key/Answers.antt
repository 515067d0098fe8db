use Rattle.std.proofs.Common.{◌∙◌, sym}
use Rattle.std.specs.Int.NonZero.{non_zero_u32_get as number}
use Rattle.quick_cache_store.proofs.lists.FindLemmas.{occupied_by_token, none_of_hash, HasNothing-from, FindsItemOfAnyHash-from}
use Rattle.quick_cache_store.proofs.lists.FindLemmas.{FindsByKey-from, PassesNoItem-start, PassesNoItem-has}
use Rattle.quick_cache_store.proofs.lists.lists.Lists.find_by_key.Goals as goal

-- there is no candidate
pub returns-in-Nothing : goal.returns-in-Nothing
returns-in-Nothing g c =
    let i = c.self.inside in
    let none = none_of_hash i.slots i.index c.self.invariant.keyed c.args.hash _ c.candidates.ensures
    c.in-Nothing.ensures in
    rw (← c.self.view_is) (HasNothing-from i.slots i.index i.rings
    c.self.invariant.standing c.self.invariant.keyed _ c.args.hash
    (λ t has. absurd (none t has)) (λ t has. absurd (none t has)))

pub is_item_under-requires : goal.is_item_under-requires
is_item_under-requires g c =
    let i = c.self.inside in
    let stands_for = g.Q.Equivalent.equivalent c.args.query.now in
    let has = PassesNoItem-has i.slots i.index c.args.hash stands_for _ _ c.in-At.first
    c.in-At.ensures.1
    (PassesNoItem-start i.slots i.index c.args.hash stands_for _ c.self.invariant.keyed
    c.candidates.ensures) in
    occupied_by_token i.slots i.index c.self.invariant.keyed (number c.in-At.first) has

-- the first candidate is the item
pub returns-then-is_item_under : goal.returns-then-is_item_under
returns-then-is_item_under g c =
    let i = c.self.inside in
    let stands_for = g.Q.Equivalent.equivalent c.args.query.now in
    let has = PassesNoItem-has i.slots i.index c.args.hash stands_for _ _ c.in-At.first
    c.in-At.ensures.1
    (PassesNoItem-start i.slots i.index c.args.hash stands_for _ c.self.invariant.keyed
    c.candidates.ensures) in
    rw (← c.self.view_is) (FindsItemOfAnyHash-from i.slots i.index i.rings c.self.invariant.standing c.self.invariant.keyed stands_for
    (number c.in-At.first) (sym c.is_item_under.ensures ∙ c.if-is_item_under.true))

pub returns-else-is_item_under : goal.returns-else-is_item_under
returns-else-is_item_under g c =
    FindsByKey-from (g.Q.Equivalent.equivalent c.args.query.now) c.args.hash c.args.self.now
    c.find_on_walk.result c.find_on_walk.ensures

pub returns-in-Beyond : goal.returns-in-Beyond
returns-in-Beyond g c =
    FindsByKey-from (g.Q.Equivalent.equivalent c.args.query.now) c.args.hash c.args.self.now
    c.find_on_walk-in-Beyond.result c.find_on_walk-in-Beyond.ensures
