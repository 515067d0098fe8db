use Rattle.std.proofs.Common.{◌<◌}
use Rattle.std.specs.Int.NonZero.{non_zero_u32_get as number}
use Rattle.quick_cache_store.specs.Lists.{FindsItem}
use Rattle.quick_cache_store.specs.Views.{items_of}
use Rattle.quick_cache_model.specs.Finding.{HasNoItem}
use Rattle.quick_cache_policy.specs.Contents.{state_of}
use Rattle.quick_cache_policy.specs.References.{count_under}
use Rattle.quick_cache_policy.proofs.FindLemmas.{HasNoItem-state, IsItemAt-stands}
use Rattle.quick_cache_policy.proofs.ReferenceLemmas.{IfNone-from, IfSome-from, count_under-some}
use Rattle.quick_cache_policy.proofs.contents.Contents.token_of.Goals as goal

-- no item was found
pub returns-clause-absent : goal.returns-clause-absent
returns-clause-absent g c =
    let ticket_of = g.P.SharedPlaceholder.ticket_of in
    let stands_for = g.Q.Equivalent.equivalent c.args.query.now in
    IfNone-from _ (HasNoItem stands_for (state_of ticket_of c.args.self.now)) _ c.find_item.result
    (λ none. HasNoItem-state ticket_of stands_for c.args.hash c.args.self.now c.requires.under none)
    c.find_item.ensures

-- the lists found the item of that token
pub returns-clause-finds : goal.returns-clause-finds
returns-clause-finds g c =
    let stands_for = g.Q.Equivalent.equivalent c.args.query.now in
    IfSome-from _ _
    (λ token. FindsItem stands_for c.args.hash c.args.self.now.lists (number token))
    c.find_item.result (λ token finds. finds) c.find_item.ensures

-- and so it is counted
pub returns-clause-there : goal.returns-clause-there
returns-clause-there g c =
    let ticket_of = g.P.SharedPlaceholder.ticket_of in
    let stands_for = g.Q.Equivalent.equivalent c.args.query.now in
    let state = state_of ticket_of c.args.self.now in
    IfSome-from _ (λ token. FindsItem stands_for c.args.hash c.args.self.now.lists (number token))
    (λ _. 0 < count_under stands_for state) c.find_item.result
    (λ token finds. count_under-some stands_for finds.stands.place
    (items_of finds.stands.stands.before) finds.item (items_of finds.stands.stands.after) state
    (IsItemAt-stands ticket_of stands_for c.args.hash c.args.self.now finds.stands.place
    finds.stands.stands.before _ finds.stands.stands.after finds.stands.stands.split finds.passes))
    c.find_item.ensures
