use Rattle.std.proofs.Common.{arith, Some}
use Rattle.quick_cache_policy.specs.Contents.{state_of}
use Rattle.quick_cache_policy.proofs.FindLemmas.{HasNoItem-state, found-under}
use Rattle.quick_cache_policy.proofs.ReferenceLemmas.{count_under-none, IsSome-from}
use Rattle.quick_cache_policy.proofs.contents.Contents.token_under.Goals as goal

-- the item of the token has a key that the query stands for, and so its hash
pub returns-in-Some-item_if_under : goal.returns-in-Some-item_if_under
returns-in-Some-item_if_under g c =
    let stands_for = g.Q.Equivalent.equivalent c.args.query.now in
    let is = c.in-Some-item_if_under.ensures in
    found-under stands_for c.args.hash c.args.self.now.lists c.requires.under
    (Some c.in-Some.token)
    (is.0.0, record { item = c.in-Some-item_if_under.field-0; stands = is.0.1; passes = is.1 })

-- an item was counted, so one was found
pub unwrap-requires : goal.unwrap-requires
unwrap-requires g c =
    let stands_for = g.Q.Equivalent.equivalent c.args.query.now in
    IsSome-from _ _ c.find_item.result c.find_item.ensures
    (λ none. omega (
      arith,
      c.requires.there,
      count_under-none stands_for (state_of g.P.SharedPlaceholder.ticket_of c.args.self.now)
          (HasNoItem-state g.P.SharedPlaceholder.ticket_of stands_for c.args.hash c.args.self.now
          c.requires.under none),
    ))
