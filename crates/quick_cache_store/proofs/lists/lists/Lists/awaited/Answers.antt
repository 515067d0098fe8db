use Rattle.std.proofs.Common.{sym, ◌∙◌, inl, inr}
use Rattle.std.specs.Int.NonZero.{non_zero_u32_get as number}
use Rattle.quick_cache_store.proofs.lists.AwaitedLemmas.{awaited_by_token, entry_awaited-some, entry_awaited-none, IsAwaitedOf-from}
use Rattle.quick_cache_store.proofs.lists.TakeLemmas.{occupied_by_entry}
use Rattle.quick_cache_store.proofs.lists.lists.Lists.awaited.Goals as goal

pub slot-requires : goal.slot-requires
slot-requires g c =
    let i = c.self.inside in
    occupied_by_entry i.slots i.index i.rings (number c.args.token)
    (inr (inl (rw (← c.self.view_is) at c.requires)))

-- what has the token of a placeholder is that
pub unreachable-requires : goal.unreachable-requires
unreachable-requires g c =
    let i = c.self.inside in
    let has = awaited_by_token i.slots i.index i.rings
    (number c.args.token) (rw (← c.self.view_is) at c.requires) c.slot.result
    c.slot.ensures in
    entry_awaited-none c.slot.result.entry has.0 has.1
    (sym c.as_awaited.ensures ∙ c.in-None.is)

pub returns : goal.returns
returns g c =
    let i = c.self.inside in
    let is = entry_awaited-some c.slot.result.entry c.in-Some.awaited
    (sym c.as_awaited.ensures ∙ c.in-Some.is) in
    rw (← c.self.view_is) (IsAwaitedOf-from i.slots i.index i.rings
    c.self.invariant.standing (number c.args.token) c.slot.result
    c.in-Some.awaited c.slot.ensures is)
