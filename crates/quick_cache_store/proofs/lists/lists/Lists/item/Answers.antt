use Rattle.std.proofs.Common.{◌∙◌, refl, ap, Some}
use Rattle.std.specs.Int.NonZero.{non_zero_u32_get as number}
use Rattle.quick_cache_store.proofs.lists.StandLemmas.{HasItem-from}
use Rattle.quick_cache_store.proofs.lists.ItemLemmas.{item_by_token, item_is}
use Rattle.quick_cache_store.proofs.lists.lists.Lists.item.Goals as goal

pub slot-requires : goal.slot-requires
slot-requires g c =
    let i = c.self.inside in
    let has = item_by_token i.slots i.index i.rings
    (number c.args.token) (rw (← c.self.view_is) at c.requires) in
    rw has.2 refl

pub item-requires : goal.item-requires
item-requires g c =
    let i = c.self.inside in
    let has = item_by_token i.slots i.index i.rings
    (number c.args.token) (rw (← c.self.view_is) at c.requires) in
    let is = item_is _ c.slot.result has.0 has.1 has.2 c.slot.ensures
    in
    rw is refl

pub returns : goal.returns
returns g c =
    let i = c.self.inside in
    let at = c.slot.ensures
    ∙ ap (λ entry. Some (record c.slot.result { entry = entry })) c.item.ensures in (
      c.slot.result.hash,
      rw (← c.self.view_is)
          (HasItem-from i.slots i.index i.rings
          c.self.invariant.standing (number c.args.token) c.slot.result.hash
          c.item.result at),
    )
