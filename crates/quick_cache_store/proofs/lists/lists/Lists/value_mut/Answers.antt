use Rattle.std.proofs.Common.{◌∙◌, refl, sym, subst, ap}
use Rattle.std.specs.Int.NonZero.{non_zero_u32_get as number}
use Rattle.quick_cache_store.specs.Pool.{Pool}
use Rattle.quick_cache_store.specs.declared.slots.entry.Slot.{Slot}
use Rattle.quick_cache_store.specs.Lists.{with_value}
use Rattle.quick_cache_store.specs.Sound.{IsSound, lists_of}
use Rattle.quick_cache_store.proofs.lists.ItemLemmas.{item_by_token}
use Rattle.quick_cache_store.proofs.lists.StandLemmas.{HasItem-from}
use Rattle.quick_cache_store.proofs.lists.ChangeLemmas.{changed_at-item, IsSound-changed, lists-changed}
use Rattle.quick_cache_store.proofs.lists.lists.Lists.value_mut.Goals as goal

pub value_mut-requires : goal.value_mut-requires
value_mut-requires g c =
    let i = c.self.inside in
    item_by_token i.slots i.index i.rings
    (number c.args.token) (rw (← c.self.view_is) at c.requires)

-- the item keeps its weight, whatever value is written
pub invariant_of-self-lent : goal.invariant_of-self-lent
invariant_of-self-lent g c w =
    let i = c.self.inside in
    let t = number c.args.token in
    let has = item_by_token i.slots i.index i.rings t
    (rw (← c.self.view_is) at c.requires) in
    subst (λ (slab : Pool (Slot g.row.K.Denot g.row.V.Denot g.row.P.Denot g.row.T.Denot)).
    IsSound slab i.index i.rings i.loading)
    (sym (changed_at-item i.slots t has.0 has.1 (with_value w) has.2))
    (IsSound-changed i.slots t has.0 has.1 (with_value w) refl refl has.2 refl i.index i.rings
    i.loading c.self.invariant)

pub returns : goal.returns
returns g c =
    let i = c.self.inside in
    let t = number c.args.token in
    let has = item_by_token i.slots i.index i.rings t
    (rw (← c.self.view_is) at c.requires) in (
      (
        refl,
        λ w. rw (← c.self.view_is)
            (ap (λ (slab : Pool (Slot g.row.K.Denot g.row.V.Denot g.row.P.Denot
            g.row.T.Denot)). lists_of slab i.index i.rings)
            (changed_at-item i.slots t has.0 has.1 (with_value w) has.2)
            ∙ lists-changed i.slots t has.0 has.1 (with_value w) refl refl has.2 i.index i.rings),
      ),
      record {
        writes_back = tt;
        value =
            let seen = c.value_mut.ensures.value in (
              seen.1,
              (
                seen.0,
                rw (← c.self.view_is)
                    (HasItem-from i.slots i.index i.rings
                    c.self.invariant.standing t seen.0 seen.1 seen.2),
              ),
              seen.3,
            );
      },
    )
