use Rattle.std.proofs.Common.{refl}
use Rattle.std.specs.Int.NonZero.{non_zero_u32_get as number}
use Rattle.quick_cache_store.specs.Lists.{with_mark}
use Rattle.quick_cache_store.proofs.lists.ItemLemmas.{item_by_token}
use Rattle.quick_cache_store.proofs.lists.ChangeLemmas.{written-by, IsSound-changed, lists-changed}
use Rattle.quick_cache_store.proofs.lists.lists.Lists.set_mark.Goals as goal

pub set_mark-requires : goal.set_mark-requires
set_mark-requires g c =
    let i = c.self.inside in
    item_by_token i.slots i.index i.rings
    (number c.args.token) (rw (← c.self.view_is) at c.requires)

pub invariant_of-self : goal.invariant_of-self
invariant_of-self g c =
    let i = c.self.inside in
    let t = number c.args.token in
    let has = item_by_token i.slots i.index i.rings t
    (rw (← c.self.view_is) at c.requires) in
    let is = written-by i.slots c.set_mark.new.self t has.0 has.1 (with_mark c.args.mark) c.set_mark.ensures has.2 in
    rw is (IsSound-changed i.slots t has.0 has.1 (with_mark c.args.mark) refl refl has.2 refl i.index i.rings
    i.loading c.self.invariant)

pub returns : goal.returns
returns g c =
    let i = c.self.inside in
    let t = number c.args.token in
    let has = item_by_token i.slots i.index i.rings t
    (rw (← c.self.view_is) at c.requires) in
    let is = written-by i.slots c.set_mark.new.self t has.0 has.1 (with_mark c.args.mark) c.set_mark.ensures has.2 in
    rw (← c.self.view_is, is) (lists-changed i.slots t has.0 has.1 (with_mark c.args.mark) refl refl has.2
    i.index i.rings)
