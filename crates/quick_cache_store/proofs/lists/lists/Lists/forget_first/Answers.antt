use Rattle.std.proofs.Common.{arith, ◌≡◌, ◌-◌, refl, sym, ap, inr, subst, false}
use Rattle.std.specs.Int.NonZero.{non_zero_u32_get as number}
use Rattle.quick_cache_store.specs.ListSlots.{AmongGhosts, stand_in, weight_in}
use Rattle.quick_cache_store.specs.Sound.{IsSound}
use Rattle.quick_cache_store.proofs.lists.AwaitedLemmas.{ghost_by_token}
use Rattle.quick_cache_store.proofs.lists.FirstLemmas.{first_ghost, first_ghost-left}
use Rattle.quick_cache_store.proofs.lists.LeaveLemmas.{lists-left, IsSound-left}
use Rattle.quick_cache_store.proofs.lists.TakeLemmas.{occupied_by_entry}
use Rattle.quick_cache_store.proofs.lists.lists.Lists.forget_first.Goals as goal

pub displace-requires-clause-occupied : goal.displace-requires-clause-occupied
displace-requires-clause-occupied g c =
    let i = c.self.inside in
    occupied_by_entry i.slots i.index i.rings (number c.args.token)
    (inr (inr (first_ghost i.slots i.index i.rings c.self.invariant.standing c.args.token
    (rw (← c.self.view_is) at c.requires))))

pub invariant_of-self : goal.invariant_of-self
invariant_of-self g c =
    let i = c.self.inside in
    let t = number c.args.token in
    let u = c.displace.ensures in
    let is = ghost_by_token i.slots i.index i.rings t (first_ghost i.slots i.index i.rings c.self.invariant.standing c.args.token
    (rw (← c.self.view_is) at c.requires))
    c.displace.result u.item in
    let none : i.loading - 0 ≡ i.loading = omega arith in
    subst (IsSound c.displace.new.slots c.displace.new.index c.forget_first.new.self) none
    (IsSound-left i.slots c.displace.new.slots i.index c.displace.new.index t false i.rings
    c.forget_first.new.self i.loading c.self.invariant u.removed u.room u.keyed u.count
    c.displace.result u.item AmongGhosts 0 (sym (ap stand_in is)) (sym (ap weight_in is))
    (first_ghost-left i.slots i.index i.rings
    c.self.invariant.standing c.args.token (rw (← c.self.view_is) at c.requires)
    c.forget_first.new.self c.forget_first.ensures) 0 refl)

pub returns : goal.returns
returns g c =
    let i = c.self.inside in
    let t = number c.args.token in
    let u = c.displace.ensures in
    let is = ghost_by_token i.slots i.index i.rings t (first_ghost i.slots i.index i.rings c.self.invariant.standing c.args.token
    (rw (← c.self.view_is) at c.requires))
    c.displace.result u.item in
    rw (← c.self.view_is) (lists-left i.slots c.displace.new.slots i.index c.displace.new.index t
    false i.rings c.forget_first.new.self i.loading c.self.invariant u.removed u.room u.keyed u.count
    c.displace.result u.item AmongGhosts 0 (sym (ap stand_in is)) (sym (ap weight_in is))
    (first_ghost-left i.slots i.index i.rings
    c.self.invariant.standing c.args.token (rw (← c.self.view_is) at c.requires)
    c.forget_first.new.self c.forget_first.ensures))
