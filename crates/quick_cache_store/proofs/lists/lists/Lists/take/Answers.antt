use Rattle.std.proofs.Common.{arith, ◌≡◌, ◌∙◌, sym, ap, subst, Some, ℕ}
use Rattle.std.specs.Int.NonZero.{non_zero_u32_get as number}
use Rattle.quick_cache_store.specs.Pool.{item_at}
use Rattle.quick_cache_store.specs.Rings.{CanLeaveRing, restarts}
use Rattle.quick_cache_store.specs.ListSlots.{Stand, stand_of, weight_at}
use Rattle.quick_cache_store.proofs.lists.LeaveLemmas.{can_leave, loading-enough, lists-left, IsSound-left}
use Rattle.quick_cache_store.proofs.lists.TakeLemmas.{occupied_by_entry, IsEntry-from}
use Rattle.quick_cache_store.proofs.lists.lists.Lists.take.Goals as goal

pub displace-slot-requires-clause-occupied : goal.displace-slot-requires-clause-occupied
displace-slot-requires-clause-occupied g c =
    let i = c.self.inside in
    occupied_by_entry i.slots i.index i.rings (number c.args.token)
    (rw (← c.self.view_is) at c.requires)

pub leave-requires : goal.leave-requires
leave-requires g c =
    let i = c.self.inside in
    let t = number c.args.token in
    let u = c.displace-slot.ensures in
    let stands : stand_of (item_at i.slots t) ≡ Some c.stand-stand.result =
    ap stand_of u.item ∙ ap (λ (s : Stand). Some s) (sym c.stand-stand.ensures) in
    let weighs : weight_at (item_at i.slots t) ≡ c.weight-weight.result =
    ap weight_at u.item ∙ sym c.weight-weight.ensures in
    subst (λ (w : ℕ). CanLeaveRing i.rings t w c.stand-stand.result) weighs
    (can_leave i.slots i.rings c.self.invariant.standing t c.stand-stand.result stands)

pub overflow_sub-self : goal.overflow_sub-self
overflow_sub-self g c =
    let i = c.self.inside in
    let u = c.displace-slot.ensures in
    omega (
      arith,
      loading-enough i.slots c.displace-slot.new.slots i.index c.displace-slot.new.index
          (number c.args.token) (restarts c.args.order) i.rings c.leave.new.self i.loading
          c.self.invariant u.removed u.room u.keyed u.count c.displace-slot.result u.item
          c.stand-stand.result c.weight-weight.result c.stand-stand.ensures
          c.weight-weight.ensures c.leave.ensures,
      c.loading.ensures,
    )

pub invariant_of-self : goal.invariant_of-self
invariant_of-self g c =
    let i = c.self.inside in
    let u = c.displace-slot.ensures in
    IsSound-left i.slots c.displace-slot.new.slots i.index c.displace-slot.new.index
    (number c.args.token) (restarts c.args.order) i.rings c.leave.new.self i.loading c.self.invariant
    u.removed u.room u.keyed u.count c.displace-slot.result u.item c.stand-stand.result
    c.weight-weight.result c.stand-stand.ensures c.weight-weight.ensures c.leave.ensures
    c.loading.result c.loading.ensures

pub returns-clause-taken : goal.returns-clause-taken
returns-clause-taken g c =
    let i = c.self.inside in
    rw (← c.self.view_is) (IsEntry-from i.slots i.index i.rings c.self.invariant.standing
    (number c.args.token) c.displace-slot.result c.displace-slot.ensures.item)

pub returns-clause-rest : goal.returns-clause-rest
returns-clause-rest g c =
    let i = c.self.inside in
    let u = c.displace-slot.ensures in
    rw (← c.self.view_is) (lists-left i.slots c.displace-slot.new.slots i.index
    c.displace-slot.new.index (number c.args.token) (restarts c.args.order) i.rings c.leave.new.self
    i.loading c.self.invariant u.removed u.room u.keyed u.count c.displace-slot.result u.item
    c.stand-stand.result c.weight-weight.result c.stand-stand.ensures c.weight-weight.ensures
    c.leave.ensures)
