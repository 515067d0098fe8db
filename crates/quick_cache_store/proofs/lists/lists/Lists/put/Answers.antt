use Rattle.std.proofs.Common.{arith}
use Rattle.std.specs.Int.NonZero.{non_zero_u32_get as number}
use Rattle.quick_cache_store.proofs.lists.PutLemmas.{can_enter, IsPut-entered, IsSound-put, room-put}
use Rattle.quick_cache_store.proofs.lists.lists.Lists.put.Goals as goal

pub enter-requires : goal.enter-requires
enter-requires g c =
    let i = c.self.inside in
    let some = rw (← c.self.view_is) at c.requires in
    can_enter i.slots i.index i.rings c.self.invariant.standing c.self.invariant.keyed.few
    c.self.invariant.keyed.light (omega (arith, c.self.invariant.all_counted, some)) _
    (omega arith) c.stand-stand.result

pub invariant_of-self : goal.invariant_of-self
invariant_of-self g c =
    let i = c.self.inside in
    let p = c.place-token.ensures in
    IsSound-put i.slots c.place-token.new.slots i.index c.place-token.new.index
    (number c.place-token.result) c.args.hash i.rings c.enter.new.self i.loading c.self.invariant
    c.args.entry p.placed p.keyed p.count (rw (← c.self.view_is) at c.requires)
    c.stand-stand.result c.weight-weight.result c.stand-stand.ensures c.weight-weight.ensures
    c.enter.ensures p.room c.loading.result c.loading.ensures

pub returns-clause-token : goal.returns-clause-token
returns-clause-token g c = rw (← c.self.view_is) c.place-token.ensures.token

pub returns-clause-last : goal.returns-clause-last
returns-clause-last g c =
    let i = c.self.inside in
    let p = c.place-token.ensures in
    rw (← c.self.view_is) (IsPut-entered i.slots c.place-token.new.slots i.index
    c.place-token.new.index (number c.place-token.result) c.args.hash i.rings c.enter.new.self
    i.loading c.self.invariant c.args.entry p.placed p.keyed p.count
    (rw (← c.self.view_is) at c.requires) c.stand-stand.result c.weight-weight.result
    c.stand-stand.ensures c.weight-weight.ensures c.enter.ensures).1

pub returns-clause-room : goal.returns-clause-room
returns-clause-room g c =
    let i = c.self.inside in
    let p = c.place-token.ensures in
    rw (← c.self.view_is) (room-put i.slots c.place-token.new.slots i.index
    c.place-token.new.index (number c.place-token.result) c.args.hash i.rings c.enter.new.self
    i.loading c.self.invariant c.args.entry p.placed p.keyed p.count
    (rw (← c.self.view_is) at c.requires) c.stand-stand.result c.weight-weight.result
    c.stand-stand.ensures c.weight-weight.ensures c.enter.ensures p.room)
