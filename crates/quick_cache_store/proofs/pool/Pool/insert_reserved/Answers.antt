use Rattle.std.proofs.Common.{◌≡◌, [], sym, subst, ◌∙◌, vec_len, vec_capacity, length-set, arith}
use Rattle.std.proofs.lemmas.List.{length-reverse}
use Rattle.quick_cache_store.specs.Pool.{next_token, IsParted}
use Rattle.quick_cache_store.proofs.pool.StackLemmas.{length-slots_past, popped_here, first_or-last, no_tokens, noted_at, IsSound-reused}
use Rattle.quick_cache_store.proofs.pool.StackLemmas.{view-reused, IsSound-grown, view-grown, IsParted-stack, PlacesItem-from}
use Rattle.quick_cache_store.proofs.pool.Pool.insert_reserved.Goals as goal

-- ---- in the slot of a token that was free

pub new_unchecked-token-requires : goal.new_unchecked-token-requires
new_unchecked-token-requires g c = (c.self.invariant.within c.in-Some.freed
    (popped_here _ _ c.in-Some.freed c.in-Some.ensures.items)).0

pub index_mut-requires : goal.index_mut-requires
index_mut-requires g c =
    let within = (c.self.invariant.within c.in-Some.freed
    (popped_here _ _ c.in-Some.freed c.in-Some.ensures.items)).1 in
    omega arith

pub discard-requires : goal.discard-requires
discard-requires g c =
    let i = c.self.inside in
    let here = popped_here _ _ c.in-Some.freed c.in-Some.ensures.items in
    let within = c.self.invariant.within c.in-Some.freed here in
    subst g.T.Blank.is_blank (sym (c.replace.ensures.value ∙ c.index_mut.ensures.value))
    (noted_at g.T.Blank.is_blank g.T.Blank.note_of i.free.items c.in-Some.freed c.place.result
    i.items.items c.index_mut.result.now (omega arith) within.1 c.self.invariant.noted here).0

pub invariant_of-self : goal.invariant_of-self
invariant_of-self g c =
    let i = c.self.inside in
    rw c.pop.ensures.capacity (IsSound-reused g.T.Blank.is_blank g.T.Blank.note_of i.items.items
    i.free.items c.pop.new.self.items (vec_capacity i.free) c.in-Some.freed c.place.result
    c.replace.new.dest c.in-Some.ensures.items (omega arith) c.self.invariant)

pub returns-in-Some-clause-placed : goal.returns-in-Some-clause-placed
returns-in-Some-clause-placed g c =
    let i = c.self.inside in
    rw (← c.self.view_is, c.replace.ensures.after) (view-reused g.T.Blank.is_blank
    g.T.Blank.note_of i.items.items i.free.items c.pop.new.self.items _ _ c.in-Some.freed
    c.place.result c.args.item c.in-Some.ensures.items c.self.invariant.once (omega arith))

pub returns-in-Some-clause-edit : goal.returns-in-Some-clause-edit
returns-in-Some-clause-edit g c =
    let i = c.self.inside in
    let parted : IsParted c.args.self.now = rw (← c.self.view_is)
    (IsParted-stack g.T.Blank.is_blank g.T.Blank.note_of i.items.items i.free.items
    (vec_capacity i.items) (vec_capacity i.free) (vec_len i.items) (omega arith)
    c.self.invariant) in
    let at : c.new_unchecked-token.result.value ≡ next_token c.args.self.now =
    rw (← c.self.view_is) (c.new_unchecked-token.ensures
    ∙ sym (first_or-last _ _ c.in-Some.freed _ c.in-Some.ensures.items)) in
    PlacesItem-from c.args.self.now _ _ c.args.item parted at
    (returns-in-Some-clause-placed g c)

pub returns-in-Some-clause-parted : goal.returns-in-Some-clause-parted
returns-in-Some-clause-parted g c =
    let i = c.self.inside in
    let long = length-set i.items.items c.place.result c.replace.new.dest in
    IsParted-stack g.T.Blank.is_blank g.T.Blank.note_of _ c.pop.new.self.items
    (vec_capacity i.items) (vec_capacity c.pop.new.self) (vec_len i.items) (omega arith)
    (invariant_of-self g c)

-- ---- in a new slot

pub invariant_of-self-in-None : goal.invariant_of-self-in-None
invariant_of-self-in-None g c =
    let i = c.self.inside in
    let none = c.in-None.ensures.cases in
    let stack = no_tokens i.free.items (omega (arith, none.0)) in
    let free = no_tokens c.pop.new.self.items (omega (arith, none.1)) in
    let some = rw (← c.self.view_is) at c.requires in
    let back = length-reverse i.free.items in
    rw (c.pop.ensures.capacity, c.push_reserved.ensures.items) (IsSound-grown
    g.T.Blank.is_blank g.T.Blank.note_of i.items.items i.free.items c.pop.new.self.items
    (vec_capacity i.free) c.args.item stack free (omega (arith, none.0)) (omega (arith, none.0))
    c.self.invariant)

pub returns-in-None-clause-token : goal.returns-in-None-clause-token
returns-in-None-clause-token g c =
    let i = c.self.inside in
    let stack = no_tokens i.free.items (omega (arith, c.in-None.ensures.cases.0)) in
    rw (← c.self.view_is, stack)
    (omega (arith, c.past.ensures, length-slots_past [] 0 i.items.items))

pub returns-in-None-clause-placed : goal.returns-in-None-clause-placed
returns-in-None-clause-placed g c =
    let i = c.self.inside in
    let none = c.in-None.ensures.cases in
    let stack = no_tokens i.free.items (omega (arith, none.0)) in
    let free = no_tokens c.pop.new.self.items (omega (arith, none.1)) in
    rw (← c.self.view_is, c.push_reserved.ensures.items) (view-grown g.T.Blank.is_blank
    g.T.Blank.note_of i.items.items i.free.items c.pop.new.self.items _ _ c.args.item stack free)

pub returns-in-None-clause-edit : goal.returns-in-None-clause-edit
returns-in-None-clause-edit g c =
    let i = c.self.inside in
    let parted : IsParted c.args.self.now = rw (← c.self.view_is)
    (IsParted-stack g.T.Blank.is_blank g.T.Blank.note_of i.items.items i.free.items
    (vec_capacity i.items) (vec_capacity i.free) (vec_len i.items) (omega arith)
    c.self.invariant) in
    PlacesItem-from c.args.self.now _ _ c.args.item parted (returns-in-None-clause-token g c)
    (returns-in-None-clause-placed g c)

pub returns-in-None-clause-parted : goal.returns-in-None-clause-parted
returns-in-None-clause-parted g c =
    let pushed = c.push_reserved.new.self in
    IsParted-stack g.T.Blank.is_blank g.T.Blank.note_of pushed.items c.pop.new.self.items
    (vec_capacity pushed) (vec_capacity c.pop.new.self) (vec_len pushed) (omega arith)
    (invariant_of-self-in-None g c)
