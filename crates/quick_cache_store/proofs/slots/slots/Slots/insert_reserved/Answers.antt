use Rattle.std.proofs.Common.{ℕ, ◌+◌, set, refl, sym, ap, ◌∙◌, arith}
use Rattle.quick_cache_store.specs.Pool.{first_or}
use Rattle.quick_cache_store.specs.Asides.{besides_of, room_of}
use Rattle.quick_cache_store.proofs.slots.JoinedEdits.{IsParted-joined, length-joined_slots, placed-joined, beside-placed, last_token}
use Rattle.quick_cache_store.proofs.slots.JoinedEdits.{keeps_old, keeps_last}
use Rattle.quick_cache_store.proofs.slots.slots.Slots.insert_reserved.Goals as goal

-- ---- in the place of an old thing

pub returns-then-place-len-clause-placed : goal.returns-then-place-len-clause-placed
returns-then-place-len-clause-placed g c =
    let asides = c.self.inside.asides in
    let aside = c.store-entry.result.1 in
    let written = set (besides_of asides) c.place-place.result aside in
    let keeps = keeps_old (besides_of asides) written c.insert_reserved-token.result.value
    c.place-place.result
    aside c.place-place.ensures (omega arith) refl in
    rw (← c.self.view_is, ← c.store-entry.ensures, c.put.ensures.items, c.put.ensures.room)
    (placed-joined c.self.inside.pool c.insert_reserved-token.new.self (besides_of asides) written
    (room_of asides) (room_of asides)
    c.insert_reserved-token.result.value c.store-entry.result.0 aside c.self.invariant.beside
    c.insert_reserved-token.ensures.token
    c.insert_reserved-token.ensures.placed keeps c.insert_reserved-token.ensures.edit)

pub returns-then-place-len-clause-parted : goal.returns-then-place-len-clause-parted
returns-then-place-len-clause-parted g c =
    let asides = c.self.inside.asides in
    let aside = c.store-entry.result.1 in
    let written = set (besides_of asides) c.place-place.result aside in
    let keeps = keeps_old (besides_of asides) written c.insert_reserved-token.result.value
    c.place-place.result
    aside c.place-place.ensures (omega arith) refl in
    rw (c.put.ensures.items, c.put.ensures.room) (IsParted-joined c.insert_reserved-token.new.self
    written
    (room_of asides)
    (beside-placed c.self.inside.pool c.insert_reserved-token.new.self (besides_of asides) written
    c.insert_reserved-token.result.value c.store-entry.result.0 aside c.self.invariant.beside
    c.insert_reserved-token.ensures.token
    c.insert_reserved-token.ensures.placed keeps c.insert_reserved-token.ensures.edit)
    c.insert_reserved-token.ensures.parted)

-- ---- as the last thing

pub returns-else-place-len-clause-token : goal.returns-else-place-len-clause-token
returns-else-place-len-clause-token g c =
    let pool = c.self.inside.pool in
    let long = length-joined_slots pool.slots (besides_of c.self.inside.asides)
    c.self.invariant.beside in
    rw (← c.self.view_is)
    (c.insert_reserved-token.ensures.token ∙ ap (λ (n : ℕ). first_or (n + 1) pool.free) (sym long))

pub returns-else-place-len-clause-placed : goal.returns-else-place-len-clause-placed
returns-else-place-len-clause-placed g c =
    let pool = c.self.inside.pool in
    let asides = c.self.inside.asides in
    let pushed = c.push_reserved.new.self in
    let stored = c.store-entry.result.0 in
    let aside = c.store-entry.result.1 in
    let beside = c.self.invariant.beside in
    let keeps = keeps_last (besides_of asides) (besides_of pushed)
    c.insert_reserved-token.result.value aside
    (last_token pool c.insert_reserved-token.new.self c.insert_reserved-token.result.value stored
    c.insert_reserved-token.ensures.token
    c.insert_reserved-token.ensures.placed c.insert_reserved-token.ensures.edit (omega arith)
    ∙ omega arith)
    c.push_reserved.ensures.items in
    rw (← c.self.view_is, ← c.store-entry.ensures)
    (placed-joined pool c.insert_reserved-token.new.self (besides_of asides) (besides_of pushed)
    (room_of asides)
    (room_of pushed) c.insert_reserved-token.result.value stored aside
    c.self.invariant.beside c.insert_reserved-token.ensures.token
    c.insert_reserved-token.ensures.placed keeps c.insert_reserved-token.ensures.edit)

pub returns-else-place-len-clause-parted : goal.returns-else-place-len-clause-parted
returns-else-place-len-clause-parted g c =
    let pool = c.self.inside.pool in
    let asides = c.self.inside.asides in
    let pushed = c.push_reserved.new.self in
    let stored = c.store-entry.result.0 in
    let aside = c.store-entry.result.1 in
    let beside = c.self.invariant.beside in
    let keeps = keeps_last (besides_of asides) (besides_of pushed)
    c.insert_reserved-token.result.value aside
    (last_token pool c.insert_reserved-token.new.self c.insert_reserved-token.result.value stored
    c.insert_reserved-token.ensures.token
    c.insert_reserved-token.ensures.placed c.insert_reserved-token.ensures.edit (omega arith)
    ∙ omega arith)
    c.push_reserved.ensures.items in
    IsParted-joined c.insert_reserved-token.new.self (besides_of pushed)
    (room_of pushed)
    (beside-placed pool c.insert_reserved-token.new.self (besides_of asides) (besides_of pushed)
    c.insert_reserved-token.result.value stored
    aside c.self.invariant.beside c.insert_reserved-token.ensures.token
    c.insert_reserved-token.ensures.placed keeps
    c.insert_reserved-token.ensures.edit) c.insert_reserved-token.ensures.parted
