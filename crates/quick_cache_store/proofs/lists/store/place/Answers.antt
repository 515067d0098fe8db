use Rattle.std.proofs.Common.{ℕ, is_some, sym, ap, ◌∙◌, true≢false, arith}
use Rattle.quick_cache_store.specs.Pool.{item_at}
use Rattle.std.specs.Int.NonZero.{non_zero_u32_get as number}
use Rattle.quick_cache_store.proofs.lists.SlabFrames.{IsPlaced-from}
use Rattle.quick_cache_store.proofs.lists.SoundLemmas.{IsKeyed-placed, room-placed}
use Rattle.quick_cache_store.proofs.lists.store.place.Goals as goal

pub insert_reserved-token-requires : goal.insert_reserved-token-requires
insert_reserved-token-requires g c = omega (arith, c.requires.room)

-- the slot was free, so the index has no such token
pub insert_reserved-requires-clause-is_new : goal.insert_reserved-requires-clause-is_new
insert_reserved-requires-clause-is_new g c =
    let placed = IsPlaced-from c.args.slots.now c.insert_reserved-token.new.self c.args.slot
    c.facts.ensures c.insert_reserved-token.ensures.placed in
    let none = ap (λ (t : ℕ). is_some (item_at c.args.slots.now t))
    c.insert_reserved-token.ensures.token ∙ ap is_some placed.vacant in
    λ has. true≢false (sym has ∙ c.requires.keyed.tokens (number c.insert_reserved-token.result)
    ∙ none)

pub returns-clause-placed : goal.returns-clause-placed
returns-clause-placed g c =
    rw c.insert_reserved-token.ensures.token (IsPlaced-from c.args.slots.now
    c.insert_reserved-token.new.self c.args.slot c.facts.ensures
    c.insert_reserved-token.ensures.placed)

pub returns-clause-keyed : goal.returns-clause-keyed
returns-clause-keyed g c =
    IsKeyed-placed c.args.slots.now c.insert_reserved-token.new.self
    (number c.insert_reserved-token.result) c.args.slot (returns-clause-placed g c)
    c.args.index.now c.insert_reserved.new.self c.requires.keyed
    (record {
      leads = c.insert_reserved.ensures.leads;
      kept = c.insert_reserved.ensures.kept;
      tokens = c.insert_reserved.ensures.tokens;
      count = c.insert_reserved.ensures.count;
    }) (omega arith) c.requires.light

pub returns-clause-room : goal.returns-clause-room
returns-clause-room g c =
    room-placed c.args.slots.now c.insert_reserved-token.new.self
    (number c.insert_reserved-token.result) c.args.slot (returns-clause-placed g c)
    c.args.index.now c.insert_reserved.new.self (λ _. c.insert_reserved-token.ensures.spare)
    c.insert_reserved.ensures.room c.requires.room
