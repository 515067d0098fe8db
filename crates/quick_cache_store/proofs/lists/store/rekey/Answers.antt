use Rattle.std.proofs.Common.{◌≡◌, ◌≤◌, ◌+◌, length, count_by, is_some, ap, sym, ◌∙◌, arith}
use Rattle.std.proofs.lemmas.Bool.{true≢false}
use Rattle.quick_cache_store.proofs.lists.CopyLemmas.{IsKeyed-all, length-past, past-once}
use Rattle.quick_cache_store.proofs.lists.store.rekey.Goals as goal

-- there are no more entries than the index was cleared for
pub key_all-requires-clause-room : goal.key_all-requires-clause-room
key_all-requires-clause-room g c =
    rw c.iter_from.ensures (omega (
      arith,
      length-past 0 c.args.slots.now.slots,
      c.len.ensures.items,
      c.len.ensures.free,
      c.facts.ensures.few,
      c.saturating_add.ensures,
      c.in_ok-clear_for.ensures.room,
    ))

pub key_all-requires-clause-once : goal.key_all-requires-clause-once
key_all-requires-clause-once g c =
    λ token. rw c.iter_from.ensures (past-once 0 token c.args.slots.now.slots)

-- no token is left in it
pub key_all-requires-clause-apart : goal.key_all-requires-clause-apart
key_all-requires-clause-apart g c =
    λ token has. absurd (true≢false (sym has ∙ c.in_ok-clear_for.ensures.empty token))

pub returns-clause-keyed : goal.returns-clause-keyed
returns-clause-keyed g c =
    let slab = c.args.slots.now in
    let few : length slab.slots ≤ 4294967295 = omega (arith, c.facts.ensures.few) in
    let counted : count_by is_some slab.slots + length slab.free ≡ length slab.slots =
    omega (arith, c.len.ensures.items, c.len.ensures.free) in
    IsKeyed-all slab c.clear_for.new.self c.key_all.new.index
    (rw (← c.iter_from.ensures) c.key_all.ensures.adds) c.in_ok-clear_for.ensures.empty
    c.in_ok-clear_for.ensures.count few c.requires.light counted

-- each entry took the room of one
pub returns-clause-room : goal.returns-clause-room
returns-clause-room g c =
    let keyed = returns-clause-keyed g c in
    omega (
      arith,
      keyed.counted,
      ap length c.iter_from.ensures,
      length-past 0 c.args.slots.now.slots,
      c.len.ensures.items,
      c.len.ensures.free,
      c.saturating_add.ensures,
      c.in_ok-clear_for.ensures.room,
      c.key_all.ensures.room,
    )

pub returns-clause-more : goal.returns-clause-more
returns-clause-more g c =
    let keyed = returns-clause-keyed g c in
    omega (
      arith,
      keyed.counted,
      ap length c.iter_from.ensures,
      length-past 0 c.args.slots.now.slots,
      c.len.ensures.items,
      c.len.ensures.free,
      c.in_ok-clear_for.ensures.more,
      c.key_all.ensures.room,
    )

pub returns-clause-at_most : goal.returns-clause-at_most
returns-clause-at_most g c =
    let keyed = returns-clause-keyed g c in
    omega (
      arith,
      keyed.counted,
      ap length c.iter_from.ensures,
      length-past 0 c.args.slots.now.slots,
      c.len.ensures.items,
      c.len.ensures.free,
      c.saturating_add.ensures,
      c.in_ok-clear_for.ensures.at_most,
      c.key_all.ensures.room,
    )
