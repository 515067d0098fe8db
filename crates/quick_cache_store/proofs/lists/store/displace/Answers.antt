use Rattle.std.proofs.Common.{◌∙◌, ap, refl, length, arith}
use Rattle.std.proofs.lemmas.Bool.{eq-eqb}
use Rattle.std.specs.Int.NonZero.{non_zero_u32_get as number}
use Rattle.quick_cache_store.specs.ListSlots.{has_hash}
use Rattle.quick_cache_store.proofs.lists.SlabFrames.{IsRemoved-from}
use Rattle.quick_cache_store.proofs.lists.RemoveLemmas.{IsKeyed-removed}
use Rattle.quick_cache_store.proofs.lists.store.displace.Goals as goal

pub returns-clause-removed : goal.returns-clause-removed
returns-clause-removed g c =
    IsRemoved-from c.args.slots.now c.remove-slot.new.self (number c.args.token)
    c.remove-slot.result c.remove-slot.ensures.item c.remove-slot.ensures.removed

-- the hash of the entry leads to its token
pub remove-requires : goal.remove-requires
remove-requires g c =
    let slot = c.remove-slot.result in record {
      there = c.requires.keyed.leads slot.hash (number c.args.token)
          (ap (has_hash slot.hash) c.remove-slot.ensures.item ∙ eq-eqb slot.hash slot.hash refl);
    }

pub returns-clause-keyed : goal.returns-clause-keyed
returns-clause-keyed g c =
    IsKeyed-removed c.args.slots.now c.remove-slot.new.self (number c.args.token)
    (returns-clause-removed g c) c.args.index.now c.remove.new.self c.requires.keyed
    c.remove.ensures.tokens c.remove.ensures.kept c.remove.ensures.count

pub returns-clause-room : goal.returns-clause-room
returns-clause-room g c =
    let removed = returns-clause-removed g c in
    omega (arith, c.remove.ensures.room, ap length removed.free, removed.room)
