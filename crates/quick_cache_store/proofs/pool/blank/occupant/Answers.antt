use Rattle.std.proofs.Common.{◌∙◌, arith}
use Rattle.std.specs.Int.NonZero.{non_zero_u32_get as number}
use Rattle.quick_cache_store.specs.Pool.{times}
use Rattle.quick_cache_store.proofs.pool.StackLemmas.{slot_if-vacant}
use Rattle.quick_cache_store.proofs.pool.TokenCounts.{times-at}
use Rattle.quick_cache_store.proofs.pool.blank.occupant.Goals as goal

pub returns-then-free-note-clause-absent : goal.returns-then-free-note-clause-absent
returns-then-free-note-clause-absent g c =
    let token = number c.args.token in
    let free = c.args.free.now in
    let at = c.if-free-note.true ∙ c.get.ensures.value in
    slot_if-vacant (times token free) c.args.item.now
    (times-at token c.note-note.result free at (omega (arith, c.get.ensures.value, c.get.ensures.nonzero)))
