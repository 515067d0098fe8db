use Rattle.std.proofs.Common.{arith}
use Rattle.std.specs.Int.NonZero.{non_zero_u32_get as number}
use Rattle.std.proofs.lemmas.List.{length-set}
use Rattle.quick_cache_store.proofs.queue.PlaceLemmas.{begins-emptied, leaves_emptied, leaves_first, length-left}
use Rattle.quick_cache_store.proofs.queue.token_queue.TokenQueue.leave.Goals as goal

pub returns-then-place-eq0-clause-leaves : goal.returns-then-place-eq0-clause-leaves
returns-then-place-eq0-clause-leaves g c =
    rw c.leave_first.ensures.tokens (leaves_first c.args.self.now.places.items
    (number c.args.token) c.args.token.ok (rw c.if-place-eq0.true at c.place-place.ensures))

pub overflow_add-self : goal.overflow_add-self
overflow_add-self g c =
    let queue = c.args.self.now in
    let ok = queue.places.ok in
    let left = leaves_emptied queue.places.items c.place-place.result (number c.args.token)
    c.args.token.ok c.place-place.ensures in
    omega (arith, c.requires.sound.counted, length-left _ _ _ left)

pub overflow_sub-len : goal.overflow_sub-len
overflow_sub-len g c =
    let queue = c.args.self.now in
    let ok = queue.places.ok in
    let left = leaves_emptied queue.places.items c.place-place.result (number c.args.token)
    c.args.token.ok c.place-place.ensures in
    omega (arith, c.requires.sound.counted, length-left _ _ _ left)

-- the place stays empty
pub returns-else-self-len-clause-leaves : goal.returns-else-self-len-clause-leaves
returns-else-self-len-clause-leaves g c =
    leaves_emptied c.args.self.now.places.items c.place-place.result (number c.args.token)
    c.args.token.ok c.place-place.ensures

pub returns-else-self-len-clause-sound : goal.returns-else-self-len-clause-sound
returns-else-self-len-clause-sound g c = record {
  counted = omega (
    arith,
    c.requires.sound.counted,
    length-left _ _ _ (returns-else-self-len-clause-leaves g c),
    length-set c.args.self.now.places.items c.place-place.result 0,
  );
  begins = begins-emptied c.args.self.now.places.items c.place-place.result
      c.if-place-eq0.false c.requires.sound.begins;
}

-- the queue closes up
pub returns-then-self-len-clause-leaves : goal.returns-then-self-len-clause-leaves
returns-then-self-len-clause-leaves g c =
    rw c.close_up.ensures.tokens (leaves_emptied c.args.self.now.places.items
    c.place-place.result (number c.args.token) c.args.token.ok c.place-place.ensures)
