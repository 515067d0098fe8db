use Rattle.std.proofs.Common.{◌≡◌, ◌+◌, length, sym, subst, arith}
use Rattle.std.specs.Int.NonZero.{non_zero_u32_get as number}
use Rattle.std.proofs.lemmas.List.{length_push}
use Rattle.quick_cache_store.specs.Stack.{IsNoted}
use Rattle.quick_cache_store.proofs.pool.StackLemmas.{noted_at, AreNoted-push, copied-push}
use Rattle.quick_cache_store.proofs.pool.copies.copy_slots.Goals as goal

pub copy_slot-requires : goal.copy_slot-requires
copy_slot-requires g c =
    let item = c.index-items-i.result in
    let free = c.args.free.now in
    let t = number c.past.result in
    subst (λ (x : g.row.T.Denot). IsNoted g.T.Blank.is_blank g.T.Blank.note_of free t x)
    (sym c.index-items-i.is) (noted_at g.T.Blank.is_blank g.T.Blank.note_of free t c.loop-i.i
    c.args.items.now item (sym c.past.ensures) (omega arith) c.requires.noted)

-- one copy more
pub loop-i-preserved : goal.loop-i-preserved
loop-i-preserved g c =
    let xs = c.args.items.now in
    let ys = c.loop-i.copies.items in
    let free = c.args.free.now in
    let t = number c.past.result in
    let copy = c.in_ok-copy_slot.field-0 in
    let last = c.loop-i.invariant.len in
    let pushed = c.push_reserved.ensures.items in
    let capacity = c.push_reserved.ensures.capacity in
    let room = c.loop-i.invariant.room in
    let token : t ≡ 0 + length ys + 1 = omega arith in
    let noted = subst (λ (u : _). IsNoted g.T.Blank.is_blank g.T.Blank.note_of free u copy) token
    c.in_ok-copy_slot.ensures.noted in
    record {
      copied = rw pushed (copied-push (g.C.CopyItem.is_copy c.args.copier.now) free xs ys
          c.loop-i.i t c.index-items-i.result copy (omega arith) (omega arith) (omega arith)
          c.index-items-i.is c.loop-i.invariant.copied c.in_ok-copy_slot.ensures.copies);
      noted = rw pushed (AreNoted-push g.T.Blank.is_blank g.T.Blank.note_of free 0 ys copy
          c.loop-i.invariant.noted noted);
      len = rw pushed (omega (arith, length_push ys copy));
      room = omega arith;
    }
