use Rattle.std.proofs.Common.{◌≡◌, length, get_or, ap, ◌∙◌, arith}
use Rattle.std.proofs.lemmas.List.{length_push}
use Rattle.quick_cache_store.specs.Pool.{item_at}
use Rattle.quick_cache_store.specs.Asides.{besides_of}
use Rattle.quick_cache_store.specs.Copies.{aside_for}
use Rattle.quick_cache_store.specs.Walks.{no_aside}
use Rattle.quick_cache_store.proofs.slots.CopiedLemmas.{aside-found, aside-absent, copies-pushed, beside-at}
use Rattle.quick_cache_store.proofs.slots.slots.copies.copy_asides.Goals as goal
use Rattle.quick_cache_store.proofs.slots.slots.copies.copy_asides.Goals.{in-Some, in-None}

pub loop-place-preserved : goal.loop-place-preserved
loop-place-preserved g c =
    let hash_of = g.C.Copying.hash_of c.args.by.now in
    let asides = besides_of c.args.asides.now in
    let l = c.loop-place in
    let found = item_at c.args.copy.now l.token.0 in
    let aside = get_or asides l.place no_aside in
    let here : c.get-beside.result ≡ aside =
    beside-at asides l.place c.get-beside.result (omega arith) c.get-beside.ensures in
    let is : c.match-get.push_reserved ≡ aside_for hash_of found aside =
    elim c.match-get.branch [
      | in-Some w ↦ w.push_reserved-is ∙ w.beside_by.ensures
          ∙ rw here (aside-found hash_of found _ aside w.in-Some.ensures.item)
      | in-None w ↦ w.push_reserved-is ∙ here ∙ aside-absent hash_of found aside
          w.in-None.ensures.absent
    ] in
    let pushed = ap length c.push_reserved.ensures.items in
    let copied = copies-pushed hash_of c.args.copy.now.slots asides (besides_of l.copies) l.place
    l.token.0 c.match-get.push_reserved c.requires.beside (omega arith) (omega arith)
    l.invariant.copied is (besides_of c.push_reserved.new.self) c.push_reserved.ensures.items in
    record {
      in_step = c.push_reserved.ensures.in_step;
      token = omega arith;
      long = omega (
        arith,
        l.invariant.long,
        pushed,
        length_push (besides_of l.copies)
            c.match-get.push_reserved,
      );
      room = omega (arith, c.push_reserved.ensures.room, l.invariant.room);
      copied = copied;
    }
