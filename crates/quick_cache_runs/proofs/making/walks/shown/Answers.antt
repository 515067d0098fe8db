use Rattle.std.proofs.Common.{◌∙◌, ap, length, arith}
use Rattle.quick_cache_runs.proofs.WalkLemmas.{HasShown-none, HasShown-more, HasShown-all}
use Rattle.quick_cache_runs.proofs.making.walks.shown.Goals as goal

-- there is no pair yet, and room for all
pub loop-key-init : goal.loop-key-init
loop-key-init g c = record {
  shown = HasShown-none g.K.Clone.is_clone g.V.Clone.is_clone c.args.items _ _
      c.into_iter-key-iterator.ensures.into_iter_gives
      (c.reserve.ensures.items ∙ c.new-pairs.ensures.items);
  room = omega (
    arith,
    c.in-Ok.ensures.ok,
    c.in-Ok.ensures.len,
    c.len.ensures.value,
    c.new-pairs.ensures.len,
    ap length c.into_iter-key-iterator.ensures.into_iter_gives,
  );
}

-- one pair more
pub loop-key-preserved : goal.loop-key-preserved
loop-key-preserved g c = record {
  shown = rw c.push_reserved.ensures.items
      (HasShown-more g.K.Clone.is_clone g.V.Clone.is_clone c.args.items c.loop-key.pairs.items
      c.loop-key.key-iterator c.next.new.self (c.in-Some.key.now, c.in-Some.value.now)
      c.in_ok-pair.field-0 c.loop-key.invariant.shown c.in-Some.ensures.steps
      c.in_ok-pair.ensures.clones.0 c.in_ok-pair.ensures.clones.1);
  room = omega (
    arith,
    c.loop-key.invariant.room,
    ap length c.in-Some.ensures.steps,
    c.push_reserved.ensures.len,
    c.push_reserved.ensures.capacity,
  );
}

pub returns-clause-shows : goal.returns-clause-shows
returns-clause-shows g c =
    HasShown-all g.K.Clone.is_clone g.V.Clone.is_clone _ _ _ c.loop-key.invariant.shown
    c.in-None.ensures.steps.0
