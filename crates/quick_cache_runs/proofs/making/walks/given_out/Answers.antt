use Rattle.std.proofs.Common.{rules, ◌≡◌, List, [], ◌∷◌, ◌++◌, ◌∙◌, ap, sym, subst, length, arith}
use Rattle.std.proofs.lemmas.List.Sorted.{length_permutation}
use Rattle.quick_cache_model.specs.Removal.{Drains}
use Rattle.quick_cache_unsync.specs.CacheDrain.{held, DrainsInAll}
use Rattle.quick_cache_runs.proofs.DrainSteps.{rest-counted, drained-out, drained-room}
use Rattle.quick_cache_runs.proofs.making.walks.given_out.Goals as goal

-- there is no pair yet, and room for all
pub loop-pair-init : goal.loop-pair-init
loop-pair-init g c =
    let begins = ap (λ x. x.cache.now) c.into_iter-pair-iterator.ensures.into_iter_gives
    ∙ c.drain-pair-items.ensures.begins in
    record {
      items = c.requires.none;
      room = omega (
        arith,
        c.requires.room,
        ap length c.requires.none,
        c.args.pairs.ok,
        rest-counted c.into_iter-pair-iterator.result c.args.cache.now begins,
      );
    }

-- one pair more
pub loop-pair-preserved : goal.loop-pair-preserved
loop-pair-preserved g c = record {
  items = c.push_reserved.ensures.items ∙ ap (λ l. l ++ c.in-Some.pair ∷ []) c.loop-pair.invariant.items;
  room = omega (
    arith,
    c.loop-pair.invariant.room,
    length_permutation _ _ c.in-Some.ensures.steps.0,
    c.push_reserved.ensures.len,
    c.push_reserved.ensures.capacity,
  );
}

-- no pair is left, so all were given, and what is left is dropped
pub returns-clause-drains : goal.returns-clause-drains
returns-clause-drains g c =
    let first = c.into_iter-pair-iterator.ensures.into_iter_gives in
    let begins = ap (λ x. x.cache.now) first ∙ c.drain-pair-items.ensures.begins in
    let final = c.cache-1.given.0 in
    let ended : final ≡ c.drop-pair-iterator.new.self.0 = search rules in
    subst (λ (pairs : List (g.row.K.Denot × g.row.V.Denot)).
    Drains c.args.cache.now.state pairs final.state) (sym c.loop-pair.invariant.items)
    (drained-out c.into_iter-pair-iterator.result c.args.cache.now begins
    (subst (DrainsInAll held) (sym first) c.drain-pair-items.ensures.gives) c.loop-pair.yielded
    c.loop-pair.pair-iterator c.next.new.self c.loop-pair.yielded_by c.in-None.ensures.steps final
    (ended ∙ c.drop-pair-iterator.ensures))

pub returns-clause-room : goal.returns-clause-room
returns-clause-room g c =
    let first = c.into_iter-pair-iterator.ensures.into_iter_gives in
    let begins = ap (λ x. x.cache.now) first ∙ c.drain-pair-items.ensures.begins in
    let final = c.cache-1.given.0 in
    let ended : final ≡ c.drop-pair-iterator.new.self.0 = search rules in
    drained-room c.into_iter-pair-iterator.result c.args.cache.now begins
    (subst (DrainsInAll held) (sym first) c.drain-pair-items.ensures.gives) c.loop-pair.yielded
    c.loop-pair.pair-iterator c.next.new.self c.loop-pair.yielded_by c.in-None.ensures.steps final
    (ended ∙ c.drop-pair-iterator.ensures)
