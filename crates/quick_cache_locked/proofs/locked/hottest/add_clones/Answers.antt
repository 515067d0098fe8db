use Rattle.std.proofs.Common.{rules, ◌≡◌, ◌<◌, ◌++◌, [], ◌∷◌, length, refl, sym, ap, ◌∙◌, arith}
use Rattle.std.proofs.lemmas.List.{get_or-map, length-map}
use Rattle.quick_cache_locked.specs.declared.heated.Heated.{Heated}
use Rattle.quick_cache_locked.specs.Hottest.{IsHeatedClone, pair_read, pairs_read}
use Rattle.quick_cache_locked.proofs.HeatLemmas.{AppendsClones-next}
use Rattle.quick_cache_locked.proofs.locked.hottest.add_clones.Goals as goal

-- one clone more
pub loop-item-preserved : goal.loop-item-preserved
loop-item-preserved g c =
    let shown = c.args.shown.now in
    let index = c.loop-item.item-index in
    let item = c.item-item.result in
    let clone : Heated g.row.K.Denot g.row.V.Denot = record {
      queue = item.queue;
      mark = item.mark;
      key = c.in-Ok.key;
      value = c.in-Ok-clone.value;
    } in
    let grown : c.push.new.self.items ≡ c.loop-item.list.items ++ clone ∷ [] = search rules in
    let inside : index < length shown = search rules in
    AppendsClones-next (IsHeatedClone g.K.Clone.is_clone g.V.Clone.is_clone) (pairs_read shown)
    index (pair_read item) clone c.args.list.now.items c.loop-item.list.items c.push.new.self.items
    (omega (arith, inside, length-map shown (pair_read {K = g.row.K.Denot} {V = g.row.V.Denot})))
    (get_or-map pair_read shown index item (pair_read item) inside ∙ ap pair_read (sym c.item-item.is))
    grown
    (record {
      key = c.in-Ok.ensures.cases;
      value = c.in-Ok-clone.ensures.cases;
      heat = (refl, refl);
    })
    c.loop-item.invariant
