use Rattle.std.proofs.Common.{rules, ◌≡◌, ◌++◌, [], ◌∷◌, refl}
use Rattle.quick_cache_locked.specs.declared.heated.Heated.{Heated}
use Rattle.quick_cache_locked.specs.Hottest.{IsHeatedClone}
use Rattle.quick_cache_locked.specs.Saving.{heated_saved}
use Rattle.quick_cache_locked.proofs.SavedLemmas.{CameFirst-none, CameFirst-next, CameFirst-all}
use Rattle.quick_cache_locked.proofs.locked.saving.add_saved.Goals as goal

-- nothing came yet
pub loop-key-init : goal.loop-key-init
loop-key-init g c = CameFirst-none (IsHeatedClone g.K.Clone.is_clone g.V.Clone.is_clone) heated_saved
    c.args.saved c.args.list.now.items

-- one item more came
pub loop-key-preserved : goal.loop-key-preserved
loop-key-preserved g c =
    let clone : Heated g.row.K.Denot g.row.V.Denot = record {
      queue = c.in-Some.queue;
      mark = c.in-Some.mark;
      key = c.in-Ok.key;
      value = c.in-Ok-clone.value;
    } in
    let grown : c.push.new.self.items ≡ c.loop-key.list.items ++ clone ∷ [] = search rules in
    CameFirst-next (IsHeatedClone g.K.Clone.is_clone g.V.Clone.is_clone) heated_saved
    c.args.saved c.loop-key.saved c.next.new.self
    (c.in-Some.key.now, c.in-Some.value.now, c.in-Some.queue, c.in-Some.mark) clone
    c.args.list.now.items c.loop-key.list.items c.push.new.self.items c.in-Some.ensures.steps grown
    (record {
      key = c.in-Ok.ensures.cases;
      value = c.in-Ok-clone.ensures.cases;
      heat = (refl, refl);
    })
    c.loop-key.invariant

-- all came
pub returns-clause-adds : goal.returns-clause-adds
returns-clause-adds g c = CameFirst-all (IsHeatedClone g.K.Clone.is_clone g.V.Clone.is_clone)
    heated_saved c.args.saved c.loop-key.saved c.args.list.now.items c.loop-key.list.items
    c.in_default.ensures.steps.0 c.loop-key.invariant
