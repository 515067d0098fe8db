use Rattle.std.proofs.Common.{List, ◌∙◌, subst, ap}
use Rattle.std.specs.Prelude.{OnOk}
use Rattle.std.specs.List.{AppendsClones}
use Rattle.quick_cache_locked.specs.declared.heated.Heated.{Heated}
use Rattle.quick_cache_locked.specs.Hottest.{IsHeatedClone, pairs_read}
use Rattle.quick_cache_locked.proofs.locked.LockedShard.show_hottest.Goals as goal

-- clones of what was found
pub returns-clause-shows : goal.returns-clause-shows
returns-clause-shows g c =
    subst (λ (shown : List (Heated g.row.K.Denot g.row.V.Denot)). OnOk c.add_clones.result
    (AppendsClones (IsHeatedClone g.K.Clone.is_clone g.V.Clone.is_clone) c.args.list.now.items
    c.add_clones.new.list.items shown))
    (ap pairs_read c.deref.ensures.value ∙ c.in_ok-shown.ensures.shows)
    c.add_clones.ensures.adds
