-- A schedule in which a value may be shown by what one relation says is one for each wider
-- relation.
use Rattle.std.proofs.Common.{List, [], ◌∷◌}
use Rattle.quick_cache_loading.specs.Core.{CoreState}
use Rattle.quick_cache_loading.specs.LoadingStep.{LoadingStep}
use Rattle.quick_cache_loading.specs.LoadingRow.{LoadingRow, ActingRow, acts, no_row_applies, creates, joins, lacks_room, shows_the_value}
use Rattle.quick_cache_loading.specs.LoadingRow.{lacks_a_clone, fills, hands_on, gives_up, receives, waits_on, withdraws, cancels_in_vain}
use Rattle.quick_cache_loading.specs.LoadingRow.{leaves}
use Rattle.quick_cache_loading.specs.LoadingRun.{LoadingRun}
use Rattle.quick_cache_loading.proofs.WhenRowsApply.{NoRowApplies-from, applies-from_none}
use Rattle.quick_cache_loading.proofs.RowsToCases.{tables_agree}
use Rattle.quick_cache_loading.specs.declared.protocol.events.Event.{Event}
use Rattle.quick_cache_loading.specs.declared.protocol.events.Answer.{Answer}

module _ {V : Type 0} (shows other : V → V → Type 0)
    (wider : (v w : V) → shows v w → other v w) where
  ActingRow-wider : {e : Event V} {old : CoreState V} {a : Answer V} {new : CoreState V}
      → ActingRow shows e old a new → ActingRow other e old a new
  ActingRow-wider (creates old is) = creates old is
  ActingRow-wider (joins old h ws n is inside apart absent) =
      joins old h ws n is inside apart absent
  ActingRow-wider (lacks_room old h ws n is inside apart absent) =
      lacks_room old h ws n is inside apart absent
  ActingRow-wider (shows_the_value e old v w is asks shown) =
      shows_the_value e old v w is asks (wider v w shown)
  ActingRow-wider (lacks_a_clone e old v is asks) = lacks_a_clone e old v is asks
  ActingRow-wider (fills old ws v is) = fills old ws v is
  ActingRow-wider (hands_on e old h others m by is) = hands_on e old h others m by is
  ActingRow-wider (gives_up e old h by is) = gives_up e old h by is
  ActingRow-wider (receives e old n ws by is) = receives e old n ws by is
  ActingRow-wider (waits_on old h ws n is apart waiting) = waits_on old h ws n is apart waiting
  ActingRow-wider (withdraws e old h ws n a by is apart waiting) =
      withdraws e old h ws n a by is apart waiting
  ActingRow-wider (cancels_in_vain old v n is) = cancels_in_vain old v n is
  ActingRow-wider (leaves old inside) = leaves old inside

  pub LoadingRow-wider : {e : Event V} {old : CoreState V} {a : Answer V} {new : CoreState V}
      → LoadingRow shows e old a new → LoadingRow other e old a new
  LoadingRow-wider (acts row) = acts (ActingRow-wider row)
  LoadingRow-wider (no_row_applies e old none) =
      no_row_applies e old (NoRowApplies-from other e old (applies-from_none shows e old none))

  pub LoadingStep-wider : (e : Event V) (old : CoreState V) (a : Answer V) (new : CoreState V)
      → LoadingStep shows old e a new → LoadingStep other old e a new
  LoadingStep-wider e old a new step =
      (tables_agree other e old a new).0
      (LoadingRow-wider ((tables_agree shows e old a new).1 step))

  pub LoadingRun-wider : (es : List (Event V)) (rs : List (Answer V)) (old new : CoreState V)
      → LoadingRun shows old es rs new → LoadingRun other old es rs new
  LoadingRun-wider [] [] old new run = run
  LoadingRun-wider [] (a ∷ rs) old new run = absurd run
  LoadingRun-wider (e ∷ es) [] old new run = absurd run
  LoadingRun-wider (e ∷ es) (a ∷ rs) old new run =
      (run.0, LoadingStep-wider e old a run.0 run.1, LoadingRun-wider es rs run.0 new run.2)
