use Rattle.std.proofs.Common.{arith}
use Rattle.quick_cache_loading.proofs.CasesToRows.{row_of_step}
use Rattle.quick_cache_loading.proofs.RowLaws.{one_guard, at_most_one, row-only_tells, row-value, row-given_up, row-alone, row-new_core}
use Rattle.quick_cache_loading.proofs.RowLaws.{row-stays, row-last, row-guards, row-most_given, row-cancel}
use Rattle.quick_cache_loading.specs.LoadingLaws.{ShowsNothing}
use Rattle.quick_cache_loading.specs.declared.protocol.events.Event.{Event}
use Rattle.quick_cache_loading.proofs.protocol.cancel.Goals as goal

-- The step is a row of the table, and each law holds of each row.
pub returns : goal.returns
returns g c =
    let row =
    row_of_step ShowsNothing (Event.Cancel c.args.waiter) c.args.core.now c.cancel.result
    c.cancel.new.self c.cancel.ensures in
    record {
      step = c.cancel.ensures;
      row = row;
      last = row-last row;
      guards = omega (arith, row-guards row, row-most_given row);
      no_guard = omega (arith, row-most_given row);
      one_guard = one_guard c.cancel.new.self;
      at_most_one = at_most_one c.cancel.new.self;
      not_now = row-cancel row;
      unchanged = row-only_tells row;
      value = row-value row;
      given_up = row-given_up row;
      alone = row-alone row;
      ended = row-new_core row;
      stays = row-stays row;
    }
