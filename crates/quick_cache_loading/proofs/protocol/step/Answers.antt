use Rattle.quick_cache_loading.proofs.CasesToRows.{row_of_step}
use Rattle.quick_cache_loading.proofs.RowLaws.{one_guard, at_most_one, row-only_tells, row-value, row-given_up, row-alone, row-new_core}
use Rattle.quick_cache_loading.proofs.RowLaws.{row-stays, row-last, row-guards, row-most_given, row-not_now, row-refused, row-shown}
use Rattle.quick_cache_loading.proofs.RowLaws.{row-none_joins, row-taken, row-joins}
use Rattle.quick_cache_loading.proofs.protocol.step.Goals as goal

-- The step is a row of the table, and each law holds of each row.
pub returns : goal.returns
returns g c =
    let row =
    row_of_step g.V.Clone.is_clone c.args.event c.args.core.now c.make_happen.result
    c.make_happen.new.core c.make_happen.ensures in
    record {
      row = row;
      step = c.make_happen.ensures;
      last = row-last row;
      guards = row-guards row;
      no_guard = row-most_given row;
      taken = row-taken row;
      one_guard = one_guard c.make_happen.new.core;
      at_most_one = at_most_one c.make_happen.new.core;
      not_now = row-not_now row;
      unchanged = row-only_tells row;
      refused = row-refused row;
      shown = row-shown row;
      value = row-value row;
      given_up = row-given_up row;
      alone = row-alone row;
      ended = row-new_core row;
      none_joins = row-none_joins row;
      joined = row-joins row;
      stays = row-stays row;
    }
