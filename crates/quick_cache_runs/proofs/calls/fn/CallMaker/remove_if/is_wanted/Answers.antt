use Rattle.std.proofs.Common.{refl}
use Rattle.quick_cache_runs.proofs.calls.fn.CallMaker.remove_if.is_wanted.Goals as goal

-- the predicate is called at the key and at the value
pub returns : goal.returns
returns g c = record {
  shown_key = _;
  shown_value = c.args.value;
  shows = (refl, refl);
  says = record { met = c.wanted.ensures };
}
