use Rattle.std.proofs.Common.{[]}
use Rattle.quick_cache_model.specs.CacheStep.{CacheStep}
use Rattle.qcrun_parts.proofs.calls.insert.Goals as goal

pub returns-in-Ok-clause-serves : goal.returns-in-Ok-clause-serves
returns-in-Ok-clause-serves g c =
    let wrote = c.in-Ok.ensures.inserts in
    record {
      calls = wrote.step.calls;
      holds = (
        CacheStep.inserts c.args.key c.args.value wrote.step.calls _ wrote.provided
            (wrote.step.holds.0 tt),
        tt,
      );
      runs = wrote.step.runs;
    }

pub returns-in-Err-clause-serves : goal.returns-in-Err-clause-serves
returns-in-Err-clause-serves g c =
    let refused = c.in-Err.ensures.inserts in
    record {
      calls = [];
      holds = rw refused.key_back (rw refused.value_back (rw refused.unchanged
          (CacheStep.refuses_insert c.args.key c.args.value c.in-Err.refusal refused.cause, tt)));
      runs = refused.no_hook;
    }
