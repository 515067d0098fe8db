use Rattle.quick_cache_model.specs.CacheStep.{CacheStep}
use Rattle.qcrun_parts.proofs.calls.replace.Goals as goal

pub returns-in-Ok-clause-serves : goal.returns-in-Ok-clause-serves
returns-in-Ok-clause-serves g c =
    let wrote = c.in-Ok.ensures.replaces in
    record {
      calls = wrote.step.calls;
      holds = (
        CacheStep.replaces c.args.key c.args.value c.args.soft wrote.step.calls _
            (wrote.step.holds.0 tt),
        tt,
      );
      runs = wrote.step.runs;
    }

-- the pair comes back as the check left it
pub returns-in-Err-clause-serves : goal.returns-in-Err-clause-serves
returns-in-Err-clause-serves g c =
    let wrote = c.in-Err.ensures.replaces in
    record {
      calls = wrote.step.calls;
      holds = (
        CacheStep.gives_back c.args.key c.args.value c.args.soft
            (c.in-Err.key, c.in-Err.value) wrote.step.calls _ (wrote.step.holds.0 tt),
        tt,
      );
      runs = wrote.step.runs;
    }
