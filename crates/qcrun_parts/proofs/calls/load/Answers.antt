use Rattle.qcrun_parts.proofs.LoadLemmas.{load-filled, load-dropped, load-other}
use Rattle.qcrun_parts.proofs.calls.load.Goals as goal

-- what the guard filled is told to be there or not
pub returns-in-Filled-clause-serves : goal.returns-in-Filled-clause-serves
returns-in-Filled-clause-serves g c =
    let step = c.in-Filled.ensures.serves in
    record {
      calls = step.calls;
      holds = load-filled _ _ c.args.key c.args.given c.contains_key.result step.calls _ step.holds
          c.contains_key.ensures.there c.contains_key.ensures.absent;
      runs = step.runs;
    }

pub returns-in-Dropped-clause-serves : goal.returns-in-Dropped-clause-serves
returns-in-Dropped-clause-serves g c =
    let step = c.in-Dropped.ensures.serves in
    record {
      calls = step.calls;
      holds = load-dropped _ _ c.args.key c.args.given step.calls _ step.holds;
      runs = step.runs;
    }

-- it was found or refused
pub returns-in_default : goal.returns-in_default
returns-in_default g c =
    let step = c.guarded.ensures.serves in
    record {
      serves = record {
        calls = step.calls;
        holds = load-other _ _ c.args.key c.args.given c.guarded.result step.calls _ step.holds
            c.in_default.not-Filled c.in_default.not-Dropped;
        runs = step.runs;
      };
      same = c.guarded.ensures.same;
    }
