use Rattle.quick_cache_runs.proofs.CallSteps.{tells}
use Rattle.quick_cache_runs.proofs.LoadSteps.{load-filled, load-dropped, load-other}
use Rattle.quick_cache_runs.proofs.calls.CallMaker.load.Goals as goal

-- a guard that was filled is a load
pub returns-in-Filled-clause-step : goal.returns-in-Filled-clause-step
returns-in-Filled-clause-step g c = λ steady answers.
    let made = rw c.in-Filled.is at (c.guarded.ensures.step steady answers) in
    let mid = c.guarded.new.cache.state in
    record {
      calls = made.calls;
      step = load-filled _ g.K.PartialEq.eq g.K.Clone.is_clone g.V.Clone.is_clone answers
          c.args.cache.now.state c.args.key.now c.args.given c.contains_key.result made.calls mid
          made.step
          (tells mid (g.K.PartialEq.eq c.args.key.now) c.contains_key.result
          c.contains_key.ensures.there c.contains_key.ensures.absent);
      runs = made.runs;
    }

-- one that was dropped is a load that failed
pub returns-in-Dropped-clause-step : goal.returns-in-Dropped-clause-step
returns-in-Dropped-clause-step g c = λ steady answers.
    let made = rw c.in-Dropped.is at (c.guarded.ensures.step steady answers) in
    record {
      calls = made.calls;
      step = load-dropped _ g.K.PartialEq.eq g.K.Clone.is_clone g.V.Clone.is_clone answers
          c.args.cache.now.state c.args.key.now c.args.given made.calls c.guarded.new.cache.state
          made.step;
      runs = made.runs;
    }

-- and where no guard was given, it was found or refused
pub returns-in_default : goal.returns-in_default
returns-in_default g c = record {
  step = λ steady answers.
      let made = c.guarded.ensures.step steady answers in
      record {
        calls = made.calls;
        step = load-other _ g.K.PartialEq.eq g.K.Clone.is_clone g.V.Clone.is_clone answers
            c.args.cache.now.state c.args.key.now c.args.given c.guarded.result made.calls
            c.guarded.new.cache.state made.step c.in_default.not-Filled c.in_default.not-Dropped;
        runs = made.runs;
      };
  room = c.guarded.ensures.room;
  asks = c.guarded.ensures.asks;
  same = c.guarded.ensures.same;
}
