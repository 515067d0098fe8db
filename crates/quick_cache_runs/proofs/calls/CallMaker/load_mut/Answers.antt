use Rattle.std.proofs.Common.{subst}
use Rattle.quick_cache_model.specs.CacheState.{UpToOrder}
use Rattle.quick_cache_model.specs.declared.calls.call.Call.{Call}
use Rattle.quick_cache_model.specs.Kinds.{IsLoad}
use Rattle.quick_cache_model.specs.References.{WritesItem}
use Rattle.quick_cache_shard.specs.Shard.{Shard}
use Rattle.quick_cache_shard.specs.Steps.{goes_by, rules_in}
use Rattle.quick_cache_unsync.specs.Touches.{no_touches}
use Rattle.quick_cache_runs.proofs.LoadSteps.{load_mut-filled, load_mut-dropped, found-written, load_mut-other}
use Rattle.quick_cache_runs.proofs.calls.CallMaker.load_mut.Goals as goal

-- a guard that was filled is a load, and its value is written over where it is resident
pub returns-in-Filled-clause-step : goal.returns-in-Filled-clause-step
returns-in-Filled-clause-step g c = λ steady answers.
    let key = c.args.key.now in
    let mid = c.guarded.new.cache in
    let equal = g.K.PartialEq.eq in
    let X = Shard g.row.K.Denot g.row.V.Denot g.row.We.Denot g.row.B.Denot g.row.L.Denot in
    let goes = goes_by g.K.Hash.hash_input g.We.Weighter g.B.BuildHasher g.B.Hasher.Hasher
    g.L.Lifecycle in
    let made = rw c.in-Filled.is at (c.guarded.ensures.step steady answers) in
    record {
      calls = made.calls;
      step = load_mut-filled _ equal g.K.Clone.is_clone g.V.Clone.is_clone answers
          c.args.cache.now.state key c.args.given c.args.left c.poke.result made.calls mid.state _ made.step
          (subst (λ (x : X). UpToOrder (WritesItem (rules_in goes no_touches x) (equal key)
          mid.state c.args.left c.poke.result) c.poke.new.cache.state) c.guarded.ensures.same
          c.poke.ensures.writes);
      runs = made.runs;
    }

-- one that was dropped is a load that failed
pub returns-in-Dropped-clause-step : goal.returns-in-Dropped-clause-step
returns-in-Dropped-clause-step g c = λ steady answers.
    let made = rw c.in-Dropped.is at (c.guarded.ensures.step steady answers) in
    record {
      calls = made.calls;
      step = load_mut-dropped _ g.K.PartialEq.eq g.K.Clone.is_clone g.V.Clone.is_clone answers
          c.args.cache.now.state c.args.key.now c.args.given c.args.left made.calls
          c.guarded.new.cache.state made.step;
      runs = made.runs;
    }

-- the value of what was found is written over
pub returns-in-Found-clause-step : goal.returns-in-Found-clause-step
returns-in-Found-clause-step g c = λ steady answers.
    let key = c.args.key.now in
    let mid = c.guarded.new.cache in
    let equal = g.K.PartialEq.eq in
    let X = Shard g.row.K.Denot g.row.V.Denot g.row.We.Denot g.row.B.Denot g.row.L.Denot in
    let goes = goes_by g.K.Hash.hash_input g.We.Weighter g.B.BuildHasher g.B.Hasher.Hasher
    g.L.Lifecycle in
    let made = rw c.in-Found.is at (c.guarded.ensures.step steady answers) in
    record {
      calls = made.calls;
      step = found-written _ equal g.K.Clone.is_clone g.V.Clone.is_clone answers
          c.args.cache.now.state key c.args.left (Call.LoadMut key c.args.given c.args.left)
          c.args.given (IsLoad.load_mut c.args.given c.args.left) c.in-Found.copy
          c.poke-in-Found.result made.calls mid.state _ made.step
          (subst (λ (x : X). UpToOrder (WritesItem (rules_in goes no_touches x) (equal key)
          mid.state c.args.left c.poke-in-Found.result) c.poke-in-Found.new.cache.state)
          c.guarded.ensures.same c.poke-in-Found.ensures.writes);
      runs = made.runs;
    }

-- and where no guard was given and nothing found, it was refused
pub returns-in_default : goal.returns-in_default
returns-in_default g c = record {
  step = λ steady answers.
      let made = c.guarded.ensures.step steady answers in
      record {
        calls = made.calls;
        step = load_mut-other _ g.K.PartialEq.eq g.K.Clone.is_clone g.V.Clone.is_clone answers
            c.args.cache.now.state c.args.key.now c.args.given c.args.left c.guarded.result
            made.calls c.guarded.new.cache.state made.step c.in_default.not-Filled
            c.in_default.not-Dropped c.in_default.not-Found;
        runs = made.runs;
      };
  room = c.guarded.ensures.room;
  asks = c.guarded.ensures.asks;
  same = c.guarded.ensures.same;
}
