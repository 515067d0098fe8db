use Rattle.std.proofs.Common.{arith, ◌∙◌, Ok, Err}
use Rattle.quick_cache_model.proofs.RunLemmas.{stops_at_first}
use Rattle.quick_cache_runs.proofs.ConservationLemmas.{RunsCalls-conserves}
use Rattle.quick_cache_shard.specs.Lifecycles.{hooks_by}
use Rattle.quick_cache_runs.proofs.RunLemmas.{AreAnswered-none, AreInRoom-none}
use Rattle.quick_cache_runs.proofs.runs.run.Goals as goal

-- there was no room for the reply to the first call, so all come back
pub returns-in_default-clause-runs : goal.returns-in_default-clause-runs
returns-in_default-clause-runs g c = λ steady answers asked.
    stops_at_first _ g.K.PartialEq.eq g.K.Clone.is_clone g.V.Clone.is_clone answers
    (hooks_by g.L.Lifecycle c.args.cache.now.lifecycle) c.args.cache.now.state c.args.state.now
    c.reserve.new.self c.args.calls (c.reserve.ensures.items ∙ c.new-replies.ensures.items)
    (omega (
      arith,
      c.len.ensures,
      c.args.calls.ok,
      c.in_default.ensures.full,
      c.new-replies.ensures.len,
    ))
    (omega (arith, c.in_default.ensures.err, c.new-replies.ensures.capacity))

pub returns-in_default-clause-conserves : goal.returns-in_default-clause-conserves
returns-in_default-clause-conserves g c = λ steady answers asked.
    RunsCalls-conserves _ g.K.PartialEq.eq g.met.K.Eq.laws g.K.Clone.is_clone g.V.Clone.is_clone
    answers (hooks_by g.L.Lifecycle c.args.cache.now.lifecycle) c.args.cache.now.state c.args.state.now
    c.args.calls.items (Err (c.reserve.new.self, c.args.calls)) c.args.cache.now.state
    c.args.state.now (returns-in_default-clause-runs g c steady answers asked) c.valid.ensures

-- there is no reply yet
pub returns-in_default-clause-answered : goal.returns-in_default-clause-answered
returns-in_default-clause-answered g c = λ always.
    AreAnswered-none c.args.calls.items c.reserve.new.self.items
    (c.reserve.ensures.items ∙ c.new-replies.ensures.items)

pub returns-in_default-clause-asks : goal.returns-in_default-clause-asks
returns-in_default-clause-asks g c = λ keys values.
    AreInRoom-none c.args.cache.now.room c.args.calls.items c.reserve.new.self.items
    (c.reserve.ensures.items ∙ c.new-replies.ensures.items)

-- there is room for all replies
pub make_all-requires-clause-room : goal.make_all-requires-clause-room
make_all-requires-clause-room g c =
    omega (arith, c.in-Ok.ensures.ok, c.len.ensures, c.args.calls.ok)

-- so the run is one of all calls
pub returns-clause-conserves : goal.returns-clause-conserves
returns-clause-conserves g c = λ steady answers asked.
    RunsCalls-conserves _ g.K.PartialEq.eq g.met.K.Eq.laws g.K.Clone.is_clone g.V.Clone.is_clone
    answers (hooks_by g.L.Lifecycle c.args.cache.now.lifecycle) c.args.cache.now.state c.args.state.now
    c.args.calls.items (Ok c.make_all.result) c.make_all.new.cache.state c.make_all.new.state
    (c.make_all.ensures.runs steady answers asked) c.valid.ensures
