use Rattle.std.proofs.Common.{[], ◌∷◌, ◌++◌, refl}
use Rattle.quick_cache_model.specs.Hooks.{EvictCold}
use Rattle.quick_cache_model.proofs.HookLaws.{RunsHooks-append}
use Rattle.quick_cache_policy.specs.Contents.{state_of}
use Rattle.quick_cache_policy.proofs.AnswerLemmas.{Rejecting-reports}
use Rattle.quick_cache_policy.proofs.contents.Contents.turn_away.Goals as goal

-- the pair is told last
pub returns-clause-rejects : goal.returns-clause-rejects
returns-clause-rejects g c =
    let t = c.take_out_item.ensures.takes in
    record {
      calls = t.calls ++ EvictCold c.args.key c.args.value ∷ [];
      holds = Rejecting-reports (g.K.PartialEq.eq c.args.key) c.args.key
          (state_of g.P.SharedPlaceholder.ticket_of c.args.self.now)
          (state_of g.P.SharedPlaceholder.ticket_of c.take_out_item.new.self)
          c.args.value t.calls t.holds.0 t.holds.1;
      runs = RunsHooks-append (g.M.Policy.hooks c.args.terms.now) t.calls
          (EvictCold c.args.key c.args.value ∷ []) c.args.state.now c.take_out_item.new.state
          c.on_evict_cold.new.state t.runs
          (c.on_evict_cold.new.state, c.on_evict_cold.ensures, refl);
    }
