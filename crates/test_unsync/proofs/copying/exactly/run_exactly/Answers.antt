use Rattle.quick_cache_model.specs.Shown.{IsItself}
use Rattle.quick_cache_runs.proofs.CallerLemmas.{RunsCalls-wider}
use Rattle.test_unsync.proofs.copying.exactly.run_exactly.Goals as goal

-- a clone is the very value, so what is shown by a clone is shown by itself
pub returns : goal.returns
returns g c = record {
  runs = λ steady answers asked. RunsCalls-wider g.K.Clone.is_clone IsItself g.V.Clone.is_clone
      IsItself c.requires.key_clones c.requires.clones _ g.K.PartialEq.eq answers _
      c.args.cache.now.state c.args.state.now
      c.args.calls.items c.run.result c.run.new.cache.state c.run.new.state
      (c.run.ensures.runs steady answers asked);
}
