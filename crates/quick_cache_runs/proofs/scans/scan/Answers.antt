use Rattle.std.proofs.Common.{false, ap}
use Rattle.quick_cache_model.specs.Hashing.{hash_of}
use Rattle.quick_cache_laws.proofs.CallerLemmas.{RunsCalls-keeps_hot}
use Rattle.quick_cache_runs.proofs.FreshCalls.{fresh_asks}
use Rattle.quick_cache_runs.proofs.scans.scan.Goals as goal

pub returns : goal.returns
returns g c = record {
  keeps = λ steady ready fresh.
      RunsCalls-keeps_hot _ g.K.PartialEq.eq g.K.Clone.is_clone g.V.Clone.is_clone (λ asked key value. false)
      (λ n none. none)
      (λ one other same. ap (hash_of g.B.BuildHasher g.B.Hasher.Hasher c.args.cache.now.builder)
      (g.met.K.Hash.respects_eq one other same))
      _ c.args.cache.now.state c.args.state.now
      c.args.calls.items c.run.result c.run.new.cache.state c.run.new.state
      (c.run.ensures.runs steady (λ asked key value. false)
      (fresh_asks _ c.args.cache.now.state _ c.args.calls.items fresh))
      ready fresh;
}
