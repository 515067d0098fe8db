use Rattle.std.proofs.Common.{◌≡◌, ◌+◌, ◌≤◌, ◌++◌, List, length}
use Rattle.quick_cache_shard.specs.Steps.{goes_by, rules_in}
use Rattle.quick_cache_unsync.specs.Touches.{no_touches}
use Rattle.qcsim.specs.Simulation.{Simulates}
use Rattle.qcsim.proofs.cached.ask_for_all.Given as goal

-- the keys so far were asked for, and what the cache goes by is as it was
abbrev pub invariant-loop-key : goal.invariant-loop-key
invariant-loop-key g l = record {
  counted : l.hits + length l.rest ≤ length l.fn.keys;
  weigher : l.cache.weigher ≡ l.initial.cache.weigher;
  builder : l.cache.builder ≡ l.initial.cache.builder;
  lifecycle : l.cache.lifecycle ≡ l.initial.cache.lifecycle;
  asked : g.L.Lifecycle.steady l.initial.cache.lifecycle → (done : List _)
      × (done ++ l.rest ≡ l.fn.keys) × Simulates
      (rules_in (goes_by g.K.Hash.hash_input g.We.Weighter g.B.BuildHasher g.B.Hasher.Hasher
      g.L.Lifecycle) no_touches l.initial.cache) g.K.PartialEq.eq l.initial.cache.state done l.hits
      l.cache.state;
}

abbrev pub decreases-loop-key : goal.decreases-loop-key
decreases-loop-key g l = length l.rest
