use Rattle.std.proofs.Common.{rules, ◌≡◌, ◌+◌, ◌∷◌, [], ◌++◌, length, refl, sym, ap, subst, ◌∙◌, append_assoc, arith}
use Rattle.quick_cache_shard.specs.Steps.{goes_by, rules_in}
use Rattle.quick_cache_unsync.specs.Touches.{no_touches}
use Rattle.qcsim.specs.Simulation.{Simulates, counted}
use Rattle.qcsim.proofs.SimulationLemmas.{asked_none, asked_one}
use Rattle.qcsim.proofs.cached.ask_for_all.Goals as goal

pub loop-key-init : goal.loop-key-init
loop-key-init g c = record {
  counted = omega arith;
  weigher = refl;
  builder = refl;
  lifecycle = refl;
  asked = λ steady. ([], refl, asked_none _ _ c.args.cache.now.state);
}

pub loop-key-preserved-then-branch : goal.loop-key-preserved-then-branch
loop-key-preserved-then-branch g c =
    let so_far = c.loop-key.invariant in
    let parts : c.loop-key.rest.now ≡ c.in-Some.key.now ∷ c.in-Some.tail.now = search rules in
    record {
      counted = omega (arith, so_far.counted, ap length parts);
      weigher = c.ask_for.ensures.same_weigher ∙ so_far.weigher;
      builder = c.ask_for.ensures.same_builder ∙ so_far.builder;
      lifecycle = c.ask_for.ensures.same_lifecycle ∙ so_far.lifecycle;
      asked = λ steady.
          let before = so_far.asked steady in
          let one = subst (λ (x : _ × _ × _). Simulates
          (rules_in (goes_by g.K.Hash.hash_input g.We.Weighter g.B.BuildHasher
          g.B.Hasher.Hasher g.L.Lifecycle) no_touches
          (record c.loop-key.cache { weigher = x.0; builder = x.1; lifecycle = x.2 }))
          g.K.PartialEq.eq c.loop-key.cache.state (c.in-Some.key.now ∷ [])
          (counted c.in_ok-ask_for.field-0) c.ask_for.new.cache.state)
          (λ i. (so_far.weigher i, so_far.builder i, so_far.lifecycle i))
          (c.in_ok-ask_for.ensures.asks
          (subst g.L.Lifecycle.steady (sym so_far.lifecycle) steady)) in (
            before.0 ++ c.in-Some.key.now ∷ [],
            append_assoc before.0 (c.in-Some.key.now ∷ []) c.in-Some.tail.now
                ∙ ap (λ keys. before.0 ++ keys) (sym parts) ∙ before.1,
            asked_one _ g.K.PartialEq.eq c.args.cache.now.state c.loop-key.cache.state
                c.ask_for.new.cache.state before.0 c.in-Some.key.now c.loop-key.hits
                c.in_ok-ask_for.field-0 _ (ap (λ found. c.loop-key.hits + counted found) c.if-branch.true) before.2 one,
          );
    }

pub loop-key-preserved : goal.loop-key-preserved
loop-key-preserved g c =
    let so_far = c.loop-key.invariant in
    let parts : c.loop-key.rest.now ≡ c.in-Some.key.now ∷ c.in-Some.tail.now = search rules in
    record {
      counted = omega (arith, so_far.counted, ap length parts);
      weigher = c.ask_for.ensures.same_weigher ∙ so_far.weigher;
      builder = c.ask_for.ensures.same_builder ∙ so_far.builder;
      lifecycle = c.ask_for.ensures.same_lifecycle ∙ so_far.lifecycle;
      asked = λ steady.
          let before = so_far.asked steady in
          let one = subst (λ (x : _ × _ × _). Simulates
          (rules_in (goes_by g.K.Hash.hash_input g.We.Weighter g.B.BuildHasher
          g.B.Hasher.Hasher g.L.Lifecycle) no_touches
          (record c.loop-key.cache { weigher = x.0; builder = x.1; lifecycle = x.2 }))
          g.K.PartialEq.eq c.loop-key.cache.state (c.in-Some.key.now ∷ [])
          (counted c.in_ok-ask_for.field-0) c.ask_for.new.cache.state)
          (λ i. (so_far.weigher i, so_far.builder i, so_far.lifecycle i))
          (c.in_ok-ask_for.ensures.asks
          (subst g.L.Lifecycle.steady (sym so_far.lifecycle) steady)) in (
            before.0 ++ c.in-Some.key.now ∷ [],
            append_assoc before.0 (c.in-Some.key.now ∷ []) c.in-Some.tail.now
                ∙ ap (λ keys. before.0 ++ keys) (sym parts) ∙ before.1,
            asked_one _ g.K.PartialEq.eq c.args.cache.now.state c.loop-key.cache.state
                c.ask_for.new.cache.state before.0 c.in-Some.key.now c.loop-key.hits
                c.in_ok-ask_for.field-0 _ (ap (λ found. c.loop-key.hits + counted found) c.if-branch.false ∙ omega arith) before.2 one,
          );
    }
