use Rattle.std.proofs.Common.{◌∷◌, [], sym, ◌∙◌, subst}
use Rattle.quick_cache_model.specs.CacheState.{UpToOrder}
use Rattle.quick_cache_model.specs.Lookups.{LooksUp}
use Rattle.quick_cache_shard.specs.Steps.{goes_by, rules_in, steady_in}
use Rattle.quick_cache_unsync.specs.Touches.{no_touches}
use Rattle.qcsim.specs.Simulation.{Simulates}
use Rattle.qcsim.proofs.SimulationLemmas.{found_one, put_one, copied_some, copied_none}
use Rattle.qcsim.proofs.cached.ask_for.Goals as goal

-- the key was found
pub returns-then-is_some-clause-asks : goal.returns-then-is_some-clause-asks
returns-then-is_some-clause-asks g c = λ steady.
    let looks = c.get.follows.holds-at-none.0 in
    found_one _ g.K.PartialEq.eq c.args.key c.args.cache.now.state
    c.get.follows.lender-at-none.state
    (subst (λ found. UpToOrder (LooksUp (g.K.PartialEq.eq c.args.key) c.args.cache.now.state
    (λ item. item.value) found) c.get.follows.lender-at-none.state)
    (copied_some c.get.result (sym c.is_some.ensures ∙ c.if-is_some.true)) looks)

-- it was not, and was put in
pub returns-in-Ok-clause-asks : goal.returns-in-Ok-clause-asks
returns-in-Ok-clause-asks g c = λ steady.
    let looks = c.get.follows.holds-at-none.0 in
    let same = c.get.follows.holds-at-none.1 in
    let mid = c.get.follows.lender-at-none in
    let wrote = c.in-Ok.ensures.inserts.does in
    let goes = goes_by g.K.Hash.hash_input g.We.Weighter g.B.BuildHasher g.B.Hasher.Hasher
    g.L.Lifecycle in
    let is_steady = subst (λ x. steady_in goes x) (sym same) steady in
    subst (λ x. Simulates (rules_in goes no_touches x) g.K.PartialEq.eq c.args.cache.now.state
    (c.args.key ∷ []) 0 c.insert.new.self.state) same
    (put_one _ g.K.PartialEq.eq c.args.key c.args.cache.now.state mid.state wrote.step.calls
    c.insert.new.self.state
    (subst (λ found. UpToOrder (LooksUp (g.K.PartialEq.eq c.args.key) c.args.cache.now.state
    (λ item. item.value) found) mid.state)
    (copied_none c.get.result (sym c.is_some.ensures ∙ c.if-is_some.false)) looks)
    wrote.provided (wrote.step.holds.0 is_steady))
