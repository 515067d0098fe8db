use Rattle.std.proofs.Common.{rules, ◌≡◌, Some, None, sym, subst}
use Rattle.quick_cache_model.specs.Lookups.{Sees}
use Rattle.quick_cache_model.specs.declared.calls.call.Call.{Call}
use Rattle.quick_cache_model.specs.declared.calls.reply.Reply.{Reply}
use Rattle.quick_cache_shard.specs.Lifecycles.{hooks_by}
use Rattle.quick_cache_shard.specs.Shard.{Shard}
use Rattle.quick_cache_shard.specs.Steps.{goes_by, hooks_in, rules_in, steady_in}
use Rattle.quick_cache_unsync.specs.Loads.{FillsIfThere}
use Rattle.quick_cache_unsync.specs.Touches.{no_touches}
use Rattle.quick_cache_runs.specs.Made.{IsMadeBy}
use Rattle.quick_cache_runs.proofs.CallSteps.{quietly}
use Rattle.quick_cache_runs.proofs.LoadSteps.{sees-nothing, guard-refuses, guard-drops, guard-fills}
use Rattle.quick_cache_runs.proofs.calls.CallMaker.guard_absent.Goals as goal

-- no item is there, so none is found
pub unreachable-requires : goal.unreachable-requires
unreachable-requires g c =
    let told = rw c.in-Ok-Ok.field-0-is at c.in-Ok-Ok.ensures.answers in
    sees-nothing (g.K.PartialEq.eq c.args.key.now) c.args.cache.now.state
    (c.requires.sound.valid.one_entry_a_key c.args.key.now) (Sees.is_absent c.requires.absent) _
    told.1

-- the guard's placeholder was filled, in a cache that goes by the same rules
pub returns-in-Some-clause-step : goal.returns-in-Some-clause-step
returns-in-Some-clause-step g c = λ steady answers.
    let key = c.args.key.now in
    let old = c.args.cache.now in
    let guard = c.in-Ok-Err.guard in
    let X = Shard g.row.K.Denot g.row.V.Denot g.row.We.Denot g.row.B.Denot g.row.L.Denot in
    let goes = goes_by g.K.Hash.hash_input g.We.Weighter g.B.BuildHasher g.B.Hasher.Hasher
    g.L.Lifecycle in
    let equal = g.K.PartialEq.eq in
    let takes = rw c.in-Ok-Err.field-0-is at c.in-Ok-Err.ensures.answers in
    let final = c.cache-in-Some-1.given.0 in
    let new = c.insert_with_lifecycle.new.self.0 in
    let same : final ≡ new = search rules in
    let fills = subst (λ (x : X). FillsIfThere (steady_in goes x) (hooks_in goes x)
    (rules_in goes no_touches x) guard.ticket guard.cache.now.state c.in-Some.value
    c.args.state.now new.state c.insert_with_lifecycle.new.state)
    (rw c.in-Ok-Err.field-0-is at c.in-Ok-Err.ensures.same)
    c.insert_with_lifecycle.ensures.fills in
    rw c.in-Some.is
    (subst (λ (x : X). IsMadeBy {M = g.row.M.Denot} goes equal g.K.Clone.is_clone g.V.Clone.is_clone
    answers old c.args.state.now (Call.Guarded key (Some c.in-Some.value)) Reply.Filled x
    c.insert_with_lifecycle.new.state) (sym same)
    (guard-fills (rules_in goes no_touches old) equal g.K.Clone.is_clone g.V.Clone.is_clone answers
    old.state key (g.K.Clone.is_clone key) guard.ticket guard.cache.now.state takes
    (hooks_in goes old) (steady_in goes old) steady c.in-Some.value
    c.args.state.now new.state c.insert_with_lifecycle.new.state fills))

-- or given up
pub returns-in-None-clause-step : goal.returns-in-None-clause-step
returns-in-None-clause-step g c = λ steady answers.
    let key = c.args.key.now in
    let old = c.args.cache.now in
    let guard = c.in-Ok-Err.guard in
    let X = Shard g.row.K.Denot g.row.V.Denot g.row.We.Denot g.row.B.Denot g.row.L.Denot in
    let goes = goes_by g.K.Hash.hash_input g.We.Weighter g.B.BuildHasher g.B.Hasher.Hasher
    g.L.Lifecycle in
    let equal = g.K.PartialEq.eq in
    let takes = rw c.in-Ok-Err.field-0-is at c.in-Ok-Err.ensures.answers in
    let final = c.cache-in-Ok-Err-1.given.0 in
    let new = c.drop-guard.new.self.0 in
    let same : final ≡ new = search rules in
    rw c.in-None.is
    (subst (λ (x : X). IsMadeBy {M = g.row.M.Denot} goes equal g.K.Clone.is_clone g.V.Clone.is_clone
    answers old c.args.state.now (Call.Guarded key None) Reply.Dropped x c.args.state.now)
    (sym same)
    (quietly (rules_in goes no_touches old) equal g.K.Clone.is_clone g.V.Clone.is_clone answers
    old.state (hooks_in goes old) c.args.state.now (Call.Guarded key None) Reply.Dropped new.state
    (guard-drops (rules_in goes no_touches old) equal g.K.Clone.is_clone g.V.Clone.is_clone answers
    old.state key (g.K.Clone.is_clone key) guard.ticket guard.cache.now.state takes
    new.state c.drop-guard.ensures.gives_up)))

-- no placeholder was made
pub returns-in-Err-clause-step : goal.returns-in-Err-clause-step
returns-in-Err-clause-step g c = λ steady answers.
    let rests = rw c.in-Err.is at c.get_ref_or_guard.follows.holds-at-none in
    quietly _ g.K.PartialEq.eq g.K.Clone.is_clone g.V.Clone.is_clone answers
    c.args.cache.now.state (hooks_by g.L.Lifecycle c.args.cache.now.lifecycle) c.args.state.now
    (Call.Guarded c.args.key.now c.args.given) _ _
    (guard-refuses _ g.K.PartialEq.eq g.K.Clone.is_clone g.V.Clone.is_clone answers
    c.args.cache.now.state c.args.key.now c.args.given (g.K.Clone.is_clone c.args.key.now)
    c.in-Err.refusal _ rests.0)
