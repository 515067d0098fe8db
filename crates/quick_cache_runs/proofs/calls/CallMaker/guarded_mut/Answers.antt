use Rattle.std.proofs.Common.{rules, ◌≡◌, Some, None, refl, sym, subst}
use Rattle.quick_cache_model.specs.Hooks.{Rules}
use Rattle.quick_cache_model.specs.declared.calls.call.Call.{Call}
use Rattle.quick_cache_model.specs.declared.calls.reply.Reply.{Reply}
use Rattle.quick_cache_model.specs.declared.refusal.Refusal.{Refusal}
use Rattle.quick_cache_shard.specs.References.{with_value_under, ReweighsUnder}
use Rattle.quick_cache_shard.specs.Lifecycles.{hooks_by}
use Rattle.quick_cache_shard.specs.Shard.{Shard}
use Rattle.quick_cache_shard.specs.Steps.{goes_by, hooks_in, rules_in, steady_in}
use Rattle.quick_cache_unsync.specs.Loads.{FillsIfThere}
use Rattle.quick_cache_unsync.specs.Touches.{no_touches}
use Rattle.quick_cache_shard.proofs.WrittenLemmas.{written}
use Rattle.quick_cache_runs.specs.Made.{IsMadeBy}
use Rattle.quick_cache_runs.proofs.CallSteps.{quietly}
use Rattle.quick_cache_runs.proofs.LoadSteps.{sees-nothing, shows-nothing, guard-writes, guard-refuses-clone, guard-refuses, guard-drops}
use Rattle.quick_cache_runs.proofs.LoadSteps.{guard-fills, guarded_mut-made}
use Rattle.quick_cache_runs.proofs.calls.CallMaker.guarded_mut.Goals as goal

-- an item was seen, so there was something to clone
pub returns-in_default-clause-step : goal.returns-in_default-clause-step
returns-in_default-clause-step g c = λ steady answers.
    let key = c.args.key.now in
    let old = c.args.cache.now.state in
    let equal = g.K.PartialEq.eq in
    let fails = c.in_default.ensures.fails in
    guarded_mut-made _ equal g.K.Clone.is_clone g.V.Clone.is_clone answers old
    (hooks_by g.L.Lifecycle c.args.cache.now.lifecycle) key c.args.given c.args.left
    (Reply.Refused Refusal.Memory) _ _ _ (λ shown same. absurd cc)
    (quietly _ equal g.K.Clone.is_clone g.V.Clone.is_clone answers old
    (hooks_by g.L.Lifecycle c.args.cache.now.lifecycle) c.args.state.now
    (Call.Guarded key c.args.given) _ _
    (guard-refuses-clone _ equal g.K.Clone.is_clone g.V.Clone.is_clone answers old key c.args.given
    fails.1 refl))

-- the value that was seen is written over, in a cache that goes by the same rules
pub returns-in-Some-clause-step : goal.returns-in-Some-clause-step
returns-in-Some-clause-step g c = λ steady answers.
    let key = c.args.key.now in
    let old = c.args.cache.now in
    let X = Shard g.row.K.Denot g.row.V.Denot g.row.We.Denot g.row.B.Denot g.row.L.Denot in
    let goes = goes_by g.K.Hash.hash_input g.We.Weighter g.B.BuildHasher g.B.Hasher.Hasher
    g.L.Lifecycle in
    let equal = g.K.PartialEq.eq in
    let r = c.in-Ok-Ok.reference in
    let told = rw c.in-Ok-Ok.field-0-is at c.in-Ok-Ok.ensures.answers in
    let same = rw c.in-Ok-Ok.field-0-is at c.in-Ok-Ok.ensures.same in
    let sound = rw c.in-Ok-Ok.field-0-is at c.in-Ok-Ok.ensures.sound in
    let shows = rw c.in-Some.is at c.in-Ok.ensures.shows in
    let final = c.cache-1.given.0 in
    let new = c.drop-reference.new.self.0 in
    let ends : final ≡ new = search rules in
    let writes = written (rules_in goes no_touches old) (equal key) c.args.left r.cache.now.state new.state
    (sound.valid.one_entry_a_key key)
    (subst (λ (x : g.row.K.Denot × Rules g.row.K.Denot g.row.V.Denot).
    ReweighsUnder (equal x.0) x.1 (with_value_under (equal x.0) c.args.left r.cache.now.state)
    new.state) (λ i. (told.0 i, rules_in goes no_touches (same i))) c.drop-reference.ensures.reweighs) in
    subst (λ (x : X). IsMadeBy {M = g.row.M.Denot} goes equal g.K.Clone.is_clone g.V.Clone.is_clone
    answers old c.args.state.now (Call.GuardedMut key c.args.given c.args.left)
    (Reply.Found c.in-Some.copy) x
    c.args.state.now) (sym ends)
    (quietly (rules_in goes no_touches old) equal g.K.Clone.is_clone g.V.Clone.is_clone answers
    old.state (hooks_in goes old) c.args.state.now
    (Call.GuardedMut key c.args.given c.args.left) (Reply.Found c.in-Some.copy) new.state
    (guard-writes (rules_in goes no_touches old) equal g.K.Clone.is_clone g.V.Clone.is_clone answers
    old.state key c.args.given c.args.left c.in-Some.copy shows.0 (c.in-Ok.ensures.sound.valid.one_entry_a_key key)
    shows.1 shows.2 told.1.0 r.cache.now.state new.state told.1.1 writes))

-- nothing was shown, so nothing is found
pub unreachable-requires : goal.unreachable-requires
unreachable-requires g c =
    let told = rw c.in-Ok-Ok.field-0-is at c.in-Ok-Ok.ensures.answers in
    let shows = rw c.in-None.is at c.in-Ok.ensures.shows in
    sees-nothing (g.K.PartialEq.eq c.args.key.now) c.args.cache.now.state
    (c.in-Ok.ensures.sound.valid.one_entry_a_key c.args.key.now)
    (shows-nothing (g.K.PartialEq.eq c.args.key.now) c.args.cache.now.state g.V.Clone.is_clone
    shows.0 shows.2 shows.1) _ told.1

-- the guard's placeholder was filled, in a cache that goes by the same rules
pub returns-in-Some-given-clause-step : goal.returns-in-Some-given-clause-step
returns-in-Some-given-clause-step g c = λ steady answers.
    let key = c.args.key.now in
    let old = c.args.cache.now in
    let guard = c.in-Ok-Err.guard in
    let X = Shard g.row.K.Denot g.row.V.Denot g.row.We.Denot g.row.B.Denot g.row.L.Denot in
    let goes = goes_by g.K.Hash.hash_input g.We.Weighter g.B.BuildHasher g.B.Hasher.Hasher
    g.L.Lifecycle in
    let equal = g.K.PartialEq.eq in
    let takes = rw c.in-Ok-Err.field-0-is at c.in-Ok-Err.ensures.answers in
    let final = c.cache-in-Some-given-1.given.0 in
    let new = c.insert_with_lifecycle.new.self.0 in
    let same : final ≡ new = search rules in
    let fills = subst (λ (x : X). FillsIfThere (steady_in goes x) (hooks_in goes x)
    (rules_in goes no_touches x) guard.ticket guard.cache.now.state c.in-Some-given.value
    c.args.state.now new.state c.insert_with_lifecycle.new.state)
    (rw c.in-Ok-Err.field-0-is at c.in-Ok-Err.ensures.same)
    c.insert_with_lifecycle.ensures.fills in
    rw c.in-Some-given.is
    (subst (λ (x : X). IsMadeBy {M = g.row.M.Denot} goes equal g.K.Clone.is_clone g.V.Clone.is_clone
    answers old c.args.state.now (Call.GuardedMut key (Some c.in-Some-given.value) c.args.left)
    Reply.Filled x
    c.insert_with_lifecycle.new.state) (sym same)
    (guarded_mut-made (rules_in goes no_touches old) equal g.K.Clone.is_clone
    g.V.Clone.is_clone answers old.state (hooks_in goes old) key (Some c.in-Some-given.value)
    c.args.left Reply.Filled
    c.args.state.now new.state c.insert_with_lifecycle.new.state (λ shown same. absurd cc)
    (guard-fills (rules_in goes no_touches old) equal g.K.Clone.is_clone g.V.Clone.is_clone answers
    old.state key (g.K.Clone.is_clone key) guard.ticket guard.cache.now.state takes
    (hooks_in goes old) (steady_in goes old) steady c.in-Some-given.value
    c.args.state.now new.state c.insert_with_lifecycle.new.state fills)))

-- or given up
pub returns-in-Ok-Err-clause-step : goal.returns-in-Ok-Err-clause-step
returns-in-Ok-Err-clause-step g c = λ steady answers.
    let key = c.args.key.now in
    let old = c.args.cache.now in
    let guard = c.in-Ok-Err.guard in
    let X = Shard g.row.K.Denot g.row.V.Denot g.row.We.Denot g.row.B.Denot g.row.L.Denot in
    let goes = goes_by g.K.Hash.hash_input g.We.Weighter g.B.BuildHasher g.B.Hasher.Hasher
    g.L.Lifecycle in
    let equal = g.K.PartialEq.eq in
    let takes = rw c.in-Ok-Err.field-0-is at c.in-Ok-Err.ensures.answers in
    let final = c.cache-in-Ok-Err-1.given.0 in
    let new = c.drop-guard.new.self.0 in
    let same : final ≡ new = search rules in
    rw c.in-None-given.is
    (subst (λ (x : X). IsMadeBy {M = g.row.M.Denot} goes equal g.K.Clone.is_clone g.V.Clone.is_clone
    answers old c.args.state.now (Call.GuardedMut key None c.args.left) Reply.Dropped x
    c.args.state.now)
    (sym same)
    (guarded_mut-made (rules_in goes no_touches old) equal g.K.Clone.is_clone
    g.V.Clone.is_clone answers old.state (hooks_in goes old) key None c.args.left Reply.Dropped
    c.args.state.now new.state
    c.args.state.now (λ shown same. absurd cc)
    (quietly (rules_in goes no_touches old) equal g.K.Clone.is_clone g.V.Clone.is_clone answers
    old.state (hooks_in goes old) c.args.state.now (Call.Guarded key None) Reply.Dropped new.state
    (guard-drops (rules_in goes no_touches old) equal g.K.Clone.is_clone g.V.Clone.is_clone answers
    old.state key (g.K.Clone.is_clone key) guard.ticket guard.cache.now.state takes
    new.state c.drop-guard.ensures.gives_up))))

-- no placeholder was made
pub returns-clause-step : goal.returns-clause-step
returns-clause-step g c = λ steady answers.
    let rests = rw c.in-Err.is at c.get_mut_or_guard.follows.holds-at-none in
    let equal = g.K.PartialEq.eq in
    let key = c.args.key.now in
    let old = c.args.cache.now.state in
    guarded_mut-made _ equal g.K.Clone.is_clone g.V.Clone.is_clone answers old
    (hooks_by g.L.Lifecycle c.args.cache.now.lifecycle) key c.args.given c.args.left
    (Reply.Refused c.in-Err.refusal) _ _ _ (λ shown same. absurd cc)
    (quietly _ equal g.K.Clone.is_clone g.V.Clone.is_clone answers old
    (hooks_by g.L.Lifecycle c.args.cache.now.lifecycle) c.args.state.now
    (Call.Guarded key c.args.given) _ _
    (guard-refuses _ equal g.K.Clone.is_clone g.V.Clone.is_clone answers old key c.args.given
    (g.K.Clone.is_clone key) c.in-Err.refusal _ rests.0))
