use Rattle.quick_cache_shard.specs.Steps.{goes_by, steady_in, hooks_in, rules_in}
use Rattle.quick_cache_unsync.specs.Loads.{AnswersLoad}
use Rattle.quick_cache_unsync.specs.Touches.{no_touches}
use Rattle.quick_cache_unsync.proofs.LoadLemmas.{Takes-awaited, ends-load-by, counted-found, counted-end}
use Rattle.quick_cache_unsync.proofs.cache.Cache.load_by.Goals as goal

-- the placeholder that was taken is there
pub end_load-ended-requires-clause-awaited : goal.end_load-ended-requires-clause-awaited
end_load-ended-requires-clause-awaited g c =
    Takes-awaited (g.Q.Equivalent.equivalent c.args.query.now)
    (g.Q.ToKey.to_key_gives c.args.query.now) c.args.hash c.args.self.now.state
    c.in-Ok-Err.placeholder.ticket c.begin_load.new.self.state
    (rw c.in-Ok-Err.field-0-is at c.in-Ok-Err.ensures.takes)

pub returns-in-Ok-Ok-clause-loads : goal.returns-in-Ok-Ok-clause-loads
returns-in-Ok-Ok-clause-loads g c =
    let up = rw c.in-Ok-Ok.field-0-is at c.in-Ok-Ok.ensures.takes in
    AnswersLoad.found up.0 _ up.1

-- the load goes by what the cache was made with, which a placeholder does not change
pub returns-in-Ok-Err-clause-loads : goal.returns-in-Ok-Err-clause-loads
returns-in-Ok-Err-clause-loads g c =
    let stands_for = g.Q.Equivalent.equivalent c.args.query.now in
    let gives = g.Q.ToKey.to_key_gives c.args.query.now in
    let goes = goes_by g.K.Hash.hash_input g.We.Weighter g.B.BuildHasher g.B.Hasher.Hasher
    g.L.Lifecycle in
    ends-load-by (steady_in goes) (hooks_in goes) (rules_in goes no_touches) _ _
    c.begin_load.ensures.stays.same
    g.L.RequestState.Default.is_default stands_for gives _ _ c.args.self.now.state
    c.begin_load.new.self.state c.end_load-ended.new.self.state c.in-Ok-Err.placeholder.ticket
    c.end_load-ended.result
    (rw c.in-Ok-Err.field-0-is at c.in-Ok-Err.ensures.takes)
    c.end_load-ended.ensures.ends

pub returns-in-Err-clause-loads : goal.returns-in-Err-clause-loads
returns-in-Err-clause-loads g c =
    AnswersLoad.refused c.in-Err.refusal _ c.in-Err.ensures.takes

-- where the key is told to be resident, it is
pub returns-in-Ok-Ok-clause-there : goal.returns-in-Ok-Ok-clause-there
returns-in-Ok-Ok-clause-there g c =
    let up = rw c.in-Ok-Ok.field-0-is at c.in-Ok-Ok.ensures.takes in
    counted-found (g.Q.Equivalent.equivalent c.args.query.now) c.args.self.now.state up.0
    c.begin_load.new.self.state up.1

pub returns-in-Ok-Err-clause-there : goal.returns-in-Ok-Err-clause-there
returns-in-Ok-Err-clause-there g c =
    let now = c.begin_load.new.self in
    let goes = goes_by g.K.Hash.hash_input g.We.Weighter g.B.BuildHasher g.B.Hasher.Hasher
    g.L.Lifecycle in
    counted-end (g.Q.Equivalent.equivalent c.args.query.now) (steady_in goes now)
    (hooks_in goes now) (rules_in goes no_touches now)
    g.L.RequestState.Default.is_default c.in-Ok-Err.placeholder.ticket
    (λ given. g.F.FnOnce.post c.args.loader tt given) now.state c.end_load-ended.new.self.state
    c.end_load-ended.result c.end_load-ended.ensures.ends
