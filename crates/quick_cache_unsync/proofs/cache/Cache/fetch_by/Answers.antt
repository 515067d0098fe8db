use Rattle.quick_cache_shard.specs.Steps.{goes_by, steady_in, hooks_in, rules_in}
use Rattle.quick_cache_unsync.specs.Fetches.{Fetches}
use Rattle.quick_cache_unsync.specs.Touches.{no_touches}
use Rattle.quick_cache_unsync.proofs.LoadLemmas.{Takes-awaited, counted-found, ends-answered, fetches-by}
use Rattle.quick_cache_unsync.proofs.cache.Cache.fetch_by.Goals as goal

-- the item that was found is there
pub clone_under-requires-clause-there : goal.clone_under-requires-clause-there
clone_under-requires-clause-there g c =
    let up = rw c.in-Ok-Ok.field-0-is at c.in-Ok-Ok.ensures.takes in
    counted-found (g.Q.Equivalent.equivalent c.args.query.now) c.args.self.now.state up.0
    c.begin_load.new.self.state up.1

-- the placeholder that was taken is
pub end_fetch-requires-clause-awaited : goal.end_fetch-requires-clause-awaited
end_fetch-requires-clause-awaited g c =
    Takes-awaited (g.Q.Equivalent.equivalent c.args.query.now)
    (g.Q.ToKey.to_key_gives c.args.query.now) c.args.hash c.args.self.now.state
    c.in-Ok-Err.placeholder.ticket c.begin_load.new.self.state
    (rw c.in-Ok-Err.field-0-is at c.in-Ok-Err.ensures.takes)

-- the load goes by what the cache was made with, which a placeholder does not change
pub returns-in-Ok-Err-clause-fetches : goal.returns-in-Ok-Err-clause-fetches
returns-in-Ok-Err-clause-fetches g c =
    let goes = goes_by g.K.Hash.hash_input g.We.Weighter g.B.BuildHasher g.B.Hasher.Hasher
    g.L.Lifecycle in
    fetches-by (steady_in goes) (hooks_in goes) (rules_in goes no_touches) _ _
    c.begin_load.ensures.stays.same
    g.L.RequestState.Default.is_default g.V.Clone.is_clone g.V.Clone.is_infallible
    (g.Q.Equivalent.equivalent c.args.query.now) (g.Q.ToKey.to_key_gives c.args.query.now) _ _
    c.args.self.now.state c.begin_load.new.self.state c.end_fetch.new.self.state
    c.in-Ok-Err.placeholder.ticket c.end_fetch.result
    (rw c.in-Ok-Err.field-0-is at c.in-Ok-Err.ensures.takes) c.end_fetch.ensures.ends

-- what the loader gave is no refusal
pub returns-in-Ok-Err-clause-asks : goal.returns-in-Ok-Err-clause-asks
returns-in-Ok-Err-clause-asks g c = λ key always.
    let now = c.begin_load.new.self in
    let goes = goes_by g.K.Hash.hash_input g.We.Weighter g.B.BuildHasher g.B.Hasher.Hasher
    g.L.Lifecycle in
    ends-answered (steady_in goes now) (hooks_in goes now) (rules_in goes no_touches now)
    g.L.RequestState.Default.is_default g.V.Clone.is_clone g.V.Clone.is_infallible
    c.in-Ok-Err.placeholder.ticket
    (λ given. g.F.FnOnce.post c.args.loader tt given) now.state c.end_fetch.new.self.state _
    c.end_fetch.result c.end_fetch.ensures.ends

-- what was found is answered by a clone, or by why there is none
pub returns-in-Some-clause-fetches : goal.returns-in-Some-clause-fetches
returns-in-Some-clause-fetches g c =
    let up = rw c.in-Ok-Ok.field-0-is at c.in-Ok-Ok.ensures.takes in
    Fetches.found up.0 c.in-Some.copy _ up.1 (rw c.in-Some.is at c.clone_under.ensures.shows)

pub returns-in-Ok-Ok-clause-fetches : goal.returns-in-Ok-Ok-clause-fetches
returns-in-Ok-Ok-clause-fetches g c =
    let up = rw c.in-Ok-Ok.field-0-is at c.in-Ok-Ok.ensures.takes in
    Fetches.not_cloned up.0 _ up.1 (rw c.in-None.is at c.clone_under.ensures.refused)

pub returns-clause-fetches : goal.returns-clause-fetches
returns-clause-fetches g c =
    Fetches.refused c.in-Err.refusal _ (rw c.in-Err.is at c.begin_load.ensures.takes)
