use Rattle.quick_cache_sync.proofs.TryLemmas.{IsTriedWith-alone, IfContended-pair}
use Rattle.quick_cache_sync.proofs.cache.Cache.try_insert.Goals as goal

-- the request state was made as a default one, and the call led it on
pub returns-clause-answers : goal.returns-clause-answers
returns-clause-answers g c = IsTriedWith-alone g.L.Lifecycle g.K.PartialEq.eq _ _ _
    c.default-state.result c.try_insert_with_lifecycle.new.state c.default-state.ensures c.args.key
    c.args.value c.try_insert_with_lifecycle.result c.try_insert_with_lifecycle.ensures.answers

-- what is known of the request state is of no use here
pub returns-clause-pair : goal.returns-clause-pair
returns-clause-pair g c = IfContended-pair c.args.key c.args.value _
    c.try_insert_with_lifecycle.result c.try_insert_with_lifecycle.ensures.pair
