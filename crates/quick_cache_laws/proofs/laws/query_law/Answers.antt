use Rattle.quick_cache_laws.proofs.Calls.Queries.{keys_by-query, Sees-LooksUp-query}
use Rattle.quick_cache_laws.proofs.laws.query_law.Goals as goal

pub returns-clause-one_entry : goal.returns-clause-one_entry
returns-clause-one_entry g c = λ stands_for state query valid. keys_by-query _ stands_for query
    state valid

pub returns-clause-same : goal.returns-clause-same
returns-clause-same g c = λ stands_for old new seen shown query valid sees looks. Sees-LooksUp-query
    _ stands_for query _ old new seen shown valid sees looks
