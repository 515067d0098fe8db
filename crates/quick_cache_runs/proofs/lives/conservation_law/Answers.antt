use Rattle.quick_cache_runs.proofs.Books.{book_of}
use Rattle.quick_cache_runs.proofs.Residents.{value_of_key}
use Rattle.quick_cache_runs.proofs.RunBooks.{CacheRun-conserves}
use Rattle.quick_cache_runs.proofs.lives.conservation_law.Goals as goal

pub returns-clause-opens : goal.returns-clause-opens
returns-clause-opens g c = λ state. book_of state

pub returns-clause-finds : goal.returns-clause-finds
returns-clause-finds g c = λ state valid key. value_of_key _ state valid key

pub returns-clause-conserves : goal.returns-clause-conserves
returns-clause-conserves g c = λ hash weight pinned answers old new calls replies hook_calls run
    valid first of balanced.
    CacheRun-conserves _ _ g.met.K.Eq.laws _ _ answers old calls replies hook_calls new run valid
    first of balanced
