use Rattle.quick_cache_listeners.proofs.Written.{write-light, write-nearly}
use Rattle.quick_cache_listeners.proofs.causes.laws.write_law.Goals as goal

pub returns-clause-light : goal.returns-clause-light
returns-clause-light g c = λ hash weight pinned equal_to key strategy old value calls answer new
    writes light.
    write-light _ equal_to key strategy old value calls answer new writes light

pub returns-clause-nearly : goal.returns-clause-nearly
returns-clause-nearly g c = λ hash weight pinned equal_to key strategy old value calls answer new
    writes.
    write-nearly _ equal_to key strategy old value calls answer new writes
