use Rattle.quick_cache_laws.proofs.Admitted.Weight.{Writes-within_to_order}
use Rattle.quick_cache_laws.proofs.Admitted.Resident.{Writes-holds_to_order}
use Rattle.quick_cache_laws.proofs.laws.write_law.Goals as goal

pub returns-clause-within_capacity : goal.returns-clause-within_capacity
returns-clause-within_capacity g c = λ hash weight pinned equal_to key strategy old new
    value left calls writes passed sized.
    Writes-within_to_order _ equal_to key strategy old new value left calls writes passed sized

pub returns-clause-kept : goal.returns-clause-kept
returns-clause-kept g c = λ hash weight pinned equal_to key old new value left calls answer
    writes none passed.
    Writes-holds_to_order _ equal_to key old new value left calls answer writes none passed
