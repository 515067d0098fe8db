use Rattle.quick_cache_laws.proofs.CanBeMade.EntryCalls.{ActsOnEntry-memory, ActsOnEntry-tickets}
use Rattle.quick_cache_laws.proofs.laws.entry_law.Goals as goal

pub returns-clause-memory : goal.returns-clause-memory
returns-clause-memory g c = λ hash weight pinned stands_for old item left choice refusal
    new acts ticket.
    ActsOnEntry-memory stands_for _ old item left choice refusal new acts ticket

pub returns-clause-tickets : goal.returns-clause-tickets
returns-clause-tickets g c = λ hash weight pinned stands_for old item left outcome new
    acts spent.
    ActsOnEntry-tickets stands_for _ old item left outcome new acts spent
