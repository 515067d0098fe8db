use Rattle.quick_cache_laws.proofs.Steps.Tickets.{Steps-gone}
use Rattle.quick_cache_laws.proofs.laws.ticket_law.Goals as goal

pub returns : goal.returns
returns g c = λ hash weight pinned ticket old mid new before entry after valid there first
    none second.
    Steps-gone _ _ ticket old mid new before entry after valid there first none second
