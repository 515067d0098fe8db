use Rattle.quick_cache_laws.proofs.Steps.MarkCut.{Steps-cut}
use Rattle.quick_cache_laws.proofs.laws.mark_law.Goals as goal

pub returns : goal.returns
returns g c = λ hash weight pinned. Steps-cut _ _
