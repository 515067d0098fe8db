use Rattle.quick_cache_laws.proofs.CanBeMade.Finding.{Finds-some}
use Rattle.quick_cache_laws.proofs.laws.finding_law.Goals as goal

pub returns : goal.returns
returns g c = λ stands_for hash state. Finds-some stands_for hash state
