use Rattle.quick_cache_laws.proofs.Admitted.Weight.{FillsPlaceholder-within_to_order}
use Rattle.quick_cache_laws.proofs.laws.fill_law.Goals as goal

pub returns : goal.returns
returns g c = λ hash weight pinned ticket marked old new value left calls before entry after
    valid there fills passed weighs.
    FillsPlaceholder-within_to_order _ _ ticket marked old new value left calls before entry after
    valid there fills passed weighs
