use Rattle.quick_cache_model.proofs.KeptSizes.{empty_state-sized}
use Rattle.quick_cache_laws.proofs.Steps.Sized.{Steps-sized}
use Rattle.quick_cache_laws.proofs.laws.size_law.Goals as goal

pub returns-clause-starts : goal.returns-clause-starts
returns-clause-starts g c = λ capacity hot_share items ghost_share.
    empty_state-sized capacity hot_share items ghost_share

pub returns-clause-steps : goal.returns-clause-steps
returns-clause-steps g c = λ hash weight pinned old new steps sized.
    Steps-sized _ _ old new steps sized
