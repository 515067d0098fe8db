-- How a core stores its life. No public clause cites this module.
use Rattle.std.specs.Prelude.{ℕ, List}
use Rattle.quick_cache_loading.specs.Core.{Life, Loading, Filled, GivenUp}
use Rattle.quick_cache_loading.specs.declared.protocol.life.Stage.{Stage}

-- the life of a stage, beside the stored list of waiters
abbrev pub life_of : {V : Type 0} → Stage V → List ℕ → Life V
life_of (Stage.Loading holder) waiters = Loading holder waiters
life_of (Stage.Filled v) waiters = Filled v
life_of Stage.GivenUp waiters = GivenUp
