-- The hooks of a lifecycle.
use Rattle.quick_cache_model.specs.Hooks.{Hooks}
use Rattle.quick_cache_model.specs.declared.terms.lifecycle.Lifecycle as lifecycle

-- what each hook may do, as the lifecycle says
abbrev pub hooks_by : {K V L S : Type 0} → lifecycle.Ghosts L K V S → L → Hooks K V S
hooks_by life lifecycle = record {
  before_evict = life.before_evict_gives lifecycle;
  evict_hot = life.on_evict_hot_gives lifecycle;
  evict_cold = life.on_evict_cold_gives lifecycle;
}
