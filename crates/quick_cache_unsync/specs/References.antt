-- References to a value of a cache, to write.
use Rattle.std.specs.Prelude.{Bool, Option}
use Rattle.quick_cache_model.specs.CacheState.{CacheState, UpToOrder}
use Rattle.quick_cache_model.specs.Hooks.{Rules}
use Rattle.quick_cache_model.specs.Lookups.{LooksUp}
use Rattle.quick_cache_model.specs.References.{WritesItem}
pub use Rattle.quick_cache_shard.specs.StillUnder.{still_under}

module _ {K V : Type 0} (stands_for : K → Bool) where
  -- A value is written through a reference that is a look-up: the item is marked and read, then it
  -- has the value and the weight of that. Nothing is evicted.
  pub record Sets (rules : Rules K V) (old : CacheState K V) (value : V) (there : Bool)
      (new : CacheState K V) : Type 0 where
    pub found : Option V
    pub mid : CacheState K V
    pub looks : UpToOrder (LooksUp stands_for old (λ item. item.value) found) mid
    pub writes : UpToOrder (WritesItem rules stands_for mid value there) new
