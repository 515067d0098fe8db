-- What a cache counts.
use Rattle.std.specs.Prelude.{◌-◌, ◌^◌, min}
use Rattle.quick_cache_model.specs.CacheState.{CacheState, item_count, total_weight}
use Rattle.quick_cache_stats.specs.declared.stats.Stats.{Stats}

-- what a cache of this state counts: its entries have no end, and it has no loader of its own
abbrev pub stats_of : {K V : Type 0} → CacheState K V → Stats
stats_of state = record {
  entries = item_count state;
  weight = min (total_weight state) (2 ^ 64 - 1);
  capacity = state.capacity;
  hits = state.hits;
  misses = state.misses;
  expired = 0;
  loads = 0;
  failed_loads = 0;
}
