-- How what a cache counts is shown.
use Rattle.std.specs.Prelude.{ℕ, List, ◌++◌, codes}
use Rattle.std.specs.Fmt.{decimal}
use Rattle.quick_cache_stats.specs.declared.stats.Stats.{Stats}

-- a line for each number: its name, and the number
abbrev pub stats_text : Stats → List ℕ
stats_text stats =
    codes "cache_entries " ++ decimal stats.entries
    ++ codes "\ncache_weight " ++ decimal stats.weight
    ++ codes "\ncache_capacity " ++ decimal stats.capacity
    ++ codes "\ncache_hits_total " ++ decimal stats.hits
    ++ codes "\ncache_misses_total " ++ decimal stats.misses
    ++ codes "\ncache_expired_total " ++ decimal stats.expired
    ++ codes "\ncache_loads_total " ++ decimal stats.loads
    ++ codes "\ncache_failed_loads_total " ++ decimal stats.failed_loads
