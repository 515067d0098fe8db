-- What the shards of the cache behind a loader tell of themselves.
use Rattle.std.specs.Prelude.{ℕ, Bool}
use Rattle.quick_cache_model.specs.declared.terms.lifecycle.Lifecycle as lifecycle
use Rattle.quick_cache_shard.specs.Shard.{Shard}
use Rattle.quick_cache_locked.specs.Counts.{Shows}
use Rattle.quick_cache_locked.specs.declared.count.Count.{Count}
use Rattle.quick_cache_sync.specs.Sums.{AddsUp}
use Rattle.quick_cache_expiring.specs.declared.by_value.ByValue.{ByValue}
use Rattle.read_through.specs.declared.fresh.Fresh.{Fresh}
use Rattle.quick_cache_expiring.specs.declared.loaded.Loaded.{Loaded}

-- so many of them told this number, one after the other, and this is the sum of what they told
abbrev pub Counted : {K V S R : Type 0} (We B : Type 0) → lifecycle.Ghosts (Fresh S) K (Loaded V) R
    → (K → K → Bool) → Count → (shards total : ℕ) → Type 0
Counted {K} {V} {S} We B life equal count shards total = AddsUp life equal
    (λ (shard : Shard K (Loaded V) (ByValue We) B (Fresh S)) shown.
    Shows count shard.state shown) shards total
