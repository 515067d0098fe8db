-- Purges beside other threads, of a shard as it was behind its lock.
use Rattle.std.specs.Prelude.{◌≡◌, ℕ, Bool, not, Option}
use Rattle.std.specs.declared.num.NonZeroU32.{NonZeroU32 as Token}
use Rattle.quick_cache_model.specs.CacheState.{CacheState}
use Rattle.quick_cache_shard.specs.Shard.{Shard}
use Rattle.quick_cache_sync.specs.Answers.{RetainsAskedSo, RetainsSomeSo}
use Rattle.quick_cache_expiring.specs.declared.lasting.Lasting.{Lasting}
use Rattle.quick_cache_expiring.specs.Lives.{lives}

-- an entry stays exactly where it lives
abbrev pub StaysWhereLives : {K V : Type 0} → (now : ℕ) → K → Lasting V → Bool → Type 0
StaysWhereLives now _ lasting stays = stays ≡ lives lasting.until now

-- one that is asked for alone goes exactly where it is over
abbrev pub GoesWhereOver : {V : Type 0} → (now : ℕ) → Lasting V → Bool → Type 0
GoesWhereOver now lasting goes = goes ≡ not (lives lasting.until now)

-- all that is over is gone, so many entries, and nothing else is
abbrev pub PurgesAll : {K V : Type 0} → (now : ℕ) → CacheState K (Lasting V) → (gone : ℕ) → Type 0
PurgesAll now old gone = RetainsAskedSo (StaysWhereLives now) old gone

-- Behind some token so many entries were passed, or all that there were. Of these what was over is
-- gone, so many entries, and nothing else is.
pub record PurgesSome {K V We B L : Type 0} (now at_most : ℕ) (old : Shard K (Lasting V) We B L)
    (gone : ℕ) : Type 0 where
  pub after : ℕ
  pub stopped : Option Token
  pub purges : RetainsSomeSo (StaysWhereLives now) after old at_most (stopped, gone)
