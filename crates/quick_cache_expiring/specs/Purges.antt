-- Purges of some of the entries, each of which goes on where the last one stopped.
use Rattle.std.specs.Prelude.{◌≡◌, ℕ, Option}
use Rattle.std.specs.declared.num.NonZeroU32.{NonZeroU32 as Token}
use Rattle.quick_cache_shard.specs.RetainsSome.{RetainsSome}
use Rattle.quick_cache_shard.specs.WalksFrom.{number_or_zero}
use Rattle.quick_cache_expiring.specs.Entries.{Entries}
use Rattle.quick_cache_expiring.specs.Lives.{lives}

-- From where the last one stopped so many entries were passed, or all that there were. Of these what
-- was over is gone, and nothing else is; and this one stopped there.
pub record PurgesSome {K V We B L : Type 0} (now at_most : ℕ) (old : Entries K V We B L) (gone : ℕ)
    (new : Entries K V We B L) : Type 0 where
  pub stopped : Option Token
  pub purges : RetainsSome (λ _ lasting stays. stays ≡ lives lasting.until now) old.from old.cache
      at_most (stopped, gone) new.cache
  pub goes_on : new.from ≡ number_or_zero stopped
