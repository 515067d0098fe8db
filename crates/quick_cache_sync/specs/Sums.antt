-- Numbers of a cache that is divided into shards: each shard is asked in turn, behind its lock.
use Rattle.std.specs.Prelude.{◌≡◌, ℕ, ◌-◌, ◌^◌, Bool, List, length, min, sum}
use Rattle.std.specs.List.{AllByRecursion}
use Rattle.quick_cache_model.specs.declared.terms.lifecycle.Lifecycle as lifecycle
use Rattle.quick_cache_shard.specs.Shard.{Shard}
use Rattle.quick_cache_locked.specs.Locked.{FromSome}

-- So many shards answered one after the other, each what it was behind its lock then, and this is
-- the sum of their answers, at most the greatest u64.
pub record AddsUp {K V We B L S : Type 0} (life : lifecycle.Ghosts L K V S) (equal : K → K → Bool)
    (answers : Shard K V We B L → ℕ → Type 0) (shards total : ℕ) : Type 0 where
  pub numbers : List ℕ
  pub one_each : length numbers ≡ shards
  pub each : AllByRecursion (λ number. FromSome life equal (λ shard. answers shard number)) numbers
  pub adds : total ≡ min (sum numbers) (2 ^ 64 - 1)
