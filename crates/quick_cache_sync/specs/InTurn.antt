-- What the shards of a cache do one after the other: how they show their items, and how their
-- capacity is set.
use Rattle.std.specs.Prelude.{ℕ, ◌+◌, Bool, List, [], ◌++◌}
use Rattle.quick_cache_model.specs.declared.terms.lifecycle.Lifecycle as lifecycle
use Rattle.quick_cache_model.specs.CacheState.{CacheState}
use Rattle.quick_cache_shard.specs.Shard.{Shard}
use Rattle.quick_cache_locked.specs.declared.heated.Heated.{Heated}
use Rattle.quick_cache_locked.specs.Locked.{FromSome}

module _ {K V L S : Type 0} (life : lifecycle.Ghosts L K V S) (equal : K → K → Bool)
    (We B : Type 0) (shows : CacheState K V → List (Heated K V) → Type 0) where
  -- So many shards showed their part, one after the other, each of what it had behind its lock then.
  pub data ShowInTurn : (shards : ℕ) → (shown : List (Heated K V)) → Type 0 where
    none : ShowInTurn 0 []
    one_more : (shards : ℕ) (shown part : List (Heated K V)) → ShowInTurn shards shown
        → FromSome life equal (λ (shard : Shard K V We B L). shows shard.state part)
        → ShowInTurn (shards + 1) (shown ++ part)

-- the value fits the key, as the lifecycle says it
abbrev pub FitsHeated : {K V L S : Type 0} → lifecycle.Ghosts L K V S → Heated K V → Type 0
FitsHeated life item = life.fits item.key item.value

module _ {K V We B L S : Type 0} (life : lifecycle.Ghosts L K V S) (equal : K → K → Bool)
    (sets : (old new : Shard K V We B L) → S → S → Type 0) where
  -- So many shards were set, one after the other, each from what it was behind its lock then, and
  -- the request state went from one to the next.
  pub data SetInTurn : (shards : ℕ) → (first last : S) → Type 0 where
    none : (state : S) → SetInTurn 0 state state
    one_more : (shards : ℕ) (first mid last : S) → SetInTurn shards first mid
        → FromSome life equal (λ old. (new : Shard K V We B L) × sets old new mid last)
        → SetInTurn (shards + 1) first last
