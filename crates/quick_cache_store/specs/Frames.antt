-- What the calls of a slab do, told token by token. No public clause cites this module.
use Rattle.std.specs.Prelude.{◌≡◌, ◌≢◌, ◌⊎◌, ℕ, suc, ◌+◌, ◌<◌, ◌≤◌, [], ◌∷◌, length, Some, None}
use Rattle.quick_cache_store.specs.Pool.{Pool, item_at}

module _ {S : Type 0} where
  -- an item came to a token that had none
  pub record IsPlaced (old new : Pool S) (t : ℕ) (x : S) : Type 0 where
    pub vacant : item_at old t ≡ None
    pub here : item_at new t ≡ Some x
    pub others : (u : ℕ) → u ≢ t → item_at new u ≡ item_at old u
    pub grows : ((length new.slots ≡ length old.slots) × (0 < t) × (t ≤ length old.slots)
        × (length new.free + 1 ≡ length old.free))
        ⊎ ((length new.slots ≡ suc (length old.slots)) × (t ≡ suc (length old.slots))
        × (old.free ≡ []) × (new.free ≡ []))

  -- an item left
  pub record IsRemoved (old new : Pool S) (t : ℕ) : Type 0 where
    pub here : item_at new t ≡ None
    pub others : (u : ℕ) → u ≢ t → item_at new u ≡ item_at old u
    pub long : length new.slots ≡ length old.slots
    pub free : new.free ≡ t ∷ old.free
    pub room : new.room ≡ old.room
