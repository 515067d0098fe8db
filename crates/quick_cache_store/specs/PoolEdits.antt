-- What an insert into a `Pool` does, told token by token.
use Rattle.std.specs.Prelude.{◌≡◌, ◌≢◌, ℕ, ◌<◌, ◌≤◌, length, Some, None}
use Rattle.quick_cache_store.specs.Pool.{Pool, item_at}

module _ {T : Type 0} where
  -- an item came to a token that had none, and each other token is as it was
  pub record PlacesItem (old new : Pool T) (token : ℕ) (item : T) : Type 0 where
    pub vacant : item_at old token ≡ None
    pub here : item_at new token ≡ Some item
    pub others : (other : ℕ) → other ≢ token → item_at new other ≡ item_at old other
    pub within : (0 < token) × (token ≤ length new.slots)
