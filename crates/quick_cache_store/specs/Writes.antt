-- What a write does: to the slot of one token, and to nothing else.
use Rattle.std.specs.Prelude.{◌≡◌, ℕ, Option, Some, None}
use Rattle.quick_cache_store.specs.Pool.{Pool, item_at, with_item}

module _ {S : Type 0} where
  -- the pool with the slot of a token changed, if it is occupied
  abbrev pub changed_to : (S → S) → ℕ → Option S → Pool S → Pool S
  changed_to change token None pool = pool
  changed_to change token (Some slot) pool = with_item pool token (change slot)

  abbrev pub changed_at : (S → S) → ℕ → Pool S → Pool S
  changed_at change token pool = changed_to change token (item_at pool token) pool

  -- the slot of the token is changed so
  pub record Writes (old new : Pool S) (token : ℕ) (change : S → S) : Type 0 where
    pub slot : S
    pub was : item_at old token ≡ Some slot
    pub is : new ≡ with_item old token (change slot)
