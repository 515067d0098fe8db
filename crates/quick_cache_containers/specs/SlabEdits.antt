-- What each edit of a `LinkedSlab` does, told token by token.
use Rattle.std.specs.Prelude.{◌≡◌, ◌≢◌, ℕ, ◌+◌, ◌<◌, ◌≤◌, List, [], ◌∷◌, ◌++◌, length, Some, None}
use Rattle.quick_cache_containers.specs.LinkedSlab.{LinkedSlab, item_at, ring_from, times}

module _ {T : Type 0} where
  -- the token left the ring of each other token, in which the order stays
  pub record LeavesRings (old new : LinkedSlab T) (token : ℕ) : Type 0 where
    pub kept : (other : ℕ) → other ≢ token → times token (ring_from old other) ≡ 0
        → ring_from new other ≡ ring_from old other
    pub cut : (other : ℕ) (before after : List ℕ) → other ≢ token
        → ring_from old other ≡ before ++ token ∷ after → ring_from new other ≡ before ++ after

  -- an item came to a token that had none, as a ring of its own, and each other token is as it was
  pub record PlacesItem (old new : LinkedSlab T) (token : ℕ) (item : T) : Type 0 where
    pub vacant : item_at old token ≡ None
    pub here : item_at new token ≡ Some item
    pub alone : ring_from new token ≡ token ∷ []
    pub items : (other : ℕ) → other ≢ token → item_at new other ≡ item_at old other
    pub rings : (other : ℕ) → other ≢ token → ring_from new other ≡ ring_from old other
    pub within : (0 < token) × (token ≤ length new.slots)
    pub slots : length old.slots ≤ length new.slots
    pub free : length new.free + length old.slots + 1 ≡ length old.free + length new.slots

  -- the item of a token left with the token, and each other item is as it was
  pub record RemovesItem (old new : LinkedSlab T) (token : ℕ) : Type 0 where
    pub vacant : item_at new token ≡ None
    pub ringless : ring_from new token ≡ []
    pub items : (other : ℕ) → other ≢ token → item_at new other ≡ item_at old other
    pub rings : LeavesRings old new token
    pub slots : length new.slots ≡ length old.slots
    pub free : new.free ≡ token ∷ old.free
    pub room : new.room ≡ old.room

  -- the token left its ring for one of its own, and all items are as they were
  pub record UnlinksToken (old new : LinkedSlab T) (token : ℕ) : Type 0 where
    pub alone : ring_from new token ≡ token ∷ []
    pub rings : LeavesRings old new token
    pub slots : new.slots ≡ old.slots
    pub free : new.free ≡ old.free
    pub room : new.room ≡ old.room

  -- the token came to the end of the ring that begins with the head, and all items are as they were
  pub record LinksToken (old new : LinkedSlab T) (token head : ℕ) : Type 0 where
    pub joins : ring_from new head ≡ ring_from old head ++ token ∷ []
    pub begins : ring_from new token ≡ token ∷ ring_from old head
    pub kept : (other : ℕ) → other ≢ token → times head (ring_from old other) ≡ 0
        → ring_from new other ≡ ring_from old other
    pub slots : new.slots ≡ old.slots
    pub free : new.free ≡ old.free
    pub room : new.room ≡ old.room
