-- The pool of whole slots: what stands at a token of it, and what writes make of it.
use Rattle.std.proofs.Common.{◌≡◌, ℕ, zero, suc, ◌<◌, ◌≤◌, List, [], ◌∷◌, length, Option, Some, None, IsSome, get_or, refl, arith}
use Rattle.quick_cache_store.specs.Pool.{Pool, at_token, item_at, IsOccupied}
use Rattle.quick_cache_store.specs.declared.slots.beside.Beside.{Beside}
use Rattle.quick_cache_store.specs.declared.slots.stored.StoredEntry.{StoredEntry}
use Rattle.quick_cache_store.specs.Joined.{joined_slot, joined_slots, joined, AreBeside}
use Rattle.quick_cache_store.specs.Walks.{no_aside}

module _ {K V P T : Type 0} where
  -- at a place: the slot of the entry there and of what stands beside it, or nothing past the end
  get_or-joined : (slots : List (Option (StoredEntry K V P T))) (asides : List Beside) (i : ℕ)
      → length asides ≡ length slots
      → get_or (joined_slots slots asides) i None ≡ joined_slot (get_or slots i None)
      (get_or asides i no_aside)
  get_or-joined [] asides i beside = refl
  get_or-joined (stored ∷ slots) [] i beside = absurd (omega arith)
  get_or-joined (stored ∷ slots) (aside ∷ asides) zero beside = refl
  get_or-joined (stored ∷ slots) (aside ∷ asides) (suc i) beside =
      get_or-joined slots asides i (omega arith)

  at_token-joined : (slots : List (Option (StoredEntry K V P T))) (asides : List Beside) (t : ℕ)
      → length asides ≡ length slots
      → at_token (joined_slots slots asides) t None ≡ joined_slot (at_token slots t None)
      (at_token asides t no_aside)
  at_token-joined slots asides zero beside = refl
  at_token-joined slots asides (suc i) beside = get_or-joined slots asides i beside

  -- at a token: nothing at 0 and past the end
  pub item_at-joined : (pool : Pool (StoredEntry K V P T)) (asides : List Beside) (left t : ℕ)
      → AreBeside pool asides
      → item_at (joined pool asides left) t ≡ joined_slot (item_at pool t)
      (at_token asides t no_aside)
  item_at-joined pool asides left t beside = at_token-joined pool.slots asides t beside

  IsSome-apart : (stored : Option (StoredEntry K V P T)) (aside : Beside)
      → IsSome (joined_slot stored aside) → IsSome stored
  IsSome-apart None aside some = some
  IsSome-apart (Some stored) aside some = refl

  -- and the other way round
  pub occupied-apart : (pool : Pool (StoredEntry K V P T)) (asides : List Beside) (left t : ℕ)
      → AreBeside pool asides → IsOccupied (joined pool asides left) t → IsOccupied pool t
  occupied-apart pool asides left t beside some =
      IsSome-apart _ _ (rw (item_at-joined pool asides left t beside) at some)

  within-list : (slots : List (Option (StoredEntry K V P T))) (i : ℕ)
      → IsSome (get_or slots i None) → i < length slots
  within-list [] i some = absurd (cc)
  within-list (stored ∷ slots) zero some = omega arith
  within-list (stored ∷ slots) (suc i) some = let less = within-list slots i some in omega arith

  within-token : (slots : List (Option (StoredEntry K V P T))) (t : ℕ)
      → IsSome (at_token slots t None) → (0 < t) × (t ≤ length slots)
  within-token slots zero some = absurd (cc)
  within-token slots (suc i) some =
      let less = within-list slots i some in (omega arith, omega arith)

  -- something stands beside an occupied token
  pub occupied-within : (pool : Pool (StoredEntry K V P T)) (asides : List Beside) (t : ℕ)
      → AreBeside pool asides → IsOccupied pool t → (0 < t) × (t ≤ length asides)
  occupied-within pool asides t beside some =
      let at = within-token pool.slots t some in let low = at.0 in let high = at.1 in
      (omega arith, omega arith)
