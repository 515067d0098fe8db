-- What the edits of the pool and of what stands beside it do to the pool of whole slots.
use Rattle.std.proofs.Common.{◌≡◌, ◌⊎◌, ℕ, zero, suc, ◌+◌, ◌<◌, ◌≤◌, min, cond, List, [], ◌∷◌, ◌++◌, length, count_by, Option, Some, None}
use Rattle.std.proofs.Common.{is_some, get_or, set, refl, sym, ap, ◌∙◌, inl, inr, arith}
use Rattle.std.proofs.lemmas.Bool.{eq-eqb}
use Rattle.std.proofs.lemmas.List.{get_or_default, length_push}
use Rattle.std.proofs.lemmas.List.Sums.{sum_by-cons}
use Rattle.quick_cache_store.specs.Pool.{Pool, at_token, with_token, item_at, next_token, IsParted, emptied, placed, removed}
use Rattle.quick_cache_store.specs.PoolEdits.{PlacesItem}
use Rattle.quick_cache_store.specs.declared.slots.beside.Beside.{Beside}
use Rattle.quick_cache_store.specs.declared.slots.entry.Slot.{Slot}
use Rattle.quick_cache_store.specs.declared.slots.stored.StoredEntry.{StoredEntry}
use Rattle.quick_cache_store.specs.Stored.{slot_of}
use Rattle.quick_cache_store.specs.Joined.{joined_slot, joined_slots, joined, AreBeside}
use Rattle.quick_cache_store.specs.Walks.{no_aside}
use Rattle.quick_cache_store.proofs.slots.JoinedLemmas.{item_at-joined, occupied-apart, occupied-within}
use Rattle.quick_cache_store.proofs.pool.AtTokens.{with_token-suc, at_token-suc, length-with_token}

-- how a thing of a token is kept beside the slots: in the place of an old one, or as the last
abbrev pub Keeps : (asides new : List Beside) → ℕ → Beside → Type 0
Keeps asides new t aside =
    ((0 < t) × (t ≤ length asides) × (new ≡ with_token asides t aside))
    ⊎ ((t ≡ length asides + 1) × (new ≡ asides ++ aside ∷ []))

-- in the place of an old one
pub keeps_old : (asides new : List Beside) (t i : ℕ) (aside : Beside) → i + 1 ≡ t → i < length asides
    → new ≡ set asides i aside → Keeps asides new t aside
keeps_old asides new t i aside at below written =
    inl (omega arith, omega arith, written ∙ sym (with_token-suc asides t i aside at))

-- or as the last
pub keeps_last : (asides new : List Beside) (t : ℕ) (aside : Beside) → t ≡ length asides + 1
    → new ≡ asides ++ aside ∷ [] → Keeps asides new t aside
keeps_last asides new t aside last pushed = inr (last, pushed)

-- what is read at the place of a token stands at the token
at_token-read : {X : Type 0} (xs : List X) (t i : ℕ) (x d : X) → i + 1 ≡ t → t ≤ length xs
    → x ≡ get_or xs i x → at_token xs t d ≡ x
at_token-read xs t i x d at within read =
    at_token-suc xs t i d at ∙ get_or_default xs i d x (omega arith) ∙ sym read

module _ {K V P T : Type 0} where
  -- a stored entry with what stands beside it is the slot of its token
  pub item_at-read : (pool : Pool (StoredEntry K V P T)) (asides : List Beside) (left t i : ℕ)
      (stored : StoredEntry K V P T) (aside : Beside) → AreBeside pool asides
      → item_at pool t ≡ Some stored → i + 1 ≡ t → aside ≡ get_or asides i aside
      → item_at (joined pool asides left) t ≡ Some (slot_of stored aside)
  item_at-read pool asides left t i stored aside beside found at read =
      let within = occupied-within pool asides t beside (rw found refl) in
      item_at-joined pool asides left t beside
      ∙ rw (found, at_token-read asides t i aside no_aside at within.1 read) refl

  -- as many whole slots as slots
  pub length-joined_slots : (slots : List (Option (StoredEntry K V P T))) (asides : List Beside)
      → length asides ≡ length slots → length (joined_slots slots asides) ≡ length slots
  length-joined_slots [] asides beside = refl
  length-joined_slots (stored ∷ slots) [] beside = absurd (omega arith)
  length-joined_slots (stored ∷ slots) (aside ∷ asides) beside =
      let long = length-joined_slots slots asides (omega arith) in omega arith

  -- as many entries in whole slots as in slots
  pub count-joined_slots : (slots : List (Option (StoredEntry K V P T))) (asides : List Beside)
      → length asides ≡ length slots
      → count_by is_some (joined_slots slots asides) ≡ count_by is_some slots
  count-joined_slots [] asides beside = refl
  count-joined_slots (stored ∷ slots) [] beside = absurd (omega arith)
  count-joined_slots (stored ∷ slots) (aside ∷ asides) beside =
      sum_by-cons (λ (x : Option (Slot K V P T)). cond (is_some x) 1 0) (joined_slot stored aside)
      (joined_slots slots asides)
      ∙ count_more stored aside (count-joined_slots slots asides (omega arith))
      ∙ sym (sum_by-cons (λ (x : Option (StoredEntry K V P T)). cond (is_some x) 1 0) stored slots)
    where
      count_more : (stored : Option (StoredEntry K V P T)) (aside : Beside)
          → count_by is_some (joined_slots slots asides) ≡ count_by is_some slots
          → cond (is_some (joined_slot stored aside)) 1 0
          + count_by is_some (joined_slots slots asides)
          ≡ cond (is_some stored) 1 0 + count_by is_some slots
      count_more None aside same = ap (λ n. 0 + n) same
      count_more (Some stored) aside same = ap (λ n. 1 + n) same

  -- a push to both
  joined_slots-push : (slots : List (Option (StoredEntry K V P T))) (asides : List Beside)
      (stored : Option (StoredEntry K V P T)) (aside : Beside) → length asides ≡ length slots
      → joined_slots (slots ++ stored ∷ []) (asides ++ aside ∷ [])
      ≡ joined_slots slots asides ++ joined_slot stored aside ∷ []
  joined_slots-push [] [] stored aside beside = refl
  joined_slots-push [] (other ∷ asides) stored aside beside = absurd (omega arith)
  joined_slots-push (other ∷ slots) [] stored aside beside = absurd (omega arith)
  joined_slots-push (other ∷ slots) (beside_it ∷ asides) stored aside beside =
      ap (λ (xs : List (Option (Slot K V P T))). joined_slot other beside_it ∷ xs)
      (joined_slots-push slots asides stored aside (omega arith))

  -- a write to both
  joined_slots-set : (slots : List (Option (StoredEntry K V P T))) (asides : List Beside) (i : ℕ)
      (stored : Option (StoredEntry K V P T)) (aside : Beside)
      → joined_slots (set slots i stored) (set asides i aside)
      ≡ set (joined_slots slots asides) i (joined_slot stored aside)
  joined_slots-set [] asides i stored aside = refl
  joined_slots-set (other ∷ slots) [] zero stored aside = refl
  joined_slots-set (other ∷ slots) [] (suc i) stored aside = refl
  joined_slots-set (other ∷ slots) (beside_it ∷ asides) zero stored aside = refl
  joined_slots-set (other ∷ slots) (beside_it ∷ asides) (suc i) stored aside =
      ap (λ (xs : List (Option (Slot K V P T))). joined_slot other beside_it ∷ xs)
      (joined_slots-set slots asides i stored aside)

  -- a slot that gets free
  joined_slots-free : (slots : List (Option (StoredEntry K V P T))) (asides : List Beside) (i : ℕ)
      → joined_slots (set slots i None) asides ≡ set (joined_slots slots asides) i None
  joined_slots-free [] asides i = refl
  joined_slots-free (other ∷ slots) [] zero = refl
  joined_slots-free (other ∷ slots) [] (suc i) = refl
  joined_slots-free (other ∷ slots) (beside_it ∷ asides) zero = refl
  joined_slots-free (other ∷ slots) (beside_it ∷ asides) (suc i) =
      ap (λ (xs : List (Option (Slot K V P T))). joined_slot other beside_it ∷ xs)
      (joined_slots-free slots asides i)

  -- each at a token
  pub joined_slots-with_token : (slots : List (Option (StoredEntry K V P T))) (asides : List Beside)
      (t : ℕ) (stored : Option (StoredEntry K V P T)) (aside : Beside)
      → joined_slots (with_token slots t stored) (with_token asides t aside)
      ≡ with_token (joined_slots slots asides) t (joined_slot stored aside)
  joined_slots-with_token slots asides zero stored aside = refl
  joined_slots-with_token slots asides (suc i) stored aside =
      joined_slots-set slots asides i stored aside

  joined_slots-without_token : (slots : List (Option (StoredEntry K V P T))) (asides : List Beside)
      (t : ℕ)
      → joined_slots (with_token slots t None) asides
      ≡ with_token (joined_slots slots asides) t None
  joined_slots-without_token slots asides zero = refl
  joined_slots-without_token slots asides (suc i) = joined_slots-free slots asides i

  -- nothing at a token, and so in the pool of whole slots, and the other way round
  pub vacant-joined : (pool : Pool (StoredEntry K V P T)) (asides : List Beside) (left t : ℕ)
      → AreBeside pool asides → item_at pool t ≡ None → item_at (joined pool asides left) t ≡ None
  vacant-joined pool asides left t beside none =
      item_at-joined pool asides left t beside ∙ rw none refl

  is_none-apart : (stored : Option (StoredEntry K V P T)) (aside : Beside)
      → joined_slot stored aside ≡ None → stored ≡ None
  is_none-apart None aside none = refl
  is_none-apart (Some stored) aside none = absurd (cc)

  pub vacant-apart : (pool : Pool (StoredEntry K V P T)) (asides : List Beside) (left t : ℕ)
      → AreBeside pool asides → item_at (joined pool asides left) t ≡ None → item_at pool t ≡ None
  vacant-apart pool asides left t beside none = is_none-apart _ (at_token asides t no_aside)
      (sym (item_at-joined pool asides left t beside) ∙ none)

  -- the free tokens are those of the empty whole slots
  pub IsParted-joined : (pool : Pool (StoredEntry K V P T)) (asides : List Beside) (left : ℕ)
      → AreBeside pool asides → IsParted pool → IsParted (joined pool asides left)
  IsParted-joined pool asides left beside parted =
      let long = length-joined_slots pool.slots asides beside in
      let few = parted.few in
      record {
        few = omega arith;
        within = λ t some.
            let at = parted.within t (occupied-apart pool asides left t beside some) in
            (at.0, rw long at.1);
        free_once = parted.free_once;
        free_within = λ t some.
            let at = parted.free_within t some in
            (at.0, rw long at.1, vacant-joined pool asides left t beside at.2);
        free_all = λ t positive within none.
            parted.free_all t positive (rw long at within)
            (vacant-apart pool asides left t beside none);
      }

  -- an insert, as a whole
  pub placed-joined : (pool pool' : Pool (StoredEntry K V P T))
      (asides asides' : List Beside) (left left' t : ℕ) (stored : StoredEntry K V P T)
      (aside : Beside) → AreBeside pool asides → t ≡ next_token pool
      → pool' ≡ record (placed pool.free pool stored) { room = pool'.room }
      → Keeps asides asides' t aside → PlacesItem pool pool' t stored
      → joined pool' asides' left'
      ≡ record (placed pool.free (joined pool asides left) (slot_of stored aside))
      { room = min pool'.room left' }
  placed-joined pool pool' asides asides' left left' t stored aside beside at done keeps edit =
      by_free pool.free refl keeps
    where
      by_free : (free : List ℕ) → pool.free ≡ free → Keeps asides asides' t aside
          → joined pool' asides' left'
          ≡ record (placed pool.free (joined pool asides left) (slot_of stored aside))
          { room = min pool'.room left' }
      by_free [] none (inl old) =
          let here : t ≡ length pool.slots + 1 = at ∙ rw none refl in
          absurd (omega (arith, old.1))
      by_free [] none (inr last) =
          let slots : pool'.slots ≡ pool.slots ++ Some stored ∷ [] =
          ap (λ (s : Pool (StoredEntry K V P T)). s.slots) done ∙ rw none refl in
          let free : pool'.free ≡ [] =
          ap (λ (s : Pool (StoredEntry K V P T)). s.free) done ∙ rw none refl in
          rw (
            slots,
            free,
            none,
            last.1,
            joined_slots-push pool.slots asides (Some stored) aside beside,
          ) refl
      by_free (x ∷ rest) some (inr last) =
          let slots : pool'.slots ≡ with_token pool.slots x (Some stored) =
          ap (λ (s : Pool (StoredEntry K V P T)). s.slots) done ∙ rw some refl in
          let same : length pool'.slots ≡ length pool.slots =
          ap length slots ∙ length-with_token pool.slots x (Some stored) in
          let within = edit.within.1 in
          absurd (omega (arith, last.0))
      by_free (x ∷ rest) some (inl old) =
          let here : t ≡ x = at ∙ rw some refl in
          let slots : pool'.slots ≡ with_token pool.slots x (Some stored) =
          ap (λ (s : Pool (StoredEntry K V P T)). s.slots) done ∙ rw some refl in
          let free : pool'.free ≡ rest =
          ap (λ (s : Pool (StoredEntry K V P T)). s.free) done ∙ rw some refl in
          rw (
            slots,
            free,
            some,
            old.2,
            here,
            joined_slots-with_token pool.slots asides x (Some stored) aside,
          ) refl

  -- a token past the end is the first there
  pub last_token : (pool pool' : Pool (StoredEntry K V P T)) (t : ℕ)
      (stored : StoredEntry K V P T) → t ≡ next_token pool
      → pool' ≡ record (placed pool.free pool stored) { room = pool'.room }
      → PlacesItem pool pool' t stored → length pool.slots < t → t ≡ length pool.slots + 1
  last_token pool pool' t stored at done edit past = by_free pool.free refl
    where
      by_free : (free : List ℕ) → pool.free ≡ free → t ≡ length pool.slots + 1
      by_free [] none = at ∙ rw none refl
      by_free (x ∷ rest) some =
          let slots : pool'.slots ≡ with_token pool.slots x (Some stored) =
          ap (λ (s : Pool (StoredEntry K V P T)). s.slots) done ∙ rw some refl in
          let same : length pool'.slots ≡ length pool.slots =
          ap length slots ∙ length-with_token pool.slots x (Some stored) in
          let within = edit.within.1 in
          absurd (omega arith)

  -- something stands beside each slot still
  pub beside-placed : (pool pool' : Pool (StoredEntry K V P T))
      (asides asides' : List Beside) (t : ℕ) (stored : StoredEntry K V P T) (aside : Beside)
      → AreBeside pool asides → t ≡ next_token pool
      → pool' ≡ record (placed pool.free pool stored) { room = pool'.room }
      → Keeps asides asides' t aside → PlacesItem pool pool' t stored → AreBeside pool' asides'
  beside-placed pool pool' asides asides' t stored aside beside at done keeps edit =
      by_free pool.free refl keeps
    where
      by_free : (free : List ℕ) → pool.free ≡ free → Keeps asides asides' t aside
          → AreBeside pool' asides'
      by_free [] none (inl old) =
          let here : t ≡ length pool.slots + 1 = at ∙ rw none refl in
          absurd (omega (arith, old.1))
      by_free [] none (inr last) =
          let slots : pool'.slots ≡ pool.slots ++ Some stored ∷ [] =
          ap (λ (s : Pool (StoredEntry K V P T)). s.slots) done ∙ rw none refl in
          rw (last.1, slots)
          (omega (arith, length_push asides aside, length_push pool.slots (Some stored)))
      by_free (x ∷ rest) some (inr last) =
          let slots : pool'.slots ≡ with_token pool.slots x (Some stored) =
          ap (λ (s : Pool (StoredEntry K V P T)). s.slots) done ∙ rw some refl in
          let same : length pool'.slots ≡ length pool.slots =
          ap length slots ∙ length-with_token pool.slots x (Some stored) in
          let within = edit.within.1 in
          absurd (omega (arith, last.0))
      by_free (x ∷ rest) some (inl old) =
          let slots : pool'.slots ≡ with_token pool.slots x (Some stored) =
          ap (λ (s : Pool (StoredEntry K V P T)). s.slots) done ∙ rw some refl in
          rw (old.2, slots) (length-with_token asides t aside ∙ beside
          ∙ sym (length-with_token pool.slots x (Some stored)))

  -- no token is free where the next is past the end
  pub none_free : (pool : Pool (StoredEntry K V P T)) → IsParted pool
      → length pool.slots < next_token pool → length pool.free ≡ 0
  none_free pool parted past = by_free pool.free refl
    where
      by_free : (free : List ℕ) → pool.free ≡ free → length pool.free ≡ 0
      by_free [] none = rw none refl
      by_free (x ∷ rest) some =
          let within =
          (parted.free_within x (rw some (rw (eq-eqb x x refl) (omega arith)))).1 in
          let first : next_token pool ≡ x = rw some refl in
          absurd (omega arith)

  -- a removal, as a whole
  pub removed-joined : (pool pool' : Pool (StoredEntry K V P T)) (asides : List Beside)
      (left t : ℕ) → pool' ≡ removed pool t
      → joined pool' asides left ≡ removed (joined pool asides left) t
  removed-joined pool pool' asides left t done =
      rw (done, joined_slots-without_token pool.slots asides t) refl

  pub beside-removed : (pool pool' : Pool (StoredEntry K V P T)) (asides : List Beside) (t : ℕ)
      → pool' ≡ removed pool t → AreBeside pool asides → AreBeside pool' asides
  beside-removed pool pool' asides t done beside =
      rw done (beside ∙ sym (length-with_token pool.slots t None))

  -- nothing is left of an empty pool
  pub emptied-joined : (pool : Pool (StoredEntry K V P T)) (asides : List Beside)
      (room left : ℕ) → pool ≡ emptied room
      → joined pool asides left ≡ emptied (min room left)
  emptied-joined pool asides room left empty = rw empty refl

  -- more room changes nothing else
  pub slots_kept : (pool pool' : Pool (StoredEntry K V P T))
      → pool' ≡ record pool { room = pool'.room } → pool'.slots ≡ pool.slots
  slots_kept pool pool' kept = ap (λ (s : Pool (StoredEntry K V P T)). s.slots) kept

  pub free_kept : (pool pool' : Pool (StoredEntry K V P T))
      → pool' ≡ record pool { room = pool'.room } → pool'.free ≡ pool.free
  free_kept pool pool' kept = ap (λ (s : Pool (StoredEntry K V P T)). s.free) kept
