-- What a walk over the whole slots comes to.
use Rattle.std.proofs.Common.{◌≡◌, ℕ, zero, suc, ◌+◌, ◌<◌, List, [], ◌∷◌, length, map, drop, get_or, filter_map, Option, Some, None}
use Rattle.std.proofs.Common.{MatchOption, refl, sym, ap, ◌∙◌, arith, inl, inr}
use Rattle.std.proofs.lemmas.Bool.{cases_lt}
use Rattle.std.proofs.lemmas.List.{drop_more, drop_all}
use Rattle.std.specs.Int.NonZero.{non_zero_u32_get}
use Rattle.std.specs.declared.num.NonZeroU32.{NonZeroU32 as Token}
use Rattle.quick_cache_store.specs.Pool.{Pool, at_token, entries_past, entries_after}
use Rattle.quick_cache_store.specs.declared.slots.beside.Beside.{Beside}
use Rattle.quick_cache_store.specs.declared.slots.entry.Slot.{Slot}
use Rattle.quick_cache_store.specs.declared.slots.stored.StoredEntry.{StoredEntry}
use Rattle.quick_cache_store.specs.Joined.{joined_slots, joined, AreBeside}
use Rattle.quick_cache_store.specs.Walks.{no_aside, entries_beside, AreCovered}
use Rattle.quick_cache_store.proofs.pool.AtTokens.{at_token-suc}

-- the items of the entries, in their order
pub entries_past-items : {X : Type 0} (passed : ℕ) (slots : List (Option X))
    → map (λ (entry : ℕ × X). entry.1) (entries_past passed slots)
    ≡ filter_map (λ (slot : Option X). slot) slots
entries_past-items passed [] = refl
entries_past-items passed (None ∷ rest) = entries_past-items (passed + 1) rest
entries_past-items {X = X} passed (Some item ∷ rest) =
    ap (λ (xs : List X). item ∷ xs) (entries_past-items (passed + 1) rest)

-- the first of those that are left stands under the token behind those that were passed
first_beside : (all : List Beside) (passed : ℕ) (aside : Beside) (rest : List Beside)
    → aside ∷ rest ≡ drop passed all
    → (passed < length all) × (at_token all (passed + 1) no_aside ≡ aside)
    × (rest ≡ drop (passed + 1) all)
first_beside all passed aside rest left =
    elim (cases_lt passed (length all)) [
      | inl below ↦
          let both : aside ∷ rest ≡ get_or all passed no_aside ∷ drop (passed + 1) all =
          left ∙ drop_more all passed no_aside below in
          let first : aside ≡ get_or all passed no_aside = cc in
          let others : rest ≡ drop (passed + 1) all = cc in (
            below,
            at_token-suc all (passed + 1) passed no_aside refl ∙ sym first,
            others,
          )
      | inr above ↦
          let none : aside ∷ rest ≡ [] = left ∙ drop_all passed all above in
          absurd (cc)
    ]

module _ {K V P T : Type 0} where
  -- the slots past a place are those of the entries there and of what stands beside them
  joined_slots-drop : (n : ℕ) (slots : List (Option (StoredEntry K V P T))) (asides : List Beside)
      → drop n (joined_slots slots asides) ≡ joined_slots (drop n slots) (drop n asides)
  joined_slots-drop zero slots asides = refl
  joined_slots-drop (suc n) [] asides = refl
  joined_slots-drop (suc n) (stored ∷ slots) [] = by_rest (drop n slots)
    where
      by_rest : (rest : List (Option (StoredEntry K V P T))) → [] ≡ joined_slots rest []
      by_rest [] = refl
      by_rest (stored ∷ rest) = refl
  joined_slots-drop (suc n) (stored ∷ slots) (aside ∷ asides) = joined_slots-drop n slots asides

  -- the entries of whole slots
  entries-joined : (all : List Beside) (passed : ℕ) (slots : List (Option (StoredEntry K V P T)))
      (asides : List Beside) → asides ≡ drop passed all → length asides ≡ length slots
      → entries_beside all (entries_past passed slots)
      ≡ entries_past passed (joined_slots slots asides)
  entries-joined all passed [] asides left beside = refl
  entries-joined all passed (stored ∷ slots) [] left beside = absurd (omega arith)
  entries-joined all passed (None ∷ slots) (aside ∷ asides) left beside =
      entries-joined all (passed + 1) slots asides
      (first_beside all passed aside asides left).2 (omega arith)
  entries-joined all passed (Some stored ∷ slots) (aside ∷ asides) left beside =
      let first = first_beside all passed aside asides left in
      let others : entries_beside all (entries_past (passed + 1) slots)
      ≡ entries_past (passed + 1) (joined_slots slots asides) =
      entries-joined all (passed + 1) slots asides first.2 (omega arith) in
      rw (first.1, others) refl

  -- something stands beside each
  covered : (all : List Beside) (passed : ℕ) (slots : List (Option (StoredEntry K V P T)))
      (asides : List Beside) → asides ≡ drop passed all → length asides ≡ length slots
      → AreCovered all (entries_past passed slots)
  covered all passed [] asides left beside = tt
  covered all passed (stored ∷ slots) [] left beside = absurd (omega arith)
  covered all passed (None ∷ slots) (aside ∷ asides) left beside =
      covered all (passed + 1) slots asides (first_beside all passed aside asides left).2
      (omega arith)
  covered all passed (Some stored ∷ slots) (aside ∷ asides) left beside =
      let first = first_beside all passed aside asides left in
      let below = first.0 in
      ((omega arith, omega arith), covered all (passed + 1) slots asides first.2 (omega arith))

  drop-beside : (n : ℕ) (slots : List (Option (StoredEntry K V P T))) (asides : List Beside)
      → length asides ≡ length slots → length (drop n asides) ≡ length (drop n slots)
  drop-beside zero slots asides beside = beside
  drop-beside (suc n) [] [] beside = refl
  drop-beside (suc n) [] (aside ∷ asides) beside = absurd (omega arith)
  drop-beside (suc n) (stored ∷ slots) [] beside = absurd (omega arith)
  drop-beside (suc n) (stored ∷ slots) (aside ∷ asides) beside =
      drop-beside n slots asides (omega arith)

  -- the entries past a token
  pub entries_after-joined : (pool : Pool (StoredEntry K V P T)) (asides : List Beside)
      (left t : ℕ) → AreBeside pool asides
      → entries_beside asides (entries_after pool t) ≡ entries_after (joined pool asides left) t
  entries_after-joined pool asides left t beside =
      entries-joined asides t (drop t pool.slots) (drop t asides) refl
      (drop-beside t pool.slots asides beside)
      ∙ ap (λ (xs : List (Option (Slot K V P T))). entries_past t xs)
      (sym (joined_slots-drop t pool.slots asides))

  -- and what stands beside each of them
  pub entries_after-covered : (pool : Pool (StoredEntry K V P T)) (asides : List Beside)
      (t : ℕ) → AreBeside pool asides → AreCovered asides (entries_after pool t)
  entries_after-covered pool asides t beside =
      covered asides t (drop t pool.slots) (drop t asides) refl
      (drop-beside t pool.slots asides beside)

  -- the entries past a token, or all of them
  pub entries_from-joined : (pool : Pool (StoredEntry K V P T)) (asides : List Beside)
      (left : ℕ) (token : Option Token) (entries : List (ℕ × StoredEntry K V P T))
      → AreBeside pool asides
      → MatchOption token (entries ≡ entries_after pool 0)
      (λ token. entries ≡ entries_after pool (non_zero_u32_get token))
      → MatchOption token
      (entries_beside asides entries ≡ entries_after (joined pool asides left) 0)
      (λ token. entries_beside asides entries
      ≡ entries_after (joined pool asides left) (non_zero_u32_get token))
  entries_from-joined pool asides left None entries beside all =
      rw all (entries_after-joined pool asides left 0 beside)
  entries_from-joined pool asides left (Some token) entries beside all =
      rw all (entries_after-joined pool asides left (non_zero_u32_get token) beside)

  -- and what stands beside each of them
  pub entries_from-covered : (pool : Pool (StoredEntry K V P T)) (asides : List Beside)
      (token : Option Token) (entries : List (ℕ × StoredEntry K V P T)) → AreBeside pool asides
      → MatchOption token (entries ≡ entries_after pool 0)
      (λ token. entries ≡ entries_after pool (non_zero_u32_get token))
      → AreCovered asides entries
  entries_from-covered pool asides None entries beside all =
      rw all (entries_after-covered pool asides 0 beside)
  entries_from-covered pool asides (Some token) entries beside all =
      rw all (entries_after-covered pool asides (non_zero_u32_get token) beside)
