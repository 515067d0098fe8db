-- The items of a list of slots, as iterators come to them.
use Rattle.std.proofs.Common.{◌≡◌, ℕ, zero, suc, ◌+◌, ◌-◌, ◌<◌, ◌≤◌, min, List, [], ◌∷◌, length, get_or, set, take, drop, map, filter_map}
use Rattle.std.proofs.Common.{Option, Some, None, refl, sym, ap, subst, ◌∙◌, inl, inr, arith}
use Rattle.std.proofs.lemmas.Bool.{cases_lt, cases_eq}
use Rattle.std.proofs.lemmas.List.{take_rest, drop-map, drop_all, get_or_past, length-map}
use Rattle.quick_cache_containers.specs.LinkedSlab.{at_token, with_token, entries_past}
use Rattle.quick_cache_containers.specs.SlabDrain.{DrainKeeps, DrainKeepsAlong}
use Rattle.quick_cache_containers.specs.declared.linked_slab.drain.Drain.{Drain}
use Rattle.quick_cache_containers.proofs.AtTokens.{at_token-suc, with_token-suc, at_token-with_same, at_token-with_other}

module _ {T : Type 0} where
  -- the entries past a place beyond the end are none
  pub entries_rest : {N : Type 0} (item_of : N → Option T) (nodes : List N) (passed at : ℕ) → at ≡ min passed (length nodes)
      → entries_past at (map item_of (take (length nodes - at) (drop at nodes)))
      ≡ entries_past passed (drop passed (map item_of nodes))
  entries_rest item_of nodes passed at is_min =
      let front : map item_of (take (length nodes - at) (drop at nodes)) ≡ drop at (map item_of nodes) =
      ap (map item_of) (take_rest nodes at) ∙ sym (drop-map item_of at nodes) in
      ap (entries_past at) front ∙ by_order
    where
      by_order : entries_past at (drop at (map item_of nodes))
          ≡ entries_past passed (drop passed (map item_of nodes))
      by_order =
          elim (cases_lt passed (length nodes)) [
            | inl below ↦ let same : at ≡ passed = omega arith in rw same refl
            | inr above ↦
                let long = length-map nodes item_of in
                rw (
                  drop_all at (map item_of nodes) (omega arith),
                  drop_all passed (map item_of nodes)
                      (omega arith),
                ) refl
          ]

  none_left : (slots : List (Option T)) → ((i : ℕ) → get_or slots i None ≡ None)
      → filter_map (λ slot. slot) slots ≡ []
  none_left [] none = refl
  none_left (slot ∷ rest) none = rw (none 0) (none_left rest (λ i. none (suc i)))

  first_item : (slots : List (Option T)) (i : ℕ) (item : T)
      → ((j : ℕ) → j < i → get_or slots j None ≡ None) → get_or slots i None ≡ Some item
      → filter_map (λ slot. slot) slots ≡ item ∷ filter_map (λ slot. slot) (set slots i None)
  first_item [] i item none found = absurd (cc)
  first_item (slot ∷ rest) zero item none found = rw found refl
  first_item (slot ∷ rest) (suc i) item none found =
      rw (none 0 (omega arith)) (first_item rest i item
      (λ j below. none (suc j) (omega arith)) found)

  -- the first item that is left is that of the first token with one
  pub first_left : (slots : List (Option T)) (passed token : ℕ) (item : T) → token ≡ passed + 1
      → ((t : ℕ) → t ≤ passed → at_token slots t None ≡ None)
      → at_token slots token None ≡ Some item
      → filter_map (λ slot. slot) slots ≡ item ∷ filter_map (λ slot. slot)
      (with_token slots token None)
  first_left slots passed token item last none found =
      let read = sym (at_token-suc slots token passed None (omega arith)) ∙ found in
      first_item slots passed item (λ j below. none (suc j) (omega arith)) read
      ∙ ap (λ xs. item ∷ filter_map (λ slot. slot) xs)
      (sym (with_token-suc slots token passed None (omega arith)))

  -- once each slot was passed, no item is left
  pub none_left_past : (slots : List (Option T)) (passed : ℕ) → length slots ≤ passed
      → ((t : ℕ) → t ≤ passed → at_token slots t None ≡ None) → filter_map (λ slot. slot) slots ≡ []
  none_left_past slots passed past none =
      none_left slots (λ i. elim (cases_lt i passed) [
        | inl below ↦ none (suc i) (omega arith)
        | inr above ↦ get_or_past slots i None
            (omega arith)
      ])

  pub none_passed_more : (slots : List (Option T)) (passed token : ℕ) → token ≡ passed + 1
      → token ≤ length slots → ((t : ℕ) → t ≤ passed → at_token slots t None ≡ None) → (t : ℕ)
      → t ≤ passed + 1 → at_token (with_token slots token None) t None ≡ None
  none_passed_more slots passed token last within none t below =
      elim (cases_eq t token) [
        | inl same ↦ rw same (at_token-with_same slots token None None (omega arith) within)
        | inr differs ↦ at_token-with_other slots token t None None differs
            ∙ none t (by_other t below differs)
      ]
    where
      by_other : (t : ℕ) → t ≤ passed + 1 → (t ≡ token → ⊥) → t ≤ passed
      by_other t below differs = omega arith

pub Drain_keeps_along : {T A : Type 0} (first : Drain T A) → DrainKeepsAlong first
Drain_keeps_along first [] later run = subst (DrainKeeps first) run (refl, refl)
Drain_keeps_along first (item ∷ rest) later run =
    let step = run.1.1 in
    let others = Drain_keeps_along run.0 rest later run.2 in
    (others.0 ∙ step.0, others.1 ∙ step.1)
