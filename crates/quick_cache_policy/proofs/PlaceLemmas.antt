-- What a step leaves of the places of items, list by list.
use Rattle.std.proofs.Common.{◌≡◌, ◌⊎◌, inl, inr, ℕ, Bool, true, false, cond, eqb, List, [], ◌∷◌, ◌++◌, map, refl, sym, ap, subst}
use Rattle.std.specs.List.{Contains}
use Rattle.std.specs.List.Sorted.{IsPermutation}
use Rattle.std.proofs.lemmas.List.{map-append}
use Rattle.std.proofs.lemmas.List.Elements.{Contains-append_left, Contains-append_right, Contains-append_cases}
use Rattle.std.proofs.lemmas.List.Sorted.{Contains-permutation, IsPermutation-sym, IsPermutation-map}
use Rattle.quick_cache_model.specs.declared.queue.Queue.{Queue}
use Rattle.quick_cache_model.specs.CacheState.{Item, ring_place}
use Rattle.quick_cache_store.specs.Lists.{HeldItem, Lists, SameButOrder, items_at, with_items, entered, turned, changed_held, with_change}
use Rattle.quick_cache_policy.specs.Places.{place_at, places_in, places_of, LosesOnly}

module _ {K : Type 0} where
  -- the same places
  pub LosesOnly-same : (old new : List (ℕ × K)) → new ≡ old → LosesOnly old new
  LosesOnly-same old new same place there = subst (λ l. Contains l place) same there

  -- the first goes
  pub LosesOnly-rest : (first : ℕ × K) (rest : List (ℕ × K)) → LosesOnly (first ∷ rest) rest
  LosesOnly-rest first rest place there = Contains-append_right (first ∷ []) rest place there

  -- the first is put last
  pub LosesOnly-turned : (first : ℕ × K) (rest : List (ℕ × K))
      → LosesOnly (first ∷ rest) (rest ++ first ∷ [])
  LosesOnly-turned first rest place there =
      elim (Contains-append_cases rest (first ∷ []) place there) [
        | inl of_rest ↦ Contains-append_right (first ∷ []) rest place of_rest
        | inr of_first ↦ Contains-append_left (first ∷ []) rest place of_first
      ]

  -- two lists, one behind the other
  pub LosesOnly-append : (a b c d : List (ℕ × K)) → LosesOnly a b → LosesOnly c d
      → LosesOnly (a ++ c) (b ++ d)
  LosesOnly-append a b c d first second place there =
      elim (Contains-append_cases b d place there) [
        | inl of_b ↦ Contains-append_left a c place (first place of_b)
        | inr of_d ↦ Contains-append_right a c place (second place of_d)
      ]

module _ {K V : Type 0} where
  -- a ring begun one further on
  pub LosesOnly-ring_turned : (entries : List (HeldItem K V))
      → LosesOnly (places_in entries) (places_in (turned entries))
  LosesOnly-ring_turned [] = λ place there. there
  LosesOnly-ring_turned (held ∷ rest) = λ place there.
      LosesOnly-turned (held.token, held.item.key) (places_in rest) place
      (subst (λ l. Contains l place)
      (map-append place_at rest (held ∷ [])) there)

  -- one item more, in some order
  still-grown : (made : HeldItem K V) (still new : List (HeldItem K V)) (place : ℕ × K)
      → IsPermutation (still ++ made ∷ []) new → Contains (places_in new) place
      → Contains (places_in still) place ⊎ Contains ((made.token, made.item.key) ∷ []) place
  still-grown made still new place order there =
      Contains-append_cases (places_in still) ((made.token, made.item.key) ∷ []) place
      (subst (λ l. Contains l place)
      (map-append place_at still (made ∷ []))
      (Contains-permutation _ _ place
      (IsPermutation-sym _ _
      (IsPermutation-map place_at _ _ order)) there))

  -- a change that keeps the key
  places_in-change : (token : ℕ) (change : Item K V → Item K V)
      → ((item : Item K V) → (change item).key ≡ item.key) → (entries : List (HeldItem K V))
      → places_in (map (changed_held token change) entries) ≡ places_in entries
  places_in-change token change keeps [] = refl
  places_in-change token change keeps (held ∷ rest) =
      λ i. go (eqb held.token token) i ∷ places_in-change token change keeps rest i
    where
      go : (b : Bool) → place_at (cond b (record held { item = change held.item }) held)
          ≡ place_at held
      go true = λ i. (held.token, keeps held.item i)
      go false = refl

module _ {K V P : Type 0} where
  -- ring by ring
  pub LosesOnly-lists : (old new : Lists K V P) → LosesOnly (places_in old.hot) (places_in new.hot)
      → LosesOnly (places_in old.cold) (places_in new.cold)
      → LosesOnly (places_in old.still) (places_in new.still)
      → LosesOnly (places_of old) (places_of new)
  LosesOnly-lists old new hot cold still =
      LosesOnly-append _ _ _ _ (LosesOnly-append _ _ _ _ hot cold) still

  -- another hot ring
  pub LosesOnly-hot : (old new : Lists K V P) → new ≡ record old { hot = new.hot }
      → LosesOnly (places_in old.hot) (places_in new.hot)
      → LosesOnly (places_of old) (places_of new)
  LosesOnly-hot old new same hot =
      LosesOnly-lists old new hot
      (LosesOnly-same _ _ (ap (λ (l : Lists K V P). places_in l.cold) same))
      (LosesOnly-same _ _ (ap (λ (l : Lists K V P). places_in l.still) same))

  -- another cold ring
  pub LosesOnly-cold : (old new : Lists K V P) → new ≡ record old { cold = new.cold }
      → LosesOnly (places_in old.cold) (places_in new.cold)
      → LosesOnly (places_of old) (places_of new)
  LosesOnly-cold old new same cold =
      LosesOnly-lists old new
      (LosesOnly-same _ _ (ap (λ (l : Lists K V P). places_in l.hot) same)) cold
      (LosesOnly-same _ _ (ap (λ (l : Lists K V P). places_in l.still) same))

  -- the first of a ring goes, and perhaps comes back under its token without weight
  pub LosesOnly-gone : (queue : Queue) (held : HeldItem K V) (rest : List (HeldItem K V))
      (lists new : Lists K V P) (next room : ℕ)
      → items_at (ring_place queue) lists ≡ held ∷ rest
      → new ≡ record (with_items (ring_place queue) rest lists) { next = next; room = room }
      → LosesOnly (places_of lists) (places_of new)
  LosesOnly-gone Queue.Hot held rest lists new next room split is =
      subst (λ (l : Lists K V P). LosesOnly (places_of lists) (places_of l)) (sym is)
      (LosesOnly-lists lists (record lists { hot = rest; next = next; room = room })
      (λ place there. LosesOnly-same _ _ (sym (ap (λ (l : List (HeldItem K V)). places_in l) split))
      place (LosesOnly-rest (held.token, held.item.key) (places_in rest) place there))
      (λ place there. there) (λ place there. there))
  LosesOnly-gone Queue.Cold held rest lists new next room split is =
      subst (λ (l : Lists K V P). LosesOnly (places_of lists) (places_of l)) (sym is)
      (LosesOnly-lists lists (record lists { cold = rest; next = next; room = room })
      (λ place there. there)
      (λ place there. LosesOnly-same _ _ (sym (ap (λ (l : List (HeldItem K V)). places_in l) split))
      place (LosesOnly-rest (held.token, held.item.key) (places_in rest) place there))
      (λ place there. there))

  pub LosesOnly-stays : (queue : Queue) (held : HeldItem K V) (rest : List (HeldItem K V))
      (lists new : Lists K V P) (next room token hash : ℕ) (left : V)
      → items_at (ring_place queue) lists ≡ held ∷ rest → token ≡ held.token
      → SameButOrder (record (entered (record {
        token = token;
        hash = hash;
        item = record held.item { value = left; weight = 0 };
      }) (with_items (ring_place queue) rest lists)) { next = next; room = room }) new
      → LosesOnly (places_of lists) (places_of new)
  LosesOnly-stays Queue.Hot held rest lists new next room token hash left split named order place
      there =
      elim (Contains-append_cases (places_in new.hot ++ places_in new.cold) (places_in new.still)
      place there) [
        | inl of_rings ↦
            LosesOnly-gone Queue.Hot held rest lists (record lists { hot = rest }) lists.next
            lists.room
            split refl place
            (Contains-append_left (places_in rest ++ places_in lists.cold) (places_in lists.still)
            place (subst (λ (l : Lists K V P). Contains (places_in l.hot ++ places_in l.cold) place)
            order.same of_rings))
        | inr of_still ↦
            elim (still-grown (record {
              token = token;
              hash = hash;
              item = record held.item { value = left; weight = 0 };
            }) lists.still new.still place order.still of_still) [
              | inl was ↦ Contains-append_right (places_in lists.hot ++ places_in lists.cold)
                  (places_in lists.still) place was
              | inr made ↦ Contains-append_left _ (places_in lists.still) place
                  (Contains-append_left (places_in lists.hot) (places_in lists.cold) place
                  (subst (λ (l : List (HeldItem K V)). Contains (places_in l) place) (sym split)
                  (Contains-append_left ((held.token, held.item.key) ∷ []) (places_in rest) place
                  (subst (λ (t : ℕ). Contains ((t, held.item.key) ∷ []) place) named made))))
            ]
      ]
  LosesOnly-stays Queue.Cold held rest lists new next room token hash left split named order place
      there =
      elim (Contains-append_cases (places_in new.hot ++ places_in new.cold) (places_in new.still)
      place there) [
        | inl of_rings ↦
            LosesOnly-gone Queue.Cold held rest lists (record lists { cold = rest }) lists.next
            lists.room
            split refl place
            (Contains-append_left (places_in lists.hot ++ places_in rest) (places_in lists.still)
            place (subst (λ (l : Lists K V P). Contains (places_in l.hot ++ places_in l.cold) place)
            order.same of_rings))
        | inr of_still ↦
            elim (still-grown (record {
              token = token;
              hash = hash;
              item = record held.item { value = left; weight = 0 };
            }) lists.still new.still place order.still of_still) [
              | inl was ↦ Contains-append_right (places_in lists.hot ++ places_in lists.cold)
                  (places_in lists.still) place was
              | inr made ↦ Contains-append_left _ (places_in lists.still) place
                  (Contains-append_right (places_in lists.hot) (places_in lists.cold) place
                  (subst (λ (l : List (HeldItem K V)). Contains (places_in l) place) (sym split)
                  (Contains-append_left ((held.token, held.item.key) ∷ []) (places_in rest) place
                  (subst (λ (t : ℕ). Contains ((t, held.item.key) ∷ []) place) named made))))
            ]
      ]

  -- the first of the cold ring is the last of the hot one
  pub LosesOnly-promoted : (held made : HeldItem K V) (rest : List (HeldItem K V))
      (lists new : Lists K V P) → lists.cold ≡ held ∷ rest
      → place_at made ≡ place_at held
      → new ≡ record lists { cold = rest; hot = lists.hot ++ made ∷ [] }
      → LosesOnly (places_of lists) (places_of new)
  LosesOnly-promoted held made rest lists new split same is place there =
      elim (Contains-append_cases _ (places_in lists.still) place
      (subst (λ (l : Lists K V P). Contains (places_of l) place) is there)) [
        | inl of_rings ↦
            Contains-append_left _ (places_in lists.still) place
            (elim (Contains-append_cases (places_in (lists.hot ++ made ∷ [])) (places_in rest)
            place of_rings) [
              | inl of_hot ↦
                  elim (Contains-append_cases (places_in lists.hot)
                  ((made.token, made.item.key) ∷ []) place
                  (subst (λ l. Contains l place)
                  (map-append place_at lists.hot (made ∷ []))
                  of_hot)) [
                    | inl was ↦ Contains-append_left (places_in lists.hot) (places_in lists.cold)
                        place was
                    | inr moved ↦ Contains-append_right (places_in lists.hot)
                        (places_in lists.cold) place
                        (subst (λ (l : List (HeldItem K V)). Contains (places_in l) place)
                        (sym split)
                        (Contains-append_left ((held.token, held.item.key) ∷ []) (places_in rest)
                        place (subst (λ (p : ℕ × K). Contains (p ∷ []) place) same moved)))
                  ]
              | inr of_cold ↦ Contains-append_right (places_in lists.hot) (places_in lists.cold)
                  place (subst (λ (l : List (HeldItem K V)). Contains (places_in l) place)
                  (sym split)
                  (LosesOnly-rest (held.token, held.item.key) (places_in rest) place of_cold))
            ])
        | inr of_still ↦ Contains-append_right (places_in lists.hot ++ places_in lists.cold)
            (places_in lists.still) place of_still
      ]

  pub places_of-change : (token : ℕ) (change : Item K V → Item K V)
      → ((item : Item K V) → (change item).key ≡ item.key) → (lists : Lists K V P)
      → places_of (with_change token change lists) ≡ places_of lists
  places_of-change token change keeps lists = λ i.
      places_in-change token change keeps lists.hot i
      ++ places_in-change token change keeps lists.cold i
      ++ places_in-change token change keeps lists.still i
