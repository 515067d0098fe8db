-- Where a pair stands that was written, and that nothing else moved.
use Rattle.std.proofs.Common.{◌≡◌, ◌⊎◌, inl, inr, ℕ, ◌+◌, ◌<◌, ◌≤◌, ◌==◌, if◌then◌else◌, Bool, true, false, cond, eqb, List, [], ◌∷◌, ◌++◌}
use Rattle.std.proofs.Common.{refl, sym, ap, subst, ◌∙◌, arith}
use Rattle.std.specs.Cmp.{IsEquivalence}
use Rattle.std.specs.List.{Contains, AllByRecursion, count_by}
use Rattle.std.proofs.lemmas.List.{map-append}
use Rattle.std.proofs.lemmas.List.Sums.{sum_by-cons, sum_by-append}
use Rattle.std.proofs.lemmas.List.Elements.{Contains-append_left, Contains-append_right, Contains-append_cases, Contains-push}
use Rattle.std.proofs.lemmas.List.Elements.{Contains-push_cases}
use Rattle.std.proofs.lemmas.List.Sorted.{Contains-permutation, IsPermutation-sym, IsPermutation-map}
use Rattle.quick_cache_model.specs.CacheState.{Item, Place, InHot, InCold, InStill, IsValid, keys_by, place_of_item}
use Rattle.quick_cache_model.specs.Finding.{HasNoItem}
use Rattle.quick_cache_store.specs.declared.slots.entry.Entry.{Entry}
use Rattle.quick_cache_store.specs.Lists.{HeldItem, Lists, HasItem, SameButOrder, PutsLast, Replaces, Rewrites, items_at, with_items}
use Rattle.quick_cache_store.specs.Lists.{entered, held_rewritten, dropped, without_entry}
use Rattle.quick_cache_store.specs.Views.{items_of}
use Rattle.quick_cache_policy.specs.declared.contents.Contents.{Contents}
use Rattle.quick_cache_policy.specs.Contents.{state_of}
use Rattle.quick_cache_policy.specs.Places.{place_at, places_in, places_of, LosesOnly, KeepsPlaces, WritesPlace}
use Rattle.quick_cache_policy.proofs.PlaceLemmas.{LosesOnly-same, LosesOnly-lists}

module _ {X : Type 0} where
  pub Contains-first : (x : X) (xs : List X) → Contains (x ∷ xs) x
  Contains-first x xs = Contains-append_left (x ∷ []) xs x (Contains-push [] x)

  pub Contains-later : (x : X) (xs : List X) (y : X) → Contains xs y → Contains (x ∷ xs) y
  Contains-later x xs y there = Contains-append_right (x ∷ []) xs y there

  -- an element is the first, or one of the rest
  pub Contains-cons_cases : (x : X) (xs : List X) (y : X) → Contains (x ∷ xs) y
      → (x ≡ y) ⊎ Contains xs y
  Contains-cons_cases x xs y there =
      elim (Contains-append_cases (x ∷ []) xs y there) [
        | inl of_one ↦ elim (Contains-push_cases [] x y of_one) [
          | inl of_none ↦ inr (Contains-append_left [] xs y of_none)
          | inr is ↦ inl is
        ]
        | inr of_rest ↦ inr of_rest
      ]

-- ---- keys by counting

module _ {K : Type 0} (test : K → Bool) where
  -- how many places have a key that passes
  abbrev pub keyed : List (ℕ × K) → ℕ
  keyed places = count_by (λ place. test place.1) places

  keyed-cons : (place : ℕ × K) (places : List (ℕ × K))
      → keyed (place ∷ places) ≡ cond (test place.1) 1 0 + keyed places
  keyed-cons place places = sum_by-cons (λ (p : ℕ × K). cond (test p.1) 1 0) place places

  keyed-append : (xs ys : List (ℕ × K)) → keyed (xs ++ ys) ≡ keyed xs + keyed ys
  keyed-append xs ys = sum_by-append (λ (p : ℕ × K). cond (test p.1) 1 0) xs ys

  keyed-passes : (place : ℕ × K) (places : List (ℕ × K)) → test place.1 ≡ true
      → keyed (place ∷ places) ≡ 1 + keyed places
  keyed-passes place places is =
      keyed-cons place places ∙ ap (λ b. cond b 1 0 + keyed places) is

  -- one that passes is counted
  pub keyed-some : (places : List (ℕ × K)) (place : ℕ × K) → Contains places place
      → test place.1 ≡ true → 0 < keyed places
  keyed-some [] place there is = absurd (omega (arith, there.1))
  keyed-some (first ∷ rest) place there is =
      elim (Contains-cons_cases first rest place there) [
        | inl same ↦ omega (arith, keyed-passes first rest (ap (λ (p : ℕ × K). test p.1) same ∙ is))
        | inr later ↦ omega (arith, keyed-cons first rest, keyed-some rest place later is)
      ]

  -- where there is one at most, two that pass are the same
  pub keyed-one : (places : List (ℕ × K)) → keyed places ≤ 1 → (place other : ℕ × K)
      → Contains places place → Contains places other → test place.1 ≡ true
      → test other.1 ≡ true → place ≡ other
  keyed-one [] single place other there also is too = absurd (omega (arith, there.1))
  keyed-one (first ∷ rest) single place other there also is too =
      elim (Contains-cons_cases first rest place there) [
        | inl same ↦
            let counted = keyed-passes first rest (ap (λ (p : ℕ × K). test p.1) same ∙ is) in
            elim (Contains-cons_cases first rest other also) [
              | inl same_too ↦ sym same ∙ same_too
              | inr later ↦ absurd (omega (arith, single, counted, keyed-some rest other later too))
            ]
        | inr later ↦
            elim (Contains-cons_cases first rest other also) [
              | inl same_too ↦
                  let counted = keyed-passes first rest
                  (ap (λ (p : ℕ × K). test p.1) same_too ∙ too) in
                  absurd (omega (arith, single, counted, keyed-some rest place later is))
              | inr later_too ↦
                  keyed-one rest (omega (arith, single, keyed-cons first rest)) place other later
                  later_too is too
            ]
      ]

module _ {K V : Type 0} (test : K → Bool) where
  keyed-items : (entries : List (HeldItem K V))
      → keyed test (places_in entries) ≡ count_by (λ item. test item.key) (items_of entries)
  keyed-items [] = refl
  keyed-items (held ∷ rest) = omega (
    arith,
    keyed-cons test (place_at held) (places_in rest),
    sum_by-cons (λ (i : Item K V). cond (test i.key) 1 0) held.item (items_of rest),
    keyed-items rest,
  )

module _ {K V P W A T : Type 0} (ticket_of : P → ℕ) (contents : Contents K V W A T P) where
  pub keyed-state : (test : K → Bool) → keyed test (places_of contents.lists)
      ≤ keys_by test (state_of ticket_of contents)
  keyed-state test = omega (
    arith,
    keyed-append test (places_in contents.lists.hot ++ places_in contents.lists.cold)
        (places_in contents.lists.still),
    keyed-append test (places_in contents.lists.hot) (places_in contents.lists.cold),
    keyed-items test contents.lists.hot,
    keyed-items test contents.lists.cold,
    keyed-items test contents.lists.still,
  )

  -- in a valid state equal keys stand at one token
  pub one-place : (equal : K → K → Bool) → IsValid equal (state_of ticket_of contents)
      → (key : K) (place other : ℕ × K) → Contains (places_of contents.lists) place
      → Contains (places_of contents.lists) other → equal key place.1 ≡ true
      → equal key other.1 ≡ true → place ≡ other
  one-place equal valid key place other there also is too =
      keyed-one (equal key) (places_of contents.lists)
      (omega (arith, keyed-state (equal key), valid.one_entry_a_key key)) place other there also is too

  -- where no item has such a key, no place has
  pub no-place : (test : K → Bool) → HasNoItem test (state_of ticket_of contents)
      → (place : ℕ × K) → Contains (places_of contents.lists) place → test place.1 ≡ true → ⊥
  no-place test none place there is =
      let some = keyed-some test (places_of contents.lists) place there is in omega (
        arith,
        some,
        keyed-append test (places_in contents.lists.hot ++ places_in contents.lists.cold)
            (places_in contents.lists.still),
        keyed-append test (places_in contents.lists.hot) (places_in contents.lists.cold),
        empty contents.lists.hot none.hot,
        empty contents.lists.cold none.cold,
        empty contents.lists.still none.still,
      )
    where
      empty : (entries : List (HeldItem K V))
          → AllByRecursion (λ item. test item.key ≡ false) (items_of entries)
          → keyed test (places_in entries) ≡ 0
      empty [] none = refl
      empty (held ∷ rest) none =
          omega (
            arith,
            keyed-cons test (place_at held) (places_in rest)
                ∙ ap (λ b. cond b 1 0 + keyed test (places_in rest)) none.0,
            empty rest none.1,
          )

  -- what only loses items moves none
  pub LosesOnly-keeps : (equal : K → K → Bool) → IsEquivalence equal
      → IsValid equal (state_of ticket_of contents) → (new : List (ℕ × K))
      → LosesOnly (places_of contents.lists) new
      → KeepsPlaces equal (places_of contents.lists) new
  LosesOnly-keeps equal laws valid new loses was is there now same =
      ap (λ (p : ℕ × K). p.0)
      (sym (one-place equal valid was.1 was is there (loses is now) (laws.refl was.1) same))

  -- and so does a write
  pub WritesPlace-keeps : (equal : K → K → Bool) → IsEquivalence equal
      → IsValid equal (state_of ticket_of contents) → (key : K) (new : List (ℕ × K))
      → WritesPlace equal key (places_of contents.lists) new
      → KeepsPlaces equal (places_of contents.lists) new
  WritesPlace-keeps equal laws valid key new writes was is there now same =
      elim (writes is now) [
        | inl stood ↦ ap (λ (p : ℕ × K). p.0)
            (sym (one-place equal valid was.1 was is there stood (laws.refl was.1) same))
        | inr made ↦ sym (made.1 was there
            (laws.symm key was.1 ∙ ap (equal was.1) (sym made.0) ∙ same))
      ]

-- ---- lists

module _ {K V : Type 0} where
  -- one item more, at the end
  last-places : (entries : List (HeldItem K V)) (held : HeldItem K V) (p : ℕ × K)
      → Contains (places_in (entries ++ held ∷ [])) p
      → Contains (places_in entries) p ⊎ (p ≡ place_at held)
  last-places entries held p there =
      elim (Contains-append_cases (places_in entries) (place_at held ∷ []) p
      (subst (λ l. Contains l p) (map-append place_at entries (held ∷ [])) there)) [
        | inl was ↦ inl was
        | inr made ↦ elim (Contains-push_cases [] (place_at held) p made) [
          | inl none ↦ absurd (omega (arith, none.1))
          | inr is ↦ inr (sym is)
        ]
      ]

  -- one item for another, or taken out from between
  instead-places : (before after : List (HeldItem K V)) (was held : HeldItem K V) (p : ℕ × K)
      → Contains (places_in (before ++ held ∷ after)) p
      → Contains (places_in (before ++ was ∷ after)) p ⊎ (p ≡ place_at held)
  instead-places before after was held p there =
      elim (Contains-append_cases (places_in before) (place_at held ∷ places_in after) p
      (subst (λ l. Contains l p) (map-append place_at before (held ∷ after)) there)) [
        | inl front ↦ inl (subst (λ l. Contains l p) (sym (map-append place_at before (was ∷ after)))
            (Contains-append_left (places_in before) (place_at was ∷ places_in after) p front))
        | inr back ↦ elim (Contains-cons_cases (place_at held) (places_in after) p back) [
          | inl is ↦ inr (sym is)
          | inr rest ↦ inl (subst (λ l. Contains l p)
              (sym (map-append place_at before (was ∷ after)))
              (Contains-append_right (places_in before) (place_at was ∷ places_in after) p
              (Contains-later (place_at was) (places_in after) p rest)))
        ]
      ]

  around-places : (before after : List (HeldItem K V)) (was : HeldItem K V) (p : ℕ × K)
      → Contains (places_in before) p ⊎ Contains (places_in after) p
      → Contains (places_in (before ++ was ∷ after)) p
  around-places before after was p there =
      subst (λ l. Contains l p) (sym (map-append place_at before (was ∷ after)))
      (elim there [
        | inl front ↦ Contains-append_left (places_in before) (place_at was ∷ places_in after) p
            front
        | inr back ↦ Contains-append_right (places_in before) (place_at was ∷ places_in after) p
            (Contains-later (place_at was) (places_in after) p back)
      ])

  pub kept-places : (others rest : List (HeldItem K V)) (held : HeldItem K V) (b : Bool)
      → LosesOnly (places_in rest) (places_in others)
      → LosesOnly (place_at held ∷ places_in rest) (places_in (cond b others (held ∷ others)))
  kept-places others rest held true fewer p there =
      Contains-later (place_at held) (places_in rest) p (fewer p there)
  kept-places others rest held false fewer p there =
      elim (Contains-cons_cases (place_at held) (places_in others) p there) [
        | inl is ↦ subst (λ q. Contains (place_at held ∷ places_in rest) q) is
            (Contains-first (place_at held) (places_in rest))
        | inr later ↦ Contains-later (place_at held) (places_in rest) p (fewer p later)
      ]

  pub dropped-places : (token : ℕ) (entries : List (HeldItem K V))
      → LosesOnly (places_in entries) (places_in (dropped (λ held. held.token) token entries))
  dropped-places token [] p there = there
  dropped-places token (held ∷ rest) p there =
      kept-places (dropped (λ h. h.token) token rest) rest held (eqb held.token token)
      (dropped-places token rest) p there

module _ {K V P : Type 0} where
  -- a place of other lists, where each of those items was there or is this one
  with-places : (Q : Type 0) (place : Place) (entries : List (HeldItem K V)) (lists : Lists K V P)
      (p : ℕ × K)
      → (Contains (places_in entries) p → Contains (places_in (items_at place lists)) p ⊎ Q)
      → Contains (places_of (with_items place entries lists)) p
      → Contains (places_of lists) p ⊎ Q
  with-places Q InHot entries lists p each there =
      elim (Contains-append_cases (places_in entries ++ places_in lists.cold)
      (places_in lists.still) p there) [
        | inl of_rings ↦ elim (Contains-append_cases (places_in entries) (places_in lists.cold) p
            of_rings) [
              | inl of_hot ↦ elim (each of_hot) [
                | inl was ↦ inl (Contains-append_left (places_in lists.hot ++ places_in lists.cold)
                    (places_in lists.still) p
                    (Contains-append_left (places_in lists.hot) (places_in lists.cold) p was))
                | inr q ↦ inr q
              ]
              | inr of_cold ↦ inl (Contains-append_left (places_in lists.hot ++ places_in lists.cold)
                  (places_in lists.still) p
                  (Contains-append_right (places_in lists.hot) (places_in lists.cold) p of_cold))
            ]
        | inr of_still ↦ inl (Contains-append_right (places_in lists.hot ++ places_in lists.cold)
            (places_in lists.still) p of_still)
      ]
  with-places Q InCold entries lists p each there =
      elim (Contains-append_cases (places_in lists.hot ++ places_in entries)
      (places_in lists.still) p there) [
        | inl of_rings ↦ elim (Contains-append_cases (places_in lists.hot) (places_in entries) p
            of_rings) [
              | inl of_hot ↦ inl (Contains-append_left (places_in lists.hot ++ places_in lists.cold)
                  (places_in lists.still) p
                  (Contains-append_left (places_in lists.hot) (places_in lists.cold) p of_hot))
              | inr of_cold ↦ elim (each of_cold) [
                | inl was ↦ inl (Contains-append_left (places_in lists.hot ++ places_in lists.cold)
                    (places_in lists.still) p
                    (Contains-append_right (places_in lists.hot) (places_in lists.cold) p was))
                | inr q ↦ inr q
              ]
            ]
        | inr of_still ↦ inl (Contains-append_right (places_in lists.hot ++ places_in lists.cold)
            (places_in lists.still) p of_still)
      ]
  with-places Q InStill entries lists p each there =
      elim (Contains-append_cases (places_in lists.hot ++ places_in lists.cold)
      (places_in entries) p there) [
        | inl of_rings ↦ inl (Contains-append_left (places_in lists.hot ++ places_in lists.cold)
            (places_in lists.still) p of_rings)
        | inr of_still ↦ elim (each of_still) [
          | inl was ↦ inl (Contains-append_right (places_in lists.hot ++ places_in lists.cold)
              (places_in lists.still) p was)
          | inr q ↦ inr q
        ]
      ]

  -- another order of what has none
  pub reordered-places : (old new : Lists K V P) → SameButOrder old new
      → LosesOnly (places_of old) (places_of new)
  reordered-places old new order =
      LosesOnly-lists old new
      (LosesOnly-same _ _ (ap (λ (l : Lists K V P). places_in l.hot) order.same))
      (LosesOnly-same _ _ (ap (λ (l : Lists K V P). places_in l.cold) order.same))
      (λ p there. Contains-permutation _ _ p
      (IsPermutation-sym _ _ (IsPermutation-map place_at _ _ order.still)) there)

  -- an item that was put last at its place
  pub entered-places : (held : HeldItem K V) (lists : Lists K V P) (p : ℕ × K)
      → Contains (places_of (entered held lists)) p
      → Contains (places_of lists) p ⊎ (p ≡ place_at held)
  entered-places held lists p there =
      with-places (p ≡ place_at held) (place_of_item held.item)
      (items_at (place_of_item held.item) lists ++ held ∷ []) lists p
      (last-places (items_at (place_of_item held.item) lists) held p) there

  -- an entry left
  pub without-places : (token : ℕ) (lists : Lists K V P)
      → LosesOnly (places_of lists) (places_of (without_entry false token lists))
  without-places token lists =
      LosesOnly-lists lists (without_entry false token lists) (dropped-places token lists.hot)
      (dropped-places token lists.cold) (dropped-places token lists.still)

  module _ {T : Type 0} where
    -- an item was put last
    pub put-places : (old new : Lists K V P) (token hash : ℕ) (item : Item K V)
        → PutsLast {T = T} old token hash (Entry.Item item) new → (p : ℕ × K)
        → Contains (places_of new) p → Contains (places_of old) p ⊎ (p ≡ (token, item.key))
    put-places old new token hash item puts p there =
        entered-places (record { token = token; hash = hash; item = item }) old p
        (reordered-places _ new puts.put p there)

    -- in the place of another entry
    pub replaced-places : (old new : Lists K V P) (token : ℕ) (item : Item K V)
        (was : Entry K V P T) → Replaces old token false (Entry.Item item) was new → (p : ℕ × K)
        → Contains (places_of new) p → Contains (places_of old) p ⊎ (p ≡ (token, item.key))
    replaced-places old new token item was replaces p there =
        elim (put-places (without_entry false token old) new token replaces.hash item replaces.last
        p there) [
          | inl stood ↦ inl (without-places token old p stood)
          | inr made ↦ inr made
        ]

  -- written over another item
  pub rewritten-places : (old new : Lists K V P) (token : ℕ) (item was : Item K V)
      → Rewrites old token item was new → (p : ℕ × K) → Contains (places_of new) p
      → Contains (places_of old) p ⊎ (p ≡ (token, item.key))
  rewritten-places old new token item was rewrites p there =
      placed_by rewrites.place rewrites.before rewrites.after rewrites.split
      (reordered-places _ new rewrites.rewritten p there)
    where
      held : HeldItem K V
      held = record { token = token; hash = rewrites.hash; item = item }

      held_was : HeldItem K V
      held_was = record { token = token; hash = rewrites.hash; item = was }

      at_place : (place : Place) (before after : List (HeldItem K V))
          → items_at place old ≡ before ++ held_was ∷ after
          → Contains (places_of (with_items place (before ++ held ∷ after) old)) p
          → Contains (places_of old) p ⊎ (p ≡ (token, item.key))
      at_place place before after split there =
          with-places (p ≡ (token, item.key)) place (before ++ held ∷ after) old p
          (λ of. subst (λ (l : List (HeldItem K V)). Contains (places_in l) p
          ⊎ (p ≡ (token, item.key))) (sym split)
          (instead-places before after held_was held p of)) there

      moved : (place : Place) (before after front back : List (HeldItem K V))
          → (Contains (places_in (front ++ back)) p
          → Contains (places_in before) p ⊎ Contains (places_in after) p)
          → items_at place old ≡ before ++ held_was ∷ after
          → Contains (places_of (entered held (with_items place (front ++ back) old))) p
          → Contains (places_of old) p ⊎ (p ≡ (token, item.key))
      moved place before after front back parts split there =
          elim (entered-places held (with_items place (front ++ back) old) p there) [
            | inl stood ↦ with-places (p ≡ (token, item.key)) place (front ++ back) old p
                (λ of. inl (subst (λ (l : List (HeldItem K V)). Contains (places_in l) p) (sym split)
                (around-places before after held_was p (parts of)))) stood
            | inr made ↦ inr made
          ]

      straight : (before after : List (HeldItem K V)) → Contains (places_in (before ++ after)) p
          → Contains (places_in before) p ⊎ Contains (places_in after) p
      straight before after of = Contains-append_cases (places_in before) (places_in after) p
          (subst (λ l. Contains l p) (map-append place_at before after) of)

      turned_round : (before after : List (HeldItem K V)) → Contains (places_in (after ++ before)) p
          → Contains (places_in before) p ⊎ Contains (places_in after) p
      turned_round before after of = elim (straight after before of) [
        | inl back ↦ inr back
        | inr front ↦ inl front
      ]

      placed_by : (place : Place) (before after : List (HeldItem K V))
          → items_at place old ≡ before ++ held_was ∷ after
          → Contains (places_of (held_rewritten place before held after old)) p
          → Contains (places_of old) p ⊎ (p ≡ (token, item.key))
      placed_by InStill before after split there = go (item.weight == 0) there
        where
          go : (b : Bool) → Contains (places_of (if b then
              with_items InStill (before ++ held ∷ after) old
              else entered held (with_items InStill (before ++ after) old))) p
              → Contains (places_of old) p ⊎ (p ≡ (token, item.key))
          go true there = at_place InStill before after split there
          go false there = moved InStill before after before after (straight before after) split
              there
      placed_by InHot before after split there = go (item.weight == 0) there
        where
          go : (b : Bool) → Contains (places_of (if b then
              entered held (with_items InHot (after ++ before) old)
              else with_items InHot (before ++ held ∷ after) old)) p
              → Contains (places_of old) p ⊎ (p ≡ (token, item.key))
          go true there = moved InHot before after after before (turned_round before after) split
              there
          go false there = at_place InHot before after split there
      placed_by InCold before after split there = go (item.weight == 0) there
        where
          go : (b : Bool) → Contains (places_of (if b then
              entered held (with_items InCold (after ++ before) old)
              else with_items InCold (before ++ held ∷ after) old)) p
              → Contains (places_of old) p ⊎ (p ≡ (token, item.key))
          go true there = moved InCold before after after before (turned_round before after) split
              there
          go false there = at_place InCold before after split there

  -- an item stands at its token
  pub HasItem-place : (lists : Lists K V P) (held : HeldItem K V) → HasItem lists held
      → Contains (places_of lists) (place_at held)
  HasItem-place lists held has =
      elim (with-places ⊥ has.place (has.stands.before ++ held ∷ has.stands.after) lists
      (place_at held)
      (λ of. inl (subst (λ (l : List (HeldItem K V)). Contains (places_in l) (place_at held))
      (sym has.stands.split) of))
      (stands-at has.place has.stands.before has.stands.after)) [
        | inl there ↦ there
        | inr none ↦ absurd none
      ]
    where
      among : (before after : List (HeldItem K V))
          → Contains (places_in (before ++ held ∷ after)) (place_at held)
      among before after =
          subst (λ l. Contains l (place_at held)) (sym (map-append place_at before (held ∷ after)))
          (Contains-append_right (places_in before) (place_at held ∷ places_in after)
          (place_at held) (Contains-first (place_at held) (places_in after)))

      stands-at : (place : Place) (before after : List (HeldItem K V))
          → Contains (places_of (with_items place (before ++ held ∷ after) lists)) (place_at held)
      stands-at InHot before after =
          Contains-append_left (places_in (before ++ held ∷ after) ++ places_in lists.cold)
          (places_in lists.still) (place_at held)
          (Contains-append_left (places_in (before ++ held ∷ after)) (places_in lists.cold)
          (place_at held) (among before after))
      stands-at InCold before after =
          Contains-append_left (places_in lists.hot ++ places_in (before ++ held ∷ after))
          (places_in lists.still) (place_at held)
          (Contains-append_right (places_in lists.hot) (places_in (before ++ held ∷ after))
          (place_at held) (among before after))
      stands-at InStill before after =
          Contains-append_right (places_in lists.hot ++ places_in lists.cold)
          (places_in (before ++ held ∷ after)) (place_at held) (among before after)
