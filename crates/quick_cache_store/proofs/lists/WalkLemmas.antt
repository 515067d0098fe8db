-- A walk along a ring: a step comes to the next slot, and the whole is what the ring shows.
use Rattle.std.proofs.Common.{◌≡◌, ◌≢◌, ℕ, suc, ◌<◌, ◌≤◌, ◌==◌, true, List, [], ◌∷◌, length, Option, Some, None, refl, sym, ap, ◌∙◌, arith}
use Rattle.std.specs.List.{AllByRecursion}
use Rattle.quick_cache_model.specs.Sequences.{times}
use Rattle.quick_cache_store.specs.Pool.{Pool, item_at, IsOccupied}
use Rattle.quick_cache_store.proofs.pool.TokenCounts.{times-here}
use Rattle.quick_cache_store.specs.Rings.{Ring}
use Rattle.quick_cache_store.specs.declared.slots.entry.Entry.{Entry}
use Rattle.quick_cache_store.specs.declared.slots.entry.Slot.{Slot}
use Rattle.quick_cache_store.specs.ListSlots.{Stand, AmongLoading, AmongGhosts, stand_of, stand_in, is_item, item_of, ghost_of}
use Rattle.quick_cache_store.specs.Sound.{put, gather, IsRingOf}
use Rattle.quick_cache_store.proofs.lists.GatherLemmas.{gather-all, length-gather}
use Rattle.quick_cache_store.proofs.lists.TakeLemmas.{not_ghosts}
use Rattle.quick_cache_store.specs.Views.{items_of, hashes_of}
use Rattle.quick_cache_store.specs.ListWalks.{walk_of, IsWalk, items_in, hashes_in}

-- ---- one step

put-few : {Y : Type 0} (o : Option Y) (ys : List Y) (n : ℕ) → length ys ≤ n
    → length (put o ys) ≤ suc n
put-few None ys n few = omega arith
put-few (Some y) ys n few = omega arith

-- no more is found than there are tokens
gather-few : {Y : Type 0} (at : ℕ → Option Y) (xs : List ℕ) → length (gather at xs) ≤ length xs
gather-few at [] = omega arith
gather-few at (x ∷ xs) = put-few (at x) (gather at xs) _ (gather-few at xs)

module _ {S : Type 0} (slab : Pool S) (tokens : List ℕ) (token : ℕ) (rest : List ℕ)
    (is : tokens ≡ token ∷ rest) where
  -- where each token that is left has a slot, the first has one
  pub occupied-on_walk : (left : ℕ) → IsWalk slab tokens left → IsOccupied slab token
  occupied-on_walk left walk = by_slot (item_at slab token) refl
    where
      by_slot : (o : Option S) → item_at slab token ≡ o → IsOccupied slab token
      by_slot None none = absurd (omega (
        arith,
        walk.counted,
        walk.slotted,
        ap length is,
        ap (λ xs. length (walk_of slab xs)) is,
        ap (λ o. length (put o (walk_of slab rest))) none,
        gather-few (λ u. item_at slab u) rest,
      ))
      by_slot (Some slot) some = rw some refl

-- ---- the whole ring

module _ {K V P T : Type 0} where
  -- what stands in that list is an item
  item_by_stand : (s : Stand) → s ≢ AmongLoading → s ≢ AmongGhosts → (slot : Slot K V P T)
      → stand_in slot.entry ≡ s → is_item slot ≡ true
  item_by_stand s off off' slot stands = by_entry slot.entry refl
    where
      by_entry : (entry : Entry K V P T) → slot.entry ≡ entry → is_item slot ≡ true
      by_entry (Entry.Item item) is = rw is refl
      by_entry (Entry.Loading awaited) is =
          absurd (off (sym stands ∙ ap stand_in is))
      by_entry Entry.Ghost is = absurd (off' (sym stands ∙ ap stand_in is))

  -- nothing but a ghost stands among the ghosts
  ghost_by_stand : (t : ℕ) (slot : Slot K V P T) → stand_in slot.entry ≡ AmongGhosts
      → ghost_of t (Some slot) ≡ Some (record { token = t; hash = slot.hash })
  ghost_by_stand t slot stands = by_entry slot.entry refl
    where
      by_entry : (entry : Entry K V P T) → slot.entry ≡ entry
          → ghost_of t (Some slot) ≡ Some (record { token = t; hash = slot.hash })
      by_entry (Entry.Item item) is =
          absurd (not_ghosts (item.weight == 0) item.queue (sym (ap stand_in is) ∙ stands))
      by_entry (Entry.Loading awaited) is =
          let e : AmongLoading ≡ AmongGhosts = sym (ap stand_in is) ∙ stands in absurd (cc)
      by_entry Entry.Ghost is = rw is refl

  module _ (slab : Pool (Slot K V P T)) where
    -- the items of the slots at these tokens are those that the lists show
    pub items_in-gather : (xs : List ℕ)
        → items_in (gather (λ t. item_at slab t) xs)
        ≡ items_of (gather (λ t. item_of t (item_at slab t)) xs)
    items_in-gather [] = refl
    items_in-gather (x ∷ xs) = by_here (item_at slab x) (items_in-gather xs)
      where
        by_here : (o : Option (Slot K V P T))
            → items_in (gather (λ t. item_at slab t) xs)
            ≡ items_of (gather (λ t. item_of t (item_at slab t)) xs)
            → items_in (put o (gather (λ t. item_at slab t) xs))
            ≡ items_of (put (item_of x o) (gather (λ t. item_of t (item_at slab t)) xs))
        by_here None rest = rest
        by_here (Some slot) rest = by_entry slot.hash slot.entry rest
          where
            by_entry : (hash : ℕ) (entry : Entry K V P T)
                → items_in (gather (λ t. item_at slab t) xs)
                ≡ items_of (gather (λ t. item_of t (item_at slab t)) xs)
                → items_in (record { hash = hash; entry = entry } ∷ gather (λ t. item_at slab t) xs)
                ≡ items_of (put (item_of x (Some (record { hash = hash; entry = entry })))
                (gather (λ t. item_of t (item_at slab t)) xs))
            by_entry hash (Entry.Item item) e = ap (λ items. item ∷ items) e
            by_entry hash (Entry.Loading awaited) e = e
            by_entry hash Entry.Ghost e = e

    hashes_in-gather : (xs : List ℕ)
        → ((t : ℕ) → 0 < times t xs → stand_of (item_at slab t) ≡ Some AmongGhosts)
        → hashes_in (gather (λ t. item_at slab t) xs)
        ≡ hashes_of (gather (λ t. ghost_of t (item_at slab t)) xs)
    hashes_in-gather [] each = refl
    hashes_in-gather (x ∷ xs) each =
        by_here (item_at slab x) (each x (omega (arith, times-here x xs)))
        (hashes_in-gather xs (λ t some. each t (omega arith)))
      where
        by_here : (o : Option (Slot K V P T)) → stand_of o ≡ Some AmongGhosts
            → hashes_in (gather (λ t. item_at slab t) xs)
            ≡ hashes_of (gather (λ t. ghost_of t (item_at slab t)) xs)
            → hashes_in (put o (gather (λ t. item_at slab t) xs))
            ≡ hashes_of (put (ghost_of x o) (gather (λ t. ghost_of t (item_at slab t)) xs))
        by_here None stands rest = absurd (cc)
        by_here (Some slot) stands rest =
            let among : stand_in slot.entry ≡ AmongGhosts = cc in
            rw (ghost_by_stand x slot among) (ap (λ hashes. slot.hash ∷ hashes) rest)

    module _ (ring : Ring) (s : Stand) (is : IsRingOf slab ring s) where
      pub IsWalk-ring : IsWalk slab ring.tokens (length ring.tokens)
      IsWalk-ring = record {
        counted = refl;
        slotted = length-gather (λ t. item_at slab t) ring.tokens
            (λ t some. some_slot (item_at slab t) (is.members t some));
      }
        where
          some_slot : (o : Option (Slot K V P T)) → stand_of o ≡ Some s
              → (slot : Slot K V P T) × (o ≡ Some slot)
          some_slot None stands = absurd (cc)
          some_slot (Some slot) stands = (slot, refl)

      pub AllByRecursion-walk_of : s ≢ AmongLoading → s ≢ AmongGhosts
          → AllByRecursion (λ slot. is_item slot ≡ true) (walk_of slab ring.tokens)
      AllByRecursion-walk_of off off' =
          gather-all (λ slot. is_item slot ≡ true) (λ t. item_at slab t)
          ring.tokens (λ t slot some at.
          item_by_stand s off off' slot (of_some (ap stand_of (sym at) ∙ is.members t some)))
        where
          of_some : {a b : Stand} → Some a ≡ Some b → a ≡ b
          of_some e = cc

    pub hashes_in-walk_of : (ring : Ring) → IsRingOf slab ring AmongGhosts
        → hashes_in (walk_of slab ring.tokens)
        ≡ hashes_of (gather (λ t. ghost_of t (item_at slab t)) ring.tokens)
    hashes_in-walk_of ring is = hashes_in-gather ring.tokens is.members

  -- ---- items and hashes of walks

  -- where all slots are items, each shows one
  pub length-items_in : (slots : List (Slot K V P T))
      → AllByRecursion (λ slot. is_item slot ≡ true) slots → length (items_in slots) ≡ length slots
  length-items_in [] all = refl
  length-items_in (slot ∷ slots) all =
      by_entry slot.hash slot.entry all.0 (length-items_in slots all.1)
    where
      by_entry : (hash : ℕ) (entry : Entry K V P T)
          → is_item (record { hash = hash; entry = entry }) ≡ true
          → length (items_in slots) ≡ length slots
          → length (items_in (record { hash = hash; entry = entry } ∷ slots))
          ≡ suc (length slots)
      by_entry hash (Entry.Item item) is e = ap suc e
      by_entry hash (Entry.Loading awaited) is e = absurd (cc)
      by_entry hash Entry.Ghost is e = absurd (cc)
