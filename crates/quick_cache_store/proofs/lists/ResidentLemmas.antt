-- A walk over all slots comes to each item once.
use Rattle.std.proofs.Common.{◌≡◌, ◌≢◌, ◌⊎◌, ℕ, zero, suc, ◌+◌, ◌==◌, if◌then◌else◌, Bool, true, false, List, [], ◌∷◌, ◌++◌, length}
use Rattle.std.proofs.Common.{filter_map, get_or, Option, Some, None, refl, sym, ap, subst, ◌∙◌, inl, inr, arith}
use Rattle.std.proofs.lemmas.List.{map-append, length-append, length-map}
use Rattle.std.specs.List.Sorted.{IsPermutation}
use Rattle.std.proofs.lemmas.List.Sorted.{IsPermutation-refl, IsPermutation-trans, IsPermutation-sym, IsPermutation-cons}
use Rattle.std.proofs.lemmas.List.Sorted.{IsPermutation-middle, IsPermutation-map, IsPermutation-append_left}
use Rattle.quick_cache_model.specs.CacheState.{Item}
use Rattle.quick_cache_model.specs.declared.queue.Queue.{Queue}
use Rattle.quick_cache_model.specs.Sequences.{times}
use Rattle.quick_cache_store.specs.Pool.{Pool, item_at, items}
use Rattle.quick_cache_store.proofs.pool.TokenCounts.{times-here, times-other, times-append}
use Rattle.quick_cache_index.specs.Index.{Index}
use Rattle.quick_cache_store.specs.declared.slots.entry.Entry.{Entry}
use Rattle.quick_cache_store.specs.declared.slots.entry.Slot.{Slot}
use Rattle.quick_cache_store.specs.Rings.{Ring, Rings}
use Rattle.quick_cache_store.specs.Lists.{HeldItem, Lists, item_count}
use Rattle.quick_cache_store.specs.ListSlots.{Stand, AmongHot, AmongCold, AmongStill, ring_stand, stand_of, if_still, item_of, still_of}
use Rattle.quick_cache_store.specs.Sound.{put, gather, upto, lists_of, IsRingOf, IsStanding}
use Rattle.quick_cache_store.specs.Views.{items_of, residents}
use Rattle.quick_cache_store.specs.ListWalks.{items_in}
use Rattle.quick_cache_store.proofs.lists.GatherLemmas.{gather-append, gather-same, times-upto}
use Rattle.quick_cache_store.proofs.lists.SlabFrames.{occupied_within, times-split}
use Rattle.quick_cache_store.proofs.lists.SoundLemmas.{out_of_ring}
use Rattle.quick_cache_store.proofs.lists.WalkLemmas.{items_in-gather}

-- the tokens behind p, so many
abbrev ascending : ℕ → ℕ → List ℕ
ascending p zero = []
ascending p (suc n) = suc p ∷ ascending (suc p) n

ascending-push : (p n : ℕ) → ascending p (suc n) ≡ ascending p n ++ suc (p + n) ∷ []
ascending-push p zero = let e : p ≡ p + 0 = omega arith in ap (λ m. suc m ∷ []) e
ascending-push p (suc n) =
    let e : suc p + n ≡ p + suc n = omega arith in
    ap (λ xs. suc p ∷ xs) (ascending-push (suc p) n
    ∙ ap (λ m. ascending (suc p) n ++ suc m ∷ []) e)

upto-ascending : (n : ℕ) → upto n ≡ ascending 0 n
upto-ascending zero = refl
upto-ascending (suc n) =
    let e : n ≡ 0 + n = omega arith in
    ap (λ xs. xs ++ suc n ∷ []) (upto-ascending n) ∙ ap (λ m. ascending 0 n ++ suc m ∷ []) e
    ∙ sym (ascending-push 0 n)

module _ {Y : Type 0} where
  gather-none : (f : ℕ → Option Y) (xs : List ℕ)
      → ((t : ℕ) (y : Y) → f t ≡ Some y → times t xs ≡ 0) → gather f xs ≡ []
  gather-none f [] none = refl
  gather-none f (x ∷ xs) none =
      by_here (f x) refl (gather-none f xs (λ t y at. omega (arith, none t y at)))
    where
      by_here : (o : Option Y) → f x ≡ o → gather f xs ≡ [] → put (f x) (gather f xs) ≡ []
      by_here None at rest = rw at rest
      by_here (Some y) at rest = absurd (omega (arith, none x y at, times-here x xs))

  -- what is found depends, but for the order, on how often each token stands there that has
  -- something
  gather-permuted : (f : ℕ → Option Y) (xs ys : List ℕ)
      → ((t : ℕ) (y : Y) → f t ≡ Some y → times t ys ≡ times t xs)
      → IsPermutation (gather f xs) (gather f ys)
  gather-permuted f [] ys same =
      subst (IsPermutation []) (sym (gather-none f ys same)) (IsPermutation-refl [])
  gather-permuted f (x ∷ xs) ys same =
      by_here (λ zs fewer. gather-permuted f xs zs fewer) (f x) refl
    where
      differs : (t : ℕ) (y : Y) → f x ≡ None → f t ≡ Some y → x ≢ t
      differs t y at there e =
          let clash : None ≡ Some y = sym at ∙ ap f e ∙ there in absurd (cc)

      by_here : ((zs : List ℕ) → ((t : ℕ) (y : Y) → f t ≡ Some y → times t zs ≡ times t xs)
          → IsPermutation (gather f xs) (gather f zs))
          → (o : Option Y) → f x ≡ o → IsPermutation (put (f x) (gather f xs)) (gather f ys)
      by_here on None at = rw at (on ys (λ t y there.
          same t y there ∙ times-other t x xs (differs t y at there)))
      by_here on (Some y) at =
          by_split (times-split x ys (omega (arith, same x y at, times-here x xs)))
        where
          by_split : ((pre : List ℕ) × (post : List ℕ) × (ys ≡ pre ++ x ∷ post))
              → IsPermutation (put (f x) (gather f xs)) (gather f ys)
          by_split s =
              let fewer = on (s.0 ++ s.1) (λ t z there.
              omega (
                arith,
                same t z there,
                ap (times t) s.2,
                times-append t s.0 (x ∷ s.1),
                times-append t s.0 s.1,
              )) in
              let parts = gather-append f s.0 s.1 in
              let whole : gather f ys ≡ gather f s.0 ++ y ∷ gather f s.1 =
              ap (gather f) s.2 ∙ gather-append f s.0 (x ∷ s.1)
              ∙ ap (λ o. gather f s.0 ++ put o (gather f s.1)) at in
              rw (at, whole) (IsPermutation-trans _ _ _
              (IsPermutation-cons y _ _ (subst (IsPermutation (gather f xs)) parts fewer))
              (IsPermutation-sym _ _ (IsPermutation-middle (gather f s.0) y (gather f s.1))))

  -- what is found of two kinds
  gather-parted : (f g h : ℕ → Option Y)
      → ((t : ℕ) (y : Y) → f t ≡ Some y
      → ((g t ≡ Some y) × (h t ≡ None)) ⊎ ((g t ≡ None) × (h t ≡ Some y)))
      → ((t : ℕ) → f t ≡ None → (g t ≡ None) × (h t ≡ None))
      → (xs : List ℕ) → IsPermutation (gather f xs) (gather g xs ++ gather h xs)
  gather-parted f g h some none [] = IsPermutation-refl []
  gather-parted f g h some none (x ∷ xs) = by_here (f x) refl (gather-parted f g h some none xs)
    where
      by_here : (o : Option Y) → f x ≡ o → IsPermutation (gather f xs) (gather g xs ++ gather h xs)
          → IsPermutation (put (f x) (gather f xs))
          (put (g x) (gather g xs) ++ put (h x) (gather h xs))
      by_here None at rest = rw (at, (none x at).0, (none x at).1) rest
      by_here (Some y) at rest = elim (some x y at) [
        | inl of ↦ rw (at, of.0, of.1) (IsPermutation-cons y _ _ rest)
        | inr of ↦ rw (at, of.0, of.1) (IsPermutation-trans _ _ _ (IsPermutation-cons y _ _ rest)
            (IsPermutation-sym _ _ (IsPermutation-middle (gather g xs) y (gather h xs))))
      ]

-- what stands in these slots, by ascending token
slots-gather : {S : Type 0} (slots : List (Option S)) (p : ℕ) (at : ℕ → Option S)
    → ((i : ℕ) → at (suc (p + i)) ≡ get_or slots i None)
    → filter_map (λ slot. slot) slots ≡ gather at (ascending p (length slots))
slots-gather [] p at is = refl
slots-gather {S = S} (o ∷ rest) p at is =
    let same : p ≡ p + 0 = omega arith in
    let here : at (suc p) ≡ o = ap (λ m. at (suc m)) same ∙ is 0 in
    let later = slots-gather rest (suc p) at
    (λ i. let e : suc p + i ≡ p + suc i = omega arith in ap (λ m. at (suc m)) e ∙ is (suc i)) in
    rw here (by_slot o later)
  where
    by_slot : (o : Option S)
        → filter_map (λ slot. slot) rest ≡ gather at (ascending (suc p) (length rest))
        → filter_map (λ slot. slot) (o ∷ rest)
        ≡ put o (gather at (ascending (suc p) (length rest)))
    by_slot None later = later
    by_slot (Some slot) later = ap (λ slots. slot ∷ slots) later

module _ {K V : Type 0} where
  -- an item that weighs something
  abbrev if_heavy : Option (HeldItem K V) → Option (HeldItem K V)
  if_heavy None = None
  if_heavy (Some held) = if held.item.weight == 0 then None else Some held

  heavy-or_still : (o : Option (HeldItem K V)) (held : HeldItem K V) → o ≡ Some held
      → ((if_heavy o ≡ Some held) × (if_still o ≡ None))
      ⊎ ((if_heavy o ≡ None) × (if_still o ≡ Some held))
  heavy-or_still o held is = by_weight (held.item.weight == 0) refl
    where
      by_weight : (b : Bool) → (held.item.weight == 0) ≡ b
          → ((if_heavy o ≡ Some held) × (if_still o ≡ None))
          ⊎ ((if_heavy o ≡ None) × (if_still o ≡ Some held))
      by_weight true e = inr (rw (is, e) refl, rw (is, e) refl)
      by_weight false e = inl (rw (is, e) refl, rw (is, e) refl)

  neither-nothing : (o : Option (HeldItem K V)) → o ≡ None
      → (if_heavy o ≡ None) × (if_still o ≡ None)
  neither-nothing o is = (rw is refl, rw is refl)

module _ {K V P T : Type 0} where
  abbrev heavy_of : ℕ → Option (Slot K V P T) → Option (HeldItem K V)
  heavy_of t o = if_heavy (item_of t o)

  abbrev slot_of : ℕ → Item K V → Slot K V P T
  slot_of hash item = record { hash = hash; entry = Entry.Item item }

  -- what stands in a ring weighs something
  heavy-in_ring : (t : ℕ) (o : Option (Slot K V P T)) (q : Queue)
      → stand_of o ≡ Some (ring_stand q) → heavy_of t o ≡ item_of t o
  heavy-in_ring t None q stands = refl
  heavy-in_ring t (Some slot) q stands = by_entry slot.hash slot.entry stands
    where
      not_still : (q : Queue) → Some AmongStill ≡ Some (ring_stand q) → ⊥
      not_still Queue.Hot e = cc
      not_still Queue.Cold e = cc

      by_entry : (hash : ℕ) (entry : Entry K V P T)
          → stand_of (Some (record { hash = hash; entry = entry })) ≡ Some (ring_stand q)
          → heavy_of t (Some (record { hash = hash; entry = entry }))
          ≡ item_of t (Some (record { hash = hash; entry = entry }))
      by_entry hash (Entry.Item item) is = by_weight (item.weight == 0) refl
        where
          by_weight : (b : Bool) → (item.weight == 0) ≡ b
              → heavy_of t (Some (slot_of hash item))
              ≡ item_of t (Some (slot_of hash item))
          by_weight true e = absurd (not_still q (rw e at is))
          by_weight false e = rw e refl
      by_entry hash (Entry.Loading awaited) is = refl
      by_entry hash Entry.Ghost is = refl

  -- an item that weighs something stands in the ring of its queue
  heavy-stands : (t : ℕ) (o : Option (Slot K V P T)) (held : HeldItem K V)
      → heavy_of t o ≡ Some held → stand_of o ≡ Some (ring_stand held.item.queue)
  heavy-stands t None held is = absurd (cc)
  heavy-stands t (Some slot) held is = by_entry slot.hash slot.entry is
    where
      by_entry : (hash : ℕ) (entry : Entry K V P T)
          → heavy_of t (Some (record { hash = hash; entry = entry })) ≡ Some held
          → stand_of (Some (record { hash = hash; entry = entry }))
          ≡ Some (ring_stand held.item.queue)
      by_entry hash (Entry.Item item) there = by_weight (item.weight == 0) refl
        where
          by_weight : (b : Bool) → (item.weight == 0) ≡ b
              → stand_of (Some (slot_of hash item))
              ≡ Some (ring_stand held.item.queue)
          by_weight true e = let clash : None ≡ Some held = rw e at there in absurd (cc)
          by_weight false e =
              let same : Some (record { token = t; hash = hash; item = item }) ≡ Some held =
              rw e at there in
              let one : record { token = t; hash = hash; item = item } ≡ held = cc in
              rw e (ap (λ (h : HeldItem K V). Some (ring_stand h.item.queue)) one)
      by_entry hash (Entry.Loading awaited) there = absurd (cc)
      by_entry hash Entry.Ghost there = absurd (cc)

module _ {K V P T : Type 0} (slab : Pool (Slot K V P T)) (index : Index)
    (rings : Rings) (standing : IsStanding slab rings) where
  in_all : (t : ℕ) (o : Option (Slot K V P T)) (s : Stand) → item_at slab t ≡ o
      → stand_of o ≡ Some s → times t (upto (length slab.slots)) ≡ 1
  in_all t None s at stands = absurd (cc)
  in_all t (Some slot) s at stands =
      let within = occupied_within slab.slots t slot at in
      times-upto t (length slab.slots) within.0 within.1

  -- an item that weighs something stands once in the two rings
  once_in_rings : (t : ℕ) (held : HeldItem K V) → heavy_of t (item_at slab t) ≡ Some held
      → times t (rings.hot.tokens ++ rings.cold.tokens)
      ≡ times t (upto (length slab.slots))
  once_in_rings t held is =
      by_queue held.item.queue (heavy-stands t (item_at slab t) held is)
    where
      by_queue : (q : Queue) → stand_of (item_at slab t) ≡ Some (ring_stand q)
          → times t (rings.hot.tokens ++ rings.cold.tokens)
          ≡ times t (upto (length slab.slots))
      by_queue Queue.Hot stands = omega (
        arith,
        times-append t rings.hot.tokens rings.cold.tokens,
        standing.hot_ring.all t stands,
        standing.hot_ring.once t,
        out_of_ring slab rings.cold AmongCold t standing.cold_ring (λ e. let f = sym stands ∙ e in cc),
        in_all t (item_at slab t) AmongHot refl stands,
      )
      by_queue Queue.Cold stands = omega (
        arith,
        times-append t rings.hot.tokens rings.cold.tokens,
        standing.cold_ring.all t stands,
        standing.cold_ring.once t,
        out_of_ring slab rings.hot AmongHot t standing.hot_ring (λ e. let f = sym stands ∙ e in cc),
        in_all t (item_at slab t) AmongCold refl stands,
      )

  ring-heavy : (ring : Ring) (q : Queue) → IsRingOf slab ring (ring_stand q)
      → gather (λ t. heavy_of t (item_at slab t)) ring.tokens
      ≡ gather (λ t. item_of t (item_at slab t)) ring.tokens
  ring-heavy ring q is = gather-same (λ t. item_of t (item_at slab t))
      (λ t. heavy_of t (item_at slab t)) ring.tokens
      (λ t some. heavy-in_ring t (item_at slab t) q (is.members t some))

  -- the slots have the items of the two rings and those of weight 0, and no others
  held_by_slots : IsPermutation
      (gather (λ t. item_of t (item_at slab t)) (upto (length slab.slots)))
      (gather (λ t. item_of t (item_at slab t)) rings.hot.tokens
      ++ gather (λ t. item_of t (item_at slab t)) rings.cold.tokens
      ++ gather (λ t. still_of t (item_at slab t)) (upto (length slab.slots)))
  held_by_slots =
      let parts = gather-parted (λ t. item_of t (item_at slab t))
      (λ t. heavy_of t (item_at slab t)) (λ t. still_of t (item_at slab t))
      (λ t held is. heavy-or_still (item_of t (item_at slab t)) held is)
      (λ t is. neither-nothing (item_of t (item_at slab t)) is)
      (upto (length slab.slots)) in
      let both_rings = gather-permuted (λ t. heavy_of t (item_at slab t)) (upto (length slab.slots))
      (rings.hot.tokens ++ rings.cold.tokens) once_in_rings in
      let apart = gather-append (λ t. heavy_of t (item_at slab t)) rings.hot.tokens
      rings.cold.tokens in
      let both = subst (IsPermutation
      (gather (λ t. heavy_of t (item_at slab t)) (upto (length slab.slots))))
      (apart ∙ (λ i. ring-heavy rings.hot Queue.Hot standing.hot_ring i
      ++ ring-heavy rings.cold Queue.Cold standing.cold_ring i))
      both_rings in
      IsPermutation-trans _ _ _ parts (IsPermutation-append_left
      (gather (λ t. still_of t (item_at slab t)) (upto (length slab.slots))) _ _ both)

  items-gather : items slab ≡ gather (λ t. item_at slab t) (upto (length slab.slots))
  items-gather = rw (upto-ascending (length slab.slots))
      (slots-gather slab.slots 0 (λ t. item_at slab t)
      (λ i. let e : 0 + i ≡ i = omega arith in ap (λ m. item_at slab (suc m)) e))

  pub IsPermutation-items_in : IsPermutation (residents (lists_of slab index rings))
      (items_in (items slab))
  IsPermutation-items_in =
      let is : items_in (items slab)
      ≡ items_of (gather (λ t. item_of t (item_at slab t)) (upto (length slab.slots))) =
      ap items_in items-gather ∙ items_in-gather slab (upto (length slab.slots)) in
      let H = gather (λ t. item_of t (item_at slab t)) rings.hot.tokens in
      let C = gather (λ t. item_of t (item_at slab t)) rings.cold.tokens in
      let S = gather (λ t. still_of t (item_at slab t)) (upto (length slab.slots)) in
      let apart : items_of (H ++ C ++ S) ≡ items_of H ++ items_of C ++ items_of S =
      map-append (λ held. held.item) (H ++ C) S
      ∙ ap (λ items. items ++ items_of S) (map-append (λ held. held.item) H C) in
      let to = subst (IsPermutation _) apart
      (IsPermutation-map (λ held. held.item) _ _ held_by_slots) in
      rw is (IsPermutation-sym _ _ to)

pub length-residents : {K V P : Type 0} (lists : Lists K V P)
    → length (residents lists) ≡ item_count lists
length-residents lists =
    let both : length (items_of lists.hot ++ items_of lists.cold ++ items_of lists.still)
    ≡ length lists.hot + length lists.cold + length lists.still = omega (
      arith,
      length-append (items_of lists.hot ++ items_of lists.cold) (items_of lists.still),
      length-append (items_of lists.hot) (items_of lists.cold),
      length-map lists.hot (λ held. held.item),
      length-map lists.cold (λ held. held.item),
      length-map lists.still (λ held. held.item),
    ) in
    both
