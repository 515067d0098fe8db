-- What stands at a token, seen as an item, as a key that is being loaded or as a ghost.
use Rattle.std.proofs.Common.{◌≡◌, ℕ, Option, Some, None, MatchOption, length, refl, sym, ap, subst, ◌∙◌, inl, inr}
use Rattle.quick_cache_model.specs.CacheState.{Item}
use Rattle.quick_cache_store.specs.Pool.{Pool, item_at}
use Rattle.quick_cache_index.specs.Index.{Index}
use Rattle.quick_cache_store.specs.declared.slots.entry.Awaited.{Awaited}
use Rattle.quick_cache_store.specs.declared.slots.entry.Entry.{Entry}
use Rattle.quick_cache_store.specs.declared.slots.entry.Slot.{Slot}
use Rattle.quick_cache_store.specs.Slots.{HasLoading}
use Rattle.quick_cache_store.specs.Rings.{Rings}
use Rattle.quick_cache_store.specs.Lists.{HeldLoading, HeldGhost, HasGhostToken, HasItemToken, IsItemOf, HasLoadingToken, IsAwaitedOf}
use Rattle.quick_cache_store.specs.ListSlots.{entry_awaited, loading_of, ghost_of}
use Rattle.quick_cache_store.specs.Sound.{upto, lists_of, IsStanding}
use Rattle.quick_cache_store.specs.ListWalks.{entry_item}
use Rattle.quick_cache_store.proofs.lists.GatherLemmas.{gather-from}
use Rattle.quick_cache_store.proofs.lists.ItemLemmas.{item_by_token, item_is}
use Rattle.quick_cache_store.proofs.lists.SlabFrames.{occupied-some}
use Rattle.quick_cache_store.proofs.lists.StandLemmas.{HasItem-from, StandsIn-loading}
use Rattle.quick_cache_store.proofs.lists.TakeLemmas.{occupied_by_entry, named_loading, named_ghost}

module _ {K V P T : Type 0} where
  -- an entry that is seen as a key that is being loaded is one
  pub entry_awaited-some : (entry : Entry K V P T) (awaited : Awaited K P)
      → entry_awaited entry ≡ Some awaited → entry ≡ Entry.Loading awaited
  entry_awaited-some (Entry.Item item) awaited is = absurd (cc)
  entry_awaited-some (Entry.Loading one) awaited is =
      let same : one ≡ awaited = cc in ap (λ a. Entry.Loading a) same
  entry_awaited-some Entry.Ghost awaited is = absurd (cc)

  -- and one that is a key that is being loaded is seen as that
  pub entry_awaited-none : (entry : Entry K V P T) (awaited : Awaited K P)
      → entry ≡ Entry.Loading awaited → entry_awaited entry ≡ None → ⊥
  entry_awaited-none (Entry.Item item) awaited is none = absurd (cc)
  entry_awaited-none (Entry.Loading one) awaited is none = absurd (cc)
  entry_awaited-none Entry.Ghost awaited is none = absurd (cc)

  -- a slot that shows a placeholder has one
  awaited_in_slot : (t : ℕ) (o : Option (Slot K V P T)) (waiting : HeldLoading K P)
      → loading_of t o ≡ Some waiting → (slot : Slot K V P T) → o ≡ Some slot
      → (awaited : Awaited K P) × (slot.entry ≡ Entry.Loading awaited)
  awaited_in_slot t None waiting is slot at = absurd (cc)
  awaited_in_slot t (Some one) waiting is slot at =
      let same : one ≡ slot = cc in
      subst (λ (s : Slot K V P T). (awaited : Awaited K P) × (s.entry ≡ Entry.Loading awaited))
      same (by_entry one.hash one.entry is)
    where
      by_entry : (hash : ℕ) (entry : Entry K V P T)
          → loading_of t (Some (record { hash = hash; entry = entry })) ≡ Some waiting
          → (awaited : Awaited K P) × (entry ≡ Entry.Loading awaited)
      by_entry hash (Entry.Item item) e = absurd (cc)
      by_entry hash (Entry.Loading awaited) e = (awaited, refl)
      by_entry hash Entry.Ghost e = absurd (cc)

  -- and one that shows a ghost has one
  ghost_in_slot : (t : ℕ) (o : Option (Slot K V P T)) (shade : HeldGhost)
      → ghost_of t o ≡ Some shade → (slot : Slot K V P T) → o ≡ Some slot
      → slot.entry ≡ Entry.Ghost
  ghost_in_slot t None shade is slot at = absurd (cc)
  ghost_in_slot t (Some one) shade is slot at =
      let same : one ≡ slot = cc in
      subst (λ (s : Slot K V P T). s.entry ≡ Entry.Ghost) same (by_entry one.hash one.entry is)
    where
      by_entry : (hash : ℕ) (entry : Entry K V P T)
          → ghost_of t (Some (record { hash = hash; entry = entry })) ≡ Some shade
          → entry ≡ Entry.Ghost
      by_entry hash (Entry.Item item) e = absurd (cc)
      by_entry hash (Entry.Loading awaited) e = absurd (cc)
      by_entry hash Entry.Ghost e = refl

module _ {K V P T : Type 0} (slab : Pool (Slot K V P T)) (index : Index)
    (rings : Rings) where
  -- what has the token of a placeholder is one
  pub awaited_by_token : (t : ℕ) → HasLoadingToken (lists_of slab index rings) t
      → (slot : Slot K V P T) → item_at slab t ≡ Some slot
      → (awaited : Awaited K P) × (slot.entry ≡ Entry.Loading awaited)
  awaited_by_token t has slot at =
      let there = gather-from (λ u. loading_of u (item_at slab u)) (upto (length slab.slots))
      has.0 has.1 in
      let named : there.0 ≡ t =
      sym (named_loading there.0 (item_at slab there.0) has.0 there.2) ∙ has.2 in
      awaited_in_slot there.0 (item_at slab there.0) has.0 there.2 slot
      (ap (λ n. item_at slab n) named ∙ at)

  -- and so it stands in its slot
  pub loading_by_token : (t : ℕ) → HasLoadingToken (lists_of slab index rings) t
      → HasLoading slab t
  loading_by_token t has =
      let there = occupied-some (item_at slab t)
      (occupied_by_entry slab index rings t (inr (inl has))) in
      let is = awaited_by_token t has there.0 there.1 in (
        there.0.hash,
        is.0,
        there.1 ∙ ap (λ (e : Entry K V P T). Some (record there.0 { entry = e })) is.1,
      )

  -- what has the token of a ghost is one
  pub ghost_by_token : (t : ℕ) → HasGhostToken (lists_of slab index rings) t
      → (slot : Slot K V P T) → item_at slab t ≡ Some slot → slot.entry ≡ Entry.Ghost
  ghost_by_token t has slot at =
      let there = gather-from (λ u. ghost_of u (item_at slab u)) rings.ghosts.tokens
      has.0 has.1 in
      let named : there.0 ≡ t =
      sym (named_ghost there.0 (item_at slab there.0) has.0 there.2) ∙ has.2 in
      ghost_in_slot there.0 (item_at slab there.0) has.0 there.2 slot
      (ap (λ n. item_at slab n) named ∙ at)

  module _ (standing : IsStanding slab rings) where
    pub IsAwaitedOf-from : (t : ℕ) (slot : Slot K V P T) (awaited : Awaited K P)
        → item_at slab t ≡ Some slot → slot.entry ≡ Entry.Loading awaited
        → IsAwaitedOf (lists_of slab index rings) t awaited
    IsAwaitedOf-from t slot awaited at is =
        let here : item_at slab t
        ≡ Some (record { hash = slot.hash; entry = Entry.Loading awaited }) =
        at ∙ ap (λ (e : Entry K V P T). Some (record slot { entry = e })) is in
        (slot.hash, StandsIn-loading slab index rings standing t _ _ here refl)

    -- what a slot shows as its item is the item of its token, and where it shows none there is none
    pub IsItemOf-shown : (t : ℕ) (slot : Slot K V P T) → item_at slab t ≡ Some slot
        → (result : Option (Item K V)) → result ≡ entry_item slot.entry
        → MatchOption result (¬ HasItemToken (lists_of slab index rings) t)
        (λ item. IsItemOf (lists_of slab index rings) t item)
    IsItemOf-shown t slot at result is =
        subst (λ (r : Option (Item K V)).
        MatchOption r (¬ HasItemToken (lists_of slab index rings) t)
        (λ item. IsItemOf (lists_of slab index rings) t item)) (sym is)
        (by_entry slot.hash slot.entry at)
      where
        by_entry : (hash : ℕ) (entry : Entry K V P T)
            → item_at slab t ≡ Some (record { hash = hash; entry = entry })
            → MatchOption (entry_item entry)
            (¬ HasItemToken (lists_of slab index rings) t)
            (λ item. IsItemOf (lists_of slab index rings) t item)
        by_entry hash (Entry.Item item) here =
            (hash, HasItem-from slab index rings standing t hash item here)
        by_entry hash (Entry.Loading awaited) here = λ has.
            let there = item_by_token slab index rings t has in
            let entry = item_is (item_at slab t) _ there.0 there.1 there.2 here in
            absurd (cc entry)
        by_entry hash Entry.Ghost here = λ has.
            let there = item_by_token slab index rings t has in
            let entry = item_is (item_at slab t) _ there.0 there.1 there.2 here in
            absurd (cc entry)
