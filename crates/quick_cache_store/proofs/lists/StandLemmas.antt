-- An entry stands in the list of its stand.
use Rattle.std.proofs.Common.{◌≡◌, ℕ, ◌<◌, ◌==◌, Bool, true, false, length, Some, refl, sym, subst, arith}
use Rattle.quick_cache_model.specs.CacheState.{Item, Place, InHot, InCold, InStill, place_of_item}
use Rattle.quick_cache_store.specs.Pool.{Pool, times, item_at}
use Rattle.quick_cache_index.specs.Index.{Index}
use Rattle.quick_cache_model.specs.declared.queue.Queue.{Queue}
use Rattle.quick_cache_store.specs.declared.slots.entry.Entry.{Entry}
use Rattle.quick_cache_store.specs.declared.slots.entry.Slot.{Slot}
use Rattle.quick_cache_store.specs.Rings.{Rings}
use Rattle.quick_cache_store.specs.Lists.{HeldLoading, items_at, StandsIn, HasItem}
use Rattle.quick_cache_store.specs.ListSlots.{item_of, still_of, loading_of, ghost_of}
use Rattle.quick_cache_store.specs.Sound.{gather, upto, lists_of, IsStanding}
use Rattle.quick_cache_store.proofs.lists.GatherLemmas.{gather-has, times-upto}
use Rattle.quick_cache_store.proofs.lists.SlabFrames.{occupied_within}

module _ {K V P T : Type 0} (slab : Pool (Slot K V P T)) (index : Index)
    (rings : Rings) (sound : IsStanding slab rings) where
  in_upto : (t : ℕ) (slot : Slot K V P T) → item_at slab t ≡ Some slot
      → 0 < times t (upto (length slab.slots))
  in_upto t slot at =
      let within = occupied_within slab.slots t slot at in
      omega (arith, times-upto t (length slab.slots) within.0 within.1)

  abbrev StandsAt : ℕ → ℕ → Item K V → Place → Type 0
  StandsAt t hash item p = StandsIn (items_at p (lists_of slab index rings))
      (record { token = t; hash = hash; item = item })

  -- an item stands where its weight and its queue say
  pub StandsIn-item : (t hash : ℕ) (item : Item K V)
      → item_at slab t ≡ Some (record { hash = hash; entry = Entry.Item item })
      → StandsIn (items_at (place_of_item item) (lists_of slab index rings))
      (record { token = t; hash = hash; item = item })
  StandsIn-item t hash item at = by_weight (item.weight == 0) refl
    where
      by_queue : (queue : Queue) → item.queue ≡ queue → (item.weight == 0) ≡ false
          → StandsAt t hash item (place_of_item item)
      by_queue Queue.Hot of weighs =
          let is : place_of_item item ≡ InHot = rw (weighs, of) refl in
          subst (StandsAt t hash item) (sym is) (gather-has (λ token. item_of token (item_at slab token)) _ t _
          (sound.hot_ring.all t (rw (at, weighs, of) refl)) (rw at refl))
      by_queue Queue.Cold of weighs =
          let is : place_of_item item ≡ InCold = rw (weighs, of) refl in
          subst (StandsAt t hash item) (sym is) (gather-has (λ token. item_of token (item_at slab token)) _ t _
          (sound.cold_ring.all t (rw (at, weighs, of) refl)) (rw at refl))

      by_weight : (b : Bool) → (item.weight == 0) ≡ b → StandsAt t hash item (place_of_item item)
      by_weight true none =
          let is : place_of_item item ≡ InStill = rw none refl in
          subst (StandsAt t hash item) (sym is) (gather-has (λ token. still_of token (item_at slab token)) _ t _
          (in_upto t _ at) (rw (at, none) refl))
      by_weight false weighs = by_queue item.queue refl weighs

  pub HasItem-from : (t hash : ℕ) (item : Item K V)
      → item_at slab t ≡ Some (record { hash = hash; entry = Entry.Item item })
      → HasItem (lists_of slab index rings)
      (record { token = t; hash = hash; item = item })
  HasItem-from t hash item at =
      record { place = place_of_item item; stands = StandsIn-item t hash item at }

  pub StandsIn-loading : (t : ℕ) (slot : Slot K V P T) (waiting : HeldLoading K P)
      → item_at slab t ≡ Some slot → loading_of t (Some slot) ≡ Some waiting
      → StandsIn (gather (λ token. loading_of token (item_at slab token))
      (upto (length slab.slots))) waiting
  StandsIn-loading t slot waiting at is =
      gather-has (λ token. loading_of token (item_at slab token)) _ t _ (in_upto t _ at) (rw at is)

  pub StandsIn-ghosts : (t hash : ℕ)
      → item_at slab t ≡ Some (record { hash = hash; entry = Entry.Ghost })
      → StandsIn (gather (λ token. ghost_of token (item_at slab token))
      rings.ghosts.tokens) (record { token = t; hash = hash })
  StandsIn-ghosts t hash at =
      gather-has (λ token. ghost_of token (item_at slab token)) _ t _
      (sound.ghost_ring.all t (rw at refl)) (rw at refl)
