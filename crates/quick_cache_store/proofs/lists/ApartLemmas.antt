-- Each token has one entry at most.
use Rattle.std.proofs.Common.{◌≡◌, ◌≢◌, ℕ, zero, suc, ◌≤◌, ◌==◌, if◌then◌else◌, Bool, true, false, List, [], ◌∷◌, map, length, Option, Some}
use Rattle.std.proofs.Common.{None, refl, sym, ap, ◌∙◌, inl, inr, arith}
use Rattle.std.proofs.lemmas.Bool.{cases_eq, cases_lt}
use Rattle.quick_cache_model.specs.Sequences.{times}
use Rattle.quick_cache_store.specs.Pool.{Pool, item_at}
use Rattle.quick_cache_index.specs.Index.{Index}
use Rattle.quick_cache_model.specs.declared.queue.Queue.{Queue}
use Rattle.quick_cache_store.proofs.pool.TokenCounts.{times-append, times-other}
use Rattle.quick_cache_store.specs.declared.slots.entry.Entry.{Entry}
use Rattle.quick_cache_store.specs.declared.slots.entry.Slot.{Slot}
use Rattle.quick_cache_store.specs.Rings.{Ring, Rings}
use Rattle.quick_cache_store.specs.Lists.{HeldItem, AreApart, entries_of}
use Rattle.quick_cache_store.specs.ListSlots.{Stand, AmongHot, AmongCold, AmongStill, AmongLoading, AmongGhosts, ring_stand, stand_of}
use Rattle.quick_cache_store.specs.ListSlots.{item_of, still_of, loading_of, ghost_of}
use Rattle.quick_cache_store.specs.Sound.{put, gather, upto, lists_of, IsStanding}
use Rattle.quick_cache_store.proofs.lists.GatherLemmas.{times-upto, times-upto_past}
use Rattle.quick_cache_store.proofs.lists.SoundLemmas.{out_of_ring}
use Rattle.quick_cache_store.proofs.lists.TakeLemmas.{named_item, named_still, named_loading, named_ghost}

module _ {Y : Type 0} (name : Y → ℕ) (f : ℕ → Option Y)
    (named : (u : ℕ) (y : Y) → f u ≡ Some y → name y ≡ u) (t : ℕ) where
  times-gather : (xs : List ℕ) → times t (map name (gather f xs)) ≤ times t xs
  times-gather [] = omega arith
  times-gather (x ∷ xs) = by_here (times-gather xs) (f x) refl
    where
      by_here : times t (map name (gather f xs)) ≤ times t xs → (o : Option Y) → f x ≡ o
          → times t (map name (put o (gather f xs))) ≤ times t (x ∷ xs)
      by_here rest None at = omega arith
      by_here rest (Some y) at = rw (named x y at) (omega arith)

  times-nothing : f t ≡ None → (xs : List ℕ) → times t (map name (gather f xs)) ≡ 0
  times-nothing none [] = refl
  times-nothing none (x ∷ xs) = by_here (times-nothing none xs) (f x) refl
    where
      by_here : times t (map name (gather f xs)) ≡ 0 → (o : Option Y) → f x ≡ o
          → times t (map name (put o (gather f xs))) ≡ 0
      by_here rest None at = rest
      by_here rest (Some y) at = elim (cases_eq x t) [
        | inl same ↦ let e : f t ≡ Some y = ap f (sym same) ∙ at in absurd (cc)
        | inr differs ↦ omega (
          arith,
          times-other t (name y) (map name (gather f xs))
              (λ e. differs (sym (named x y at) ∙ e)),
          rest,
        )
      ]

times-upto_zero : (n : ℕ) → times 0 (upto n) ≡ 0
times-upto_zero zero = refl
times-upto_zero (suc n) =
    omega (
      arith,
      times-append 0 (upto n) (suc n ∷ []),
      times-upto_zero n,
      times-other 0 (suc n) []
          (λ e. omega (arith, e)),
    )

once_upto : (t n : ℕ) → times t (upto n) ≤ 1
once_upto zero n = omega (arith, times-upto_zero n)
once_upto (suc t) n = elim (cases_lt n (suc t)) [
  | inl past ↦ omega (arith, times-upto_past (suc t) n past)
  | inr within ↦ omega (arith, times-upto (suc t) n (omega arith) within)
]

module _ {K V P T : Type 0} where
  still_none : (t : ℕ) (o : Option (Slot K V P T)) → stand_of o ≢ Some AmongStill
      → still_of t o ≡ None
  still_none t None off = refl
  still_none t (Some slot) off = by_entry slot.hash slot.entry off
    where
      by_weight : (b : Bool) (q : Queue) (held : HeldItem K V)
          → Some (if b then AmongStill else ring_stand q) ≢ Some AmongStill
          → (if b then Some held else None) ≡ None
      by_weight true q held off' = absurd (off' refl)
      by_weight false q held off' = refl

      by_entry : (hash : ℕ) (entry : Entry K V P T)
          → stand_of (Some (record { hash = hash; entry = entry })) ≢ Some AmongStill
          → still_of t (Some (record { hash = hash; entry = entry })) ≡ None
      by_entry hash (Entry.Item item) off' =
          by_weight (item.weight == 0) item.queue
          (record { token = t; hash = hash; item = item }) off'
      by_entry hash (Entry.Loading awaited) off' = refl
      by_entry hash Entry.Ghost off' = refl

  waiting_none : (t : ℕ) (o : Option (Slot K V P T)) → stand_of o ≢ Some AmongLoading
      → loading_of t o ≡ None
  waiting_none t None off = refl
  waiting_none t (Some slot) off = by_entry slot.hash slot.entry off
    where
      by_entry : (hash : ℕ) (entry : Entry K V P T)
          → stand_of (Some (record { hash = hash; entry = entry })) ≢ Some AmongLoading
          → loading_of t (Some (record { hash = hash; entry = entry })) ≡ None
      by_entry hash (Entry.Item item) off' = refl
      by_entry hash (Entry.Loading awaited) off' = absurd (off' refl)
      by_entry hash Entry.Ghost off' = refl

module _ {K V P T : Type 0} (slab : Pool (Slot K V P T)) (index : Index)
    (rings : Rings) (sound : IsStanding slab rings) where
  pub apart_by : AreApart (lists_of slab index rings)
  apart_by t = by_stand (stand_of (item_at slab t)) refl
    where
      held_le : (ring : Ring) → times t
          (map (λ h. h.token) (gather (λ u. item_of u (item_at slab u)) ring.tokens))
          ≤ times t ring.tokens
      held_le ring = times-gather (λ h. h.token) (λ u. item_of u (item_at slab u))
          (λ u y is. named_item u (item_at slab u) y is) t ring.tokens

      shade_le : times t (map (λ h. h.token)
          (gather (λ u. ghost_of u (item_at slab u)) rings.ghosts.tokens))
          ≤ times t rings.ghosts.tokens
      shade_le = times-gather (λ h. h.token) (λ u. ghost_of u (item_at slab u))
          (λ u y is. named_ghost u (item_at slab u) y is) t rings.ghosts.tokens

      still_le : times t (map (λ h. h.token)
          (gather (λ u. still_of u (item_at slab u)) (upto (length slab.slots))))
          ≤ times t (upto (length slab.slots))
      still_le = times-gather (λ h. h.token) (λ u. still_of u (item_at slab u))
          (λ u y is. named_still u (item_at slab u) y is) t (upto (length slab.slots))

      loading_le : times t (map (λ h. h.token)
          (gather (λ u. loading_of u (item_at slab u)) (upto (length slab.slots))))
          ≤ times t (upto (length slab.slots))
      loading_le = times-gather (λ h. h.token) (λ u. loading_of u (item_at slab u))
          (λ u y is. named_loading u (item_at slab u) y is) t (upto (length slab.slots))

      no_still : stand_of (item_at slab t) ≢ Some AmongStill
          → times t (map (λ h. h.token) (gather (λ u. still_of u (item_at slab u))
          (upto (length slab.slots)))) ≡ 0
      no_still off = times-nothing (λ h. h.token) (λ u. still_of u (item_at slab u))
          (λ u y is. named_still u (item_at slab u) y is) t (still_none t (item_at slab t) off)
          (upto (length slab.slots))

      no_loading : stand_of (item_at slab t) ≢ Some AmongLoading
          → times t (map (λ h. h.token) (gather (λ u. loading_of u (item_at slab u))
          (upto (length slab.slots)))) ≡ 0
      no_loading off = times-nothing (λ h. h.token) (λ u. loading_of u (item_at slab u))
          (λ u y is. named_loading u (item_at slab u) y is) t (waiting_none t (item_at slab t) off)
          (upto (length slab.slots))

      by_stand : (o : Option Stand) → stand_of (item_at slab t) ≡ o
          → entries_of t (lists_of slab index rings) ≤ 1
      by_stand None e = omega (
        arith,
        held_le rings.hot,
        held_le rings.cold,
        shade_le,
        out_of_ring slab rings.hot _ t
            sound.hot_ring (λ f. cc),
        out_of_ring slab rings.cold _ t sound.cold_ring
            (λ f. cc),
        out_of_ring slab rings.ghosts _ t sound.ghost_ring (λ f. cc),
        no_still
            (λ f. cc),
        no_loading (λ f. cc),
      )
      by_stand (Some AmongHot) e = omega (
        arith,
        held_le rings.hot,
        sound.hot_ring.once t,
        held_le rings.cold,
        shade_le,
        out_of_ring slab rings.cold _
            t sound.cold_ring (λ f. cc),
        out_of_ring slab rings.ghosts _ t sound.ghost_ring
            (λ f. cc),
        no_still (λ f. cc),
        no_loading (λ f. cc),
      )
      by_stand (Some AmongCold) e = omega (
        arith,
        held_le rings.hot,
        held_le rings.cold,
        sound.cold_ring.once t,
        shade_le,
        out_of_ring slab rings.hot _
            t sound.hot_ring (λ f. cc),
        out_of_ring slab rings.ghosts _ t sound.ghost_ring
            (λ f. cc),
        no_still (λ f. cc),
        no_loading (λ f. cc),
      )
      by_stand (Some AmongStill) e =
          omega (
            arith,
            held_le rings.hot,
            held_le rings.cold,
            shade_le,
            still_le,
            once_upto t
                (length slab.slots),
            out_of_ring slab rings.hot _ t sound.hot_ring
                (λ f. cc),
            out_of_ring slab rings.cold _ t sound.cold_ring
                (λ f. cc),
            out_of_ring slab rings.ghosts _ t sound.ghost_ring (λ f. cc),
            no_loading (λ f. cc),
          )
      by_stand (Some AmongLoading) e =
          omega (
            arith,
            held_le rings.hot,
            held_le rings.cold,
            shade_le,
            loading_le,
            once_upto t
                (length slab.slots),
            out_of_ring slab rings.hot _ t sound.hot_ring
                (λ f. cc),
            out_of_ring slab rings.cold _ t sound.cold_ring
                (λ f. cc),
            out_of_ring slab rings.ghosts _ t sound.ghost_ring (λ f. cc),
            no_still (λ f. cc),
          )
      by_stand (Some AmongGhosts) e =
          omega (
            arith,
            held_le rings.hot,
            held_le rings.cold,
            shade_le,
            sound.ghost_ring.once t,
            out_of_ring slab rings.hot _ t sound.hot_ring (λ f. cc),
            out_of_ring slab rings.cold _ t sound.cold_ring
                (λ f. cc),
            no_still (λ f. cc),
            no_loading (λ f. cc),
          )
