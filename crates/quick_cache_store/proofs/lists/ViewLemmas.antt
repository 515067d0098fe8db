-- What the lists show, before and after an entry comes.
use Rattle.std.proofs.Common.{◌≡◌, ◌≢◌, ℕ, ◌==◌, true, false, List, [], ◌∷◌, ◌++◌, length, Option, Some, None, refl, sym, ap, subst, ◌∙◌}
use Rattle.std.proofs.Common.{inl, inr, arith}
use Rattle.std.specs.List.Sorted.{IsPermutation}
use Rattle.std.proofs.lemmas.List.Sorted.{IsPermutation-refl, IsPermutation-trans, IsPermutation-to_front}
use Rattle.quick_cache_model.specs.CacheState.{Item, Place, InHot, InCold, InStill, place_of_item}
use Rattle.quick_cache_model.specs.Sequences.{times}
use Rattle.quick_cache_store.specs.Pool.{Pool, item_at, next_token}
use Rattle.quick_cache_index.specs.Index.{Index}
use Rattle.quick_cache_model.specs.declared.queue.Queue.{Queue}
use Rattle.quick_cache_store.specs.Rings.{Ring, Rings, joined}
use Rattle.quick_cache_store.specs.declared.slots.entry.Entry.{Entry}
use Rattle.quick_cache_store.specs.declared.slots.entry.Awaited.{Awaited}
use Rattle.quick_cache_store.specs.declared.slots.entry.Slot.{Slot}
use Rattle.quick_cache_store.specs.Lists.{HeldItem, HeldLoading, Lists, items_at, with_items, entered, SameButOrder}
use Rattle.quick_cache_store.specs.Frames.{IsPlaced}
use Rattle.quick_cache_store.specs.ListSlots.{Stand, AmongHot, AmongCold, AmongStill, AmongLoading, AmongGhosts, stand_of, weight_at}
use Rattle.quick_cache_store.specs.ListSlots.{item_of, still_of, loading_of, ghost_of}
use Rattle.quick_cache_store.specs.Sound.{gather, upto, lists_of, room_of, IsRingOf, IsStanding}
use Rattle.quick_cache_store.proofs.lists.GatherLemmas.{times-upto, times-upto_past, gather-other, gather-push, gather-push_none}
use Rattle.quick_cache_store.proofs.lists.GatherLemmas.{gather-neither, gather-more}
use Rattle.quick_cache_store.proofs.lists.SoundLemmas.{vacant-stand, out_of_ring, IsRingOf-kept, IsRingOf-joined}

module _ {K V P T Y : Type 0} (shows : ℕ → Option (Slot K V P T) → Option Y)
    (nothing : (u : ℕ) → shows u None ≡ None) (old new : Pool (Slot K V P T)) (t : ℕ)
    (x : Slot K V P T) (placed : IsPlaced old new t x) where
  others_same : (u : ℕ) → u ≢ t → shows u (item_at new u) ≡ shows u (item_at old u)
  others_same u differs = ap (shows u) (placed.others u differs)

  -- a list that the token is not in
  view-kept : (tokens : List ℕ) → times t tokens ≡ 0
      → gather (λ u. shows u (item_at new u)) tokens ≡ gather (λ u. shows u (item_at old u)) tokens
  view-kept tokens out =
      gather-other (λ u. shows u (item_at old u))
      (λ u. shows u (item_at new u)) t tokens others_same out

  view-pushed : (tokens : List ℕ) (y : Y) → times t tokens ≡ 0 → shows t (Some x) ≡ Some y
      → gather (λ u. shows u (item_at new u)) (tokens ++ t ∷ [])
      ≡ gather (λ u. shows u (item_at old u)) tokens ++ y ∷ []
  view-pushed tokens y out is =
      gather-push (λ u. shows u (item_at old u))
      (λ u. shows u (item_at new u)) t tokens y others_same out
      (ap (shows t) placed.here ∙ is)

  was_none : shows t (item_at old t) ≡ None
  was_none = ap (shows t) placed.vacant ∙ nothing t

  -- of all slots
  view-none : shows t (Some x) ≡ None
      → gather (λ u. shows u (item_at new u)) (upto (length new.slots))
      ≡ gather (λ u. shows u (item_at old u)) (upto (length old.slots))
  view-none is =
      let now : shows t (item_at new t) ≡ None = ap (shows t) placed.here ∙ is in
      elim placed.grows [
        | inl same ↦ rw same.0 (gather-neither (λ u. shows u (item_at old u))
            (λ u. shows u (item_at new u)) t (upto (length old.slots)) others_same was_none now)
        | inr more ↦
            let out = times-upto_past t (length old.slots) (omega (arith, more.1)) in
            rw (more.0, ← more.1) (gather-push_none (λ u. shows u (item_at old u))
            (λ u. shows u (item_at new u)) t (upto (length old.slots)) others_same out now)
      ]

  view-more : (y : Y) → shows t (Some x) ≡ Some y
      → IsPermutation (gather (λ u. shows u (item_at old u)) (upto (length old.slots)) ++ y ∷ [])
      (gather (λ u. shows u (item_at new u)) (upto (length new.slots)))
  view-more y is =
      let now : shows t (item_at new t) ≡ Some y = ap (shows t) placed.here ∙ is in
      elim placed.grows [
        | inl same ↦
            rw same.0 (IsPermutation-trans _ _ _
            (IsPermutation-to_front (gather (λ u. shows u (item_at old u))
            (upto (length old.slots))) y)
            (gather-more (λ u. shows u (item_at old u)) (λ u. shows u (item_at new u)) t
            (upto (length old.slots)) y others_same
            (times-upto t (length old.slots) same.1 same.2) was_none now))
        | inr more ↦
            let out = times-upto_past t (length old.slots) (omega (arith, more.1)) in
            let pushed : gather (λ u. shows u (item_at new u)) (upto (length new.slots))
            ≡ gather (λ u. shows u (item_at old u)) (upto (length old.slots)) ++ y ∷ [] =
            rw (more.0, ← more.1) (gather-push (λ u. shows u (item_at old u))
            (λ u. shows u (item_at new u)) t (upto (length old.slots)) y others_same out now) in
            rw pushed (IsPermutation-refl _)
      ]

module _ {K V P : Type 0} where
  pub same_lists : (old new : Lists K V P) → new.hot ≡ old.hot → new.cold ≡ old.cold
      → new.ghosts ≡ old.ghosts → new.next ≡ old.next → new.room ≡ old.room
      → new ≡ record old { still = new.still; loading = new.loading }
  same_lists old new hot cold ghosts next room =
      λ i. record {
        hot = hot i;
        cold = cold i;
        still = new.still;
        loading = new.loading;
        ghosts = ghosts i;
        next = next i;
        room = room i;
      }

module _ {K V P T : Type 0} (old new : Pool (Slot K V P T)) (t : ℕ) (x : Slot K V P T)
    (placed : IsPlaced old new t x) where
  out_of-vacant : (ring : Ring) (r : Stand) → IsRingOf old ring r → times t ring.tokens ≡ 0
  out_of-vacant ring r is =
      out_of_ring old ring r t is (vacant-stand old t r placed.vacant)

  -- what a ring shows that the token does not come to
  held-kept : (ring : Ring) (r : Stand) → IsRingOf old ring r
      → gather (λ u. item_of u (item_at new u)) ring.tokens
      ≡ gather (λ u. item_of u (item_at old u)) ring.tokens
  held-kept ring r is = view-kept item_of (λ u. refl) old new t x placed ring.tokens
      (out_of-vacant ring r is)

  shade-kept : (ring : Ring) (r : Stand) → IsRingOf old ring r
      → gather (λ u. ghost_of u (item_at new u)) ring.tokens
      ≡ gather (λ u. ghost_of u (item_at old u)) ring.tokens
  shade-kept ring r is = view-kept ghost_of (λ u. refl) old new t x placed ring.tokens
      (out_of-vacant ring r is)

  module _ (s : Stand) (stands : stand_of (Some x) ≡ Some s) where
    ring-kept : (ring : Ring) (r : Stand) → s ≢ r → IsRingOf old ring r → IsRingOf new ring r
    ring-kept ring r differs is = IsRingOf-kept old new t placed.others ring r
        (vacant-stand old t r placed.vacant)
        (λ same. differs (some-same (sym stands ∙ sym (ap stand_of placed.here) ∙ same))) is
      where
        some-same : {a b : Stand} → Some a ≡ Some b → a ≡ b
        some-same e = cc

    ring-joined : (ring : Ring) (w : ℕ) → w ≡ weight_at (Some x) → IsRingOf old ring s
        → IsRingOf new (joined t w ring) s
    ring-joined ring w weighs is = IsRingOf-joined old new t placed.others ring s w
        (vacant-stand old t s placed.vacant) (ap stand_of placed.here ∙ stands)
        (weighs ∙ sym (ap weight_at placed.here)) is

module _ {K V P T : Type 0} where
  -- the slot of an item
  abbrev pub slot_with : ℕ → Item K V → Slot K V P T
  slot_with hash item = record { hash = hash; entry = Entry.Item item }

  -- ---- an item comes to the hot ring

  module _ (old new : Pool (Slot K V P T)) (told tnew : Index) (t hash : ℕ)
      (item : Item K V) (rings : Rings) (sound : IsStanding old rings)
      (placed : IsPlaced old new t (record { hash = hash; entry = Entry.Item item }))
      (weighs : (item.weight == 0) ≡ false) where
    no_still : still_of t (Some (slot_with hash item)) ≡ None
    no_still = rw weighs refl

    module _ (of : item.queue ≡ Queue.Hot) where
      abbrev pub with_hot : Rings
      with_hot = record rings { hot = joined t item.weight rings.hot }

      is_hot : stand_of (Some (slot_with hash item)) ≡ Some AmongHot
      is_hot = rw (weighs, of) refl

      pub IsStanding-put_hot : IsStanding new with_hot
      IsStanding-put_hot = record {
        hot_ring = ring-joined old new t _ placed AmongHot is_hot rings.hot item.weight refl
            sound.hot_ring;
        cold_ring = ring-kept old new t _ placed AmongHot is_hot rings.cold AmongCold (λ e. cc)
            sound.cold_ring;
        ghost_ring = ring-kept old new t _ placed AmongHot is_hot rings.ghosts AmongGhosts (λ e. cc)
            sound.ghost_ring;
      }

      pub lists-put_hot : lists_of new tnew with_hot
          ≡ record (entered (record { token = t; hash = hash; item = item })
          (lists_of old told rings)) { next = next_token new; room = room_of new tnew with_hot }
      lists-put_hot =
          let held : HeldItem K V = record { token = t; hash = hash; item = item } in
          let before = lists_of old told rings in
          let after = lists_of new tnew with_hot in
          let in_hot : place_of_item item ≡ InHot = rw (weighs, of) refl in
          let still = view-none still_of (λ u. refl) old new t _ placed no_still in
          let loading = view-none loading_of (λ u. refl) old new t _ placed refl in
          let hot_is = view-pushed item_of (λ u. refl) old new t _ placed rings.hot.tokens held
          (out_of-vacant old new t _ placed rings.hot AmongHot sound.hot_ring) refl in
          let cold_is = held-kept old new t _ placed rings.cold AmongCold sound.cold_ring in
          let ghosts_is = shade-kept old new t _ placed rings.ghosts AmongGhosts sound.ghost_ring in
          let R : Place → Type 0 = λ p. after
          ≡ record (with_items p (items_at p before ++ held ∷ []) before)
          { next = next_token new; room = room_of new tnew with_hot } in
          subst R (sym in_hot) (λ i. record {
            hot = hot_is i;
            cold = cold_is i;
            still = still i;
            loading = loading i;
            ghosts = ghosts_is i;
            next = next_token new;
            room = room_of new tnew with_hot;
          })

    -- ---- to the cold ring

    module _ (of : item.queue ≡ Queue.Cold) where
      abbrev pub with_cold : Rings
      with_cold = record rings { cold = joined t item.weight rings.cold }

      is_cold : stand_of (Some (slot_with hash item)) ≡ Some AmongCold
      is_cold = rw (weighs, of) refl

      pub IsStanding-put_cold : IsStanding new with_cold
      IsStanding-put_cold = record {
        hot_ring = ring-kept old new t _ placed AmongCold is_cold rings.hot AmongHot (λ e. cc)
            sound.hot_ring;
        cold_ring = ring-joined old new t _ placed AmongCold is_cold rings.cold item.weight refl
            sound.cold_ring;
        ghost_ring = ring-kept old new t _ placed AmongCold is_cold rings.ghosts AmongGhosts
            (λ e. cc) sound.ghost_ring;
      }

      pub lists-put_cold : lists_of new tnew with_cold
          ≡ record (entered (record { token = t; hash = hash; item = item })
          (lists_of old told rings)) { next = next_token new; room = room_of new tnew with_cold }
      lists-put_cold =
          let held : HeldItem K V = record { token = t; hash = hash; item = item } in
          let before = lists_of old told rings in
          let after = lists_of new tnew with_cold in
          let in_cold : place_of_item item ≡ InCold = rw (weighs, of) refl in
          let still = view-none still_of (λ u. refl) old new t _ placed no_still in
          let loading = view-none loading_of (λ u. refl) old new t _ placed refl in
          let hot_is = held-kept old new t _ placed rings.hot AmongHot sound.hot_ring in
          let cold_is = view-pushed item_of (λ u. refl) old new t _ placed rings.cold.tokens held
          (out_of-vacant old new t _ placed rings.cold AmongCold sound.cold_ring) refl in
          let ghosts_is = shade-kept old new t _ placed rings.ghosts AmongGhosts sound.ghost_ring in
          let R : Place → Type 0 = λ p. after
          ≡ record (with_items p (items_at p before ++ held ∷ []) before)
          { next = next_token new; room = room_of new tnew with_cold } in
          subst R (sym in_cold) (λ i. record {
            hot = hot_is i;
            cold = cold_is i;
            still = still i;
            loading = loading i;
            ghosts = ghosts_is i;
            next = next_token new;
            room = room_of new tnew with_cold;
          })

  -- ---- beside the rings

  module _ (old new : Pool (Slot K V P T)) (told tnew : Index) (t hash : ℕ)
      (item : Item K V) (rings : Rings) (sound : IsStanding old rings)
      (placed : IsPlaced old new t (record { hash = hash; entry = Entry.Item item }))
      (weightless : (item.weight == 0) ≡ true) where
    is_still : stand_of (Some (slot_with hash item)) ≡ Some AmongStill
    is_still = rw weightless refl

    pub IsStanding-put_still : IsStanding new rings
    IsStanding-put_still = record {
      hot_ring = ring-kept old new t _ placed AmongStill is_still rings.hot AmongHot (λ e. cc)
          sound.hot_ring;
      cold_ring = ring-kept old new t _ placed AmongStill is_still rings.cold AmongCold (λ e. cc)
          sound.cold_ring;
      ghost_ring = ring-kept old new t _ placed AmongStill is_still rings.ghosts AmongGhosts
          (λ e. cc) sound.ghost_ring;
    }

    pub loading-put_still : (lists_of new tnew rings).loading ≡ (lists_of old told rings).loading
    loading-put_still = view-none loading_of (λ u. refl) old new t _ placed refl

    pub SameButOrder-put_still : SameButOrder
        (record (entered (record { token = t; hash = hash; item = item })
        (lists_of old told rings)) { next = next_token new; room = room_of new tnew rings })
        (lists_of new tnew rings)
    SameButOrder-put_still =
        let held : HeldItem K V = record { token = t; hash = hash; item = item } in
        let before = lists_of old told rings in
        let after = lists_of new tnew rings in
        let in_still : place_of_item item ≡ InStill = rw weightless refl in
        let hot_is = held-kept old new t _ placed rings.hot AmongHot sound.hot_ring in
        let cold_is = held-kept old new t _ placed rings.cold AmongCold sound.cold_ring in
        let ghosts_is = shade-kept old new t _ placed rings.ghosts AmongGhosts sound.ghost_ring in
        let R : Place → Type 0 = λ p. SameButOrder
        (record (with_items p (items_at p before ++ held ∷ []) before)
        { next = next_token new; room = room_of new tnew rings }) after in
        subst R (sym in_still) (record {
          still = view-more still_of (λ u. refl) old new t _ placed held (rw weightless refl);
          loading = rw loading-put_still (IsPermutation-refl before.loading);
          same = same_lists (record before {
            still = before.still ++ held ∷ [];
            next = next_token new;
            room = room_of new tnew rings;
          }) after hot_is cold_is ghosts_is refl refl;
        })

  -- ---- among the ghosts

  module _ (old new : Pool (Slot K V P T)) (told tnew : Index) (t hash : ℕ) (rings : Rings)
      (sound : IsStanding old rings)
      (placed : IsPlaced old new t (record { hash = hash; entry = Entry.Ghost })) where
    abbrev pub with_ghost : Rings
    with_ghost = record rings { ghosts = joined t 0 rings.ghosts }

    pub IsStanding-put_ghost : IsStanding new with_ghost
    IsStanding-put_ghost = record {
      hot_ring = ring-kept old new t _ placed AmongGhosts refl rings.hot AmongHot (λ e. cc)
          sound.hot_ring;
      cold_ring = ring-kept old new t _ placed AmongGhosts refl rings.cold AmongCold (λ e. cc)
          sound.cold_ring;
      ghost_ring = ring-joined old new t _ placed AmongGhosts refl rings.ghosts 0 refl
          sound.ghost_ring;
    }

    pub lists-put_ghost : lists_of new tnew with_ghost
        ≡ record (lists_of old told rings) {
          ghosts = (lists_of old told rings).ghosts ++ record { token = t; hash = hash } ∷ [];
          next = next_token new;
          room = room_of new tnew with_ghost;
        }
    lists-put_ghost =
        let still = view-none still_of (λ u. refl) old new t _ placed refl in
        let loading = view-none loading_of (λ u. refl) old new t _ placed refl in
        let hot_is = held-kept old new t _ placed rings.hot AmongHot sound.hot_ring in
        let cold_is = held-kept old new t _ placed rings.cold AmongCold sound.cold_ring in
        let ghosts_is = view-pushed ghost_of (λ u. refl) old new t _ placed rings.ghosts.tokens
        (record { token = t; hash = hash })
        (out_of-vacant old new t _ placed rings.ghosts AmongGhosts sound.ghost_ring) refl in
        λ i. record {
          hot = hot_is i;
          cold = cold_is i;
          still = still i;
          loading = loading i;
          ghosts = ghosts_is i;
          next = next_token new;
          room = room_of new tnew with_ghost;
        }

  -- ---- a placeholder, beside the rings

  module _ (old new : Pool (Slot K V P T)) (told tnew : Index) (t hash : ℕ)
      (awaited : Awaited K P) (rings : Rings) (sound : IsStanding old rings)
      (placed : IsPlaced old new t (record { hash = hash; entry = Entry.Loading awaited })) where
    pub IsStanding-put_loading : IsStanding new rings
    IsStanding-put_loading = record {
      hot_ring = ring-kept old new t _ placed AmongLoading refl rings.hot AmongHot (λ e. cc)
          sound.hot_ring;
      cold_ring = ring-kept old new t _ placed AmongLoading refl rings.cold AmongCold (λ e. cc)
          sound.cold_ring;
      ghost_ring = ring-kept old new t _ placed AmongLoading refl rings.ghosts AmongGhosts (λ e. cc)
          sound.ghost_ring;
    }

    pub still-put_loading : (lists_of new tnew rings).still ≡ (lists_of old told rings).still
    still-put_loading = view-none still_of (λ u. refl) old new t _ placed refl

    pub SameButOrder-put_loading : SameButOrder
        (record (lists_of old told rings) {
          loading = (lists_of old told rings).loading
              ++ record {
                token = t;
                hash = hash;
                key = awaited.key;
                queue = awaited.queue;
                placeholder = awaited.placeholder;
              } ∷ [];
          next = next_token new;
          room = room_of new tnew rings;
        }) (lists_of new tnew rings)
    SameButOrder-put_loading =
        let held : HeldLoading K P = record {
          token = t;
          hash = hash;
          key = awaited.key;
          queue = awaited.queue;
          placeholder = awaited.placeholder;
        } in
        let before = lists_of old told rings in
        let after = lists_of new tnew rings in
        let hot_is = held-kept old new t _ placed rings.hot AmongHot sound.hot_ring in
        let cold_is = held-kept old new t _ placed rings.cold AmongCold sound.cold_ring in
        let ghosts_is = shade-kept old new t _ placed rings.ghosts AmongGhosts sound.ghost_ring in
        record {
          still = rw still-put_loading (IsPermutation-refl before.still);
          loading = view-more loading_of (λ u. refl) old new t _ placed held refl;
          same = same_lists (record before {
            loading = before.loading ++ held ∷ [];
            next = next_token new;
            room = room_of new tnew rings;
          }) after hot_is cold_is ghosts_is refl refl;
        }
