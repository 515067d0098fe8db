-- An item that is written in its place.
use Rattle.std.proofs.Common.{◌≡◌, ◌≢◌, ◌<◌, ◌+◌, [], ◌∷◌, arith, ℕ, subst, ◌==◌, if◌then◌else◌, Bool, true, false, cond, eqb, List, map}
use Rattle.std.proofs.Common.{length, Option, Some, None, is_some, refl, sym, ap, ◌∙◌, inl, inr}
use Rattle.std.proofs.lemmas.Bool.{cases_eq}
use Rattle.quick_cache_model.specs.CacheState.{Item}
use Rattle.quick_cache_model.specs.Sequences.{times}
use Rattle.quick_cache_store.specs.Pool.{Pool, at_token, with_token, item_at, next_token, with_item}
use Rattle.quick_cache_index.specs.Index.{Index}
use Rattle.quick_cache_store.proofs.pool.AtTokens.{at_token-with_same, at_token-with_other, length-with_token}
use Rattle.quick_cache_store.specs.declared.slots.entry.Entry.{Entry}
use Rattle.quick_cache_store.specs.declared.slots.entry.Slot.{Slot}
use Rattle.quick_cache_store.specs.Writes.{Writes, changed_at, changed_to}
use Rattle.quick_cache_store.specs.Rings.{Ring, Rings, ring_reweighed, reweighed}
use Rattle.quick_cache_store.proofs.pool.TokenCounts.{times-here, times-other}
use Rattle.quick_cache_store.specs.Lists.{HeldItem, Lists, with_change, entry_count}
use Rattle.quick_cache_store.specs.ListSlots.{Stand, AmongHot, AmongCold, AmongStill, AmongLoading, AmongGhosts, stand_of, weight_at}
use Rattle.quick_cache_store.specs.ListSlots.{has_hash, item_of, still_of, loading_of, ghost_of, slot_changed, is_item}
use Rattle.quick_cache_store.specs.Sound.{weigh, gather, upto, lists_of, room_of, IsRingOf, IsKeyed, IsStanding, IsSound}
use Rattle.quick_cache_store.proofs.lists.CountLemmas.{entry_count-change}
use Rattle.quick_cache_store.proofs.lists.GatherLemmas.{weigh-same, weigh-member, gather-changed, gather-neither}
use Rattle.quick_cache_store.proofs.lists.SlabFrames.{occupied_within}
use Rattle.quick_cache_store.proofs.lists.SoundLemmas.{IsRingOf-kept}
use Rattle.quick_cache_store.proofs.lists.TakeLemmas.{not_ghosts, named_item, named_still}

module _ {K V : Type 0} where
  abbrev held_with : ℕ → ℕ → Item K V → HeldItem K V
  held_with t hash item = record { token = t; hash = hash; item = item }

  some_held : (t hash : ℕ) (item : Item K V) → Some (held_with t hash item) ≡ None → ⊥
  some_held t hash item e = cc

  still_some : (b c : Bool) → c ≡ b
      → (t hash : ℕ) (item : Item K V) (change : Item K V → Item K V) (y : HeldItem K V)
      → (if b then Some (held_with t hash item) else None) ≡ Some y
      → (if c then Some (held_with t hash (change item)) else None)
      ≡ Some (record y { item = change y.item })
  still_some true c kept t hash item change y e =
      let same : held_with t hash item ≡ y = cc in
      rw kept (ap (λ (h : HeldItem K V). Some (record h { item = change h.item })) same)
  still_some false c kept t hash item change y e = absurd (cc)

  still_none : (b c : Bool) → c ≡ b → (t hash : ℕ) (item other : Item K V)
      → (if b then Some (held_with t hash item) else None) ≡ None
      → (if c then Some (held_with t hash other) else None) ≡ None
  still_none true c kept t hash item other e = absurd (some_held t hash item e)
  still_none false c kept t hash item other e = rw kept refl

module _ {K V P T : Type 0} where
  -- what a slot that is known to have this item becomes
  pub changed_slot : (o : Option (Slot K V P T)) (slot : Slot K V P T) (hash : ℕ) (item : Item K V)
      (change : Item K V → Item K V) → o ≡ Some (record { hash = hash; entry = Entry.Item item })
      → o ≡ Some slot → (is_item slot ≡ true)
      × (slot_changed change slot ≡ record { hash = hash; entry = Entry.Item (change item) })
  changed_slot o slot hash item change is at =
      let same : slot ≡ record { hash = hash; entry = Entry.Item item } = cc in
      (ap is_item same, ap (slot_changed change) same)

  abbrev pub written : (hash : ℕ) (item : Item K V) (t : ℕ) → Pool (Slot K V P T)
      → Pool (Slot K V P T)
  written hash item t old = with_item old t (record { hash = hash; entry = Entry.Item item })

  -- what a write leaves where this item stood
  pub written-by : (old new : Pool (Slot K V P T)) (t hash : ℕ) (item : Item K V)
      (change : Item K V → Item K V) → Writes old new t (slot_changed change)
      → item_at old t ≡ Some (record { hash = hash; entry = Entry.Item item })
      → new ≡ written hash (change item) t old
  written-by old new t hash item change writes at = writes.is ∙ ap (with_item old t)
      (changed_slot (item_at old t) writes.slot hash item change at writes.was).1

  -- the same, where the slot is changed if it is there
  pub changed_at-item : (old : Pool (Slot K V P T)) (t hash : ℕ) (item : Item K V)
      (change : Item K V → Item K V)
      → item_at old t ≡ Some (record { hash = hash; entry = Entry.Item item })
      → changed_at (slot_changed change) t old ≡ written hash (change item) t old
  changed_at-item old t hash item change at =
      ap (λ o. changed_to (slot_changed change) t o old) at

  module _ (old : Pool (Slot K V P T)) (t hash : ℕ) (item : Item K V)
      (change : Item K V → Item K V) (heavy : ((change item).weight == 0) ≡ (item.weight == 0))
      (queue : (change item).queue ≡ item.queue)
      (at : item_at old t ≡ Some (record { hash = hash; entry = Entry.Item item })) where
    stand_same : stand_of {K = K} {V = V} {P = P} {T = T}
        (Some (record { hash = hash; entry = Entry.Item (change item) }))
        ≡ stand_of {K = K} {V = V} {P = P} {T = T}
        (Some (record { hash = hash; entry = Entry.Item item }))
    stand_same = rw (heavy, queue) refl

    here : at_token (with_token old.slots t
        (Some (record { hash = hash; entry = Entry.Item (change item) }))) t None
        ≡ Some (record { hash = hash; entry = Entry.Item (change item) })
    here = let within = occupied_within old.slots t _ at in at_token-with_same old.slots t _ None
        within.0 within.1

    others : (u : ℕ) → u ≢ t → at_token
        (with_token old.slots t (Some (record { hash = hash; entry = Entry.Item (change item) })))
        u None ≡ item_at old u
    others u differs = at_token-with_other old.slots t u _ None differs

    long : length (with_token old.slots t
        (Some (record { hash = hash; entry = Entry.Item (change item) }))) ≡ length old.slots
    long = length-with_token old.slots t _

    -- what is said of a slot and does not speak of its mark
    alike : {X : Type 0} (says : Option (Slot K V P T) → X)
        → says (Some (record { hash = hash; entry = Entry.Item (change item) }))
        ≡ says (Some (record { hash = hash; entry = Entry.Item item })) → (u : ℕ)
        → says (item_at (written hash (change item) t old) u) ≡ says (item_at old u)
    alike says same u = elim (cases_eq u t) [
      | inl is ↦ rw is (ap says here ∙ same ∙ ap says (sym at))
      | inr differs ↦ ap says (others u differs)
    ]

    IsRingOf-changed : (change item).weight ≡ item.weight → (ring : Ring) (s : Stand)
        → IsRingOf old ring s → IsRingOf (written hash (change item) t old) ring s
    IsRingOf-changed weight ring s is = record {
      members = λ u some. alike stand_of stand_same u ∙ is.members u some;
      all = λ u stands. is.all u (sym (alike stand_of stand_same u) ∙ stands);
      once = is.once;
      weighed = is.weighed ∙ sym (weigh-same (λ u. weight_at (item_at old u))
          (λ u. weight_at (item_at (written hash (change item) t old) u)) ring.tokens
          (λ u some. alike weight_at weight u));
    }

    pub IsStanding-changed : (change item).weight ≡ item.weight → (rings : Rings)
        → IsStanding old rings → IsStanding (written hash (change item) t old) rings
    IsStanding-changed weight rings sound = record {
      hot_ring = IsRingOf-changed weight rings.hot _ sound.hot_ring;
      cold_ring = IsRingOf-changed weight rings.cold _ sound.cold_ring;
      ghost_ring = IsRingOf-changed weight rings.ghosts _ sound.ghost_ring;
    }

    pub IsKeyed-changed : (change item).weight < 18446744073709551616 → (index : Index)
        → IsKeyed old index → IsKeyed (written hash (change item) t old) index
    IsKeyed-changed light index keyed = record {
      leads = λ h u has. keyed.leads h u (sym (alike (has_hash h) refl u) ∙ has);
      tokens = λ u. keyed.tokens u ∙ sym (alike is_some refl u);
      few = rw long keyed.few;
      light = λ u. elim (cases_eq u t) [
        | inl is ↦ rw (is, here) light
        | inr differs ↦ rw (others u differs) (keyed.light u)
      ];
      counted = keyed.counted ∙ sym long;
    }

    view-changed : (tokens : List ℕ)
        → gather (λ u. item_of u (item_at (written hash (change item) t old) u)) tokens
        ≡ map (λ y. cond (eqb y.token t) (record y { item = change y.item }) y)
        (gather (λ u. item_of u (item_at old u)) tokens)
    view-changed tokens =
        gather-changed (λ h. h.token) (λ u. item_of u (item_at old u))
        (λ u. item_of u (item_at (written hash (change item) t old) u)) t
        (λ y. record y { item = change y.item })
        (λ u y is. named_item u (item_at old u) y is)
        (λ u differs. ap (item_of u) (others u differs))
        (λ y is.
        let was : Some (held_with t hash item) ≡ Some y = sym (ap (item_of t) at) ∙ is in
        let same : held_with t hash item ≡ y = cc in
        ap (item_of t) here ∙ ap (λ (h : HeldItem K V). Some (record h { item = change h.item }))
        same)
        (λ none. absurd (some_held t hash item (sym (ap (item_of t) at) ∙ none)))
        tokens

    view-still : (tokens : List ℕ)
        → gather (λ u. still_of u (item_at (written hash (change item) t old) u)) tokens
        ≡ map (λ y. cond (eqb y.token t) (record y { item = change y.item }) y)
        (gather (λ u. still_of u (item_at old u)) tokens)
    view-still tokens =
        gather-changed (λ h. h.token) (λ u. still_of u (item_at old u))
        (λ u. still_of u (item_at (written hash (change item) t old) u)) t
        (λ y. record y { item = change y.item })
        (λ u y is. named_still u (item_at old u) y is)
        (λ u differs. ap (still_of u) (others u differs))
        (λ y is. ap (still_of t) here ∙ still_some (item.weight == 0)
        ((change item).weight == 0) heavy t hash item change y (sym (ap (still_of t) at) ∙ is))
        (λ none. ap (still_of t) here ∙ still_none (item.weight == 0)
        ((change item).weight == 0) heavy t hash item (change item)
        (sym (ap (still_of t) at) ∙ none))
        tokens

    pub lists-changed : (index : Index) (rings : Rings)
        → lists_of (written hash (change item) t old) index rings
        ≡ with_change t change (lists_of old index rings)
    lists-changed index rings =
        let hot_is = view-changed rings.hot.tokens in
        let cold_is = view-changed rings.cold.tokens in
        let still_is = ap (λ n. gather
        (λ u. still_of u (item_at (written hash (change item) t old) u)) (upto n)) long
        ∙ view-still (upto (length old.slots)) in
        let loading_is = ap (λ n. gather
        (λ u. loading_of u (item_at (written hash (change item) t old) u)) (upto n)) long
        ∙ gather-neither (λ u. loading_of u (item_at old u))
        (λ u. loading_of u (item_at (written hash (change item) t old) u)) t
        (upto (length old.slots)) (λ u differs. ap (loading_of u) (others u differs))
        (ap (loading_of t) at) (ap (loading_of t) here) in
        let ghosts_is = gather-neither (λ u. ghost_of u (item_at old u))
        (λ u. ghost_of u (item_at (written hash (change item) t old) u)) t
        rings.ghosts.tokens (λ u differs. ap (ghost_of u) (others u differs))
        (ap (ghost_of t) at) (ap (ghost_of t) here) in
        let next_is : next_token (written hash (change item) t old) ≡ next_token old =
        rw long refl in
        let room_is : room_of (written hash (change item) t old) index rings
        ≡ room_of old index rings = refl in
        λ i. record {
          hot = hot_is i;
          cold = cold_is i;
          still = still_is i;
          loading = loading_is i;
          ghosts = ghosts_is i;
          next = next_is i;
          room = room_is i;
        }

    pub IsSound-changed : (change item).weight ≡ item.weight
        → (index : Index) (rings : Rings) (loading : ℕ) → IsSound old index rings loading
        → IsSound (written hash (change item) t old) index rings loading
    IsSound-changed weight index rings loading sound =
        let same = lists-changed index rings in
        let before = lists_of old index rings in
        let waiting = ap (λ (l : Lists K V P). length l.loading) same in
        let all = ap entry_count same in
        record {
          standing = IsStanding-changed weight rings sound.standing;
          keyed = IsKeyed-changed (omega (arith, weight, sound.keyed.light t, ap weight_at at))
              index sound.keyed;
          loading_counted = sound.loading_counted ∙ sym waiting;
          all_counted = all ∙ entry_count-change t change before ∙ sound.all_counted;
          within = sound.within;
          bounded = sound.bounded;
        }

    -- ---- another weight, in the same list

    weigh-one : (xs : List ℕ) → times t xs ≡ 1
        → weigh (λ u. weight_at (item_at (written hash (change item) t old) u)) xs + item.weight
        ≡ weigh (λ u. weight_at (item_at old u)) xs + (change item).weight
    weigh-one [] one = absurd (omega (arith, one))
    weigh-one (x ∷ xs) one = elim (cases_eq x t) [
      | inl is ↦
          let out : times t xs ≡ 0 = omega
          (arith, one, ap (times t) (ap (λ (n : ℕ). n ∷ xs) is), times-here t xs) in
          let rest = weigh-same (λ u. weight_at (item_at old u))
          (λ u. weight_at (item_at (written hash (change item) t old) u)) xs
          (λ u some. ap weight_at (others u
          (λ e. omega (arith, some, subst (λ (w : ℕ). times w xs ≡ 0) (sym e) out)))) in
          omega (
            arith,
            rest,
            ap (λ u. weight_at (item_at old u)) is,
            ap weight_at at,
            ap
                (λ u. weight_at (item_at (written hash (change item) t old) u)) is,
            ap weight_at
                here,
          )
      | inr differs ↦ omega (
        arith,
        weigh-one xs
            (omega (arith, one, times-other t x xs differs)),
        ap weight_at (others x differs),
      )
    ]

    IsRingOf-own : (ring : Ring) (s : Stand) → stand_of (item_at old t) ≡ Some s
        → IsRingOf old ring s → IsRingOf (written hash (change item) t old)
        (ring_reweighed item.weight (change item).weight ring) s
    IsRingOf-own ring s own is = record {
      members = λ u some. alike stand_of stand_same u ∙ is.members u some;
      all = λ u stands. is.all u (sym (alike stand_of stand_same u) ∙ stands);
      once = is.once;
      weighed =
          let one : times t ring.tokens ≡ 1 = omega (arith, is.all t own, is.once t) in
          omega (
            arith,
            weigh-one ring.tokens one,
            is.weighed,
            weigh-member (λ u. weight_at (item_at old u)) t ring.tokens (is.all t own),
            ap weight_at at,
          );
    }

    IsRingOf-off : (ring : Ring) (s : Stand) → stand_of (item_at old t) ≢ Some s
        → IsRingOf old ring s → IsRingOf (written hash (change item) t old) ring s
    IsRingOf-off ring s off is = IsRingOf-kept old (written hash (change item) t old) t others ring
        s off (λ same. off (sym (alike stand_of stand_same t) ∙ same)) is

    off_of : (s r : Stand) → stand_of (item_at old t) ≡ Some s → s ≢ r
        → stand_of (item_at old t) ≢ Some r
    off_of s r is differs same = differs (some_stand s r (sym is ∙ same))
      where
        some_stand : (a b : Stand) → Some a ≡ Some b → a ≡ b
        some_stand a b e = cc

    IsStanding-reweighed : (rings : Rings) (s : Stand) → stand_of (item_at old t) ≡ Some s
        → IsStanding old rings → IsStanding (written hash (change item) t old)
        (reweighed item.weight (change item).weight s rings)
    IsStanding-reweighed rings AmongHot is sound = record {
      hot_ring = IsRingOf-own rings.hot AmongHot is sound.hot_ring;
      cold_ring = IsRingOf-off rings.cold AmongCold
          (off_of AmongHot AmongCold is (λ e. cc)) sound.cold_ring;
      ghost_ring = IsRingOf-off rings.ghosts AmongGhosts
          (off_of AmongHot AmongGhosts is (λ e. cc)) sound.ghost_ring;
    }
    IsStanding-reweighed rings AmongCold is sound = record {
      hot_ring = IsRingOf-off rings.hot AmongHot
          (off_of AmongCold AmongHot is (λ e. cc)) sound.hot_ring;
      cold_ring = IsRingOf-own rings.cold AmongCold is sound.cold_ring;
      ghost_ring = IsRingOf-off rings.ghosts AmongGhosts
          (off_of AmongCold AmongGhosts is (λ e. cc)) sound.ghost_ring;
    }
    IsStanding-reweighed rings AmongGhosts is sound =
        absurd (not_ghosts (item.weight == 0) item.queue (some_stand (sym (ap stand_of at) ∙ is)))
      where
        some_stand : {a b : Stand} → Some a ≡ Some b → a ≡ b
        some_stand e = cc
    IsStanding-reweighed rings AmongStill is sound = record {
      hot_ring = IsRingOf-off rings.hot AmongHot
          (off_of AmongStill AmongHot is (λ e. cc)) sound.hot_ring;
      cold_ring = IsRingOf-off rings.cold AmongCold
          (off_of AmongStill AmongCold is (λ e. cc)) sound.cold_ring;
      ghost_ring = IsRingOf-off rings.ghosts AmongGhosts
          (off_of AmongStill AmongGhosts is (λ e. cc)) sound.ghost_ring;
    }
    IsStanding-reweighed rings AmongLoading is sound = record {
      hot_ring = IsRingOf-off rings.hot AmongHot
          (off_of AmongLoading AmongHot is (λ e. cc)) sound.hot_ring;
      cold_ring = IsRingOf-off rings.cold AmongCold
          (off_of AmongLoading AmongCold is (λ e. cc)) sound.cold_ring;
      ghost_ring = IsRingOf-off rings.ghosts AmongGhosts
          (off_of AmongLoading AmongGhosts is (λ e. cc)) sound.ghost_ring;
    }

    -- no list changes but for the item
    pub lists-reweighed : (index : Index) (rings : Rings) (s : Stand)
        → lists_of (written hash (change item) t old) index
        (reweighed item.weight (change item).weight s rings)
        ≡ with_change t change (lists_of old index rings)
    lists-reweighed index rings AmongHot = lists-changed index rings
    lists-reweighed index rings AmongCold = lists-changed index rings
    lists-reweighed index rings AmongGhosts = lists-changed index rings
    lists-reweighed index rings AmongStill = lists-changed index rings
    lists-reweighed index rings AmongLoading = lists-changed index rings

    capacity-reweighed : (rings : Rings) (s : Stand)
        → (reweighed item.weight (change item).weight s rings).capacity ≡ rings.capacity
    capacity-reweighed rings AmongHot = refl
    capacity-reweighed rings AmongCold = refl
    capacity-reweighed rings AmongGhosts = refl
    capacity-reweighed rings AmongStill = refl
    capacity-reweighed rings AmongLoading = refl

    pub IsSound-reweighed : (change item).weight < 18446744073709551616
        → (index : Index) (rings : Rings) (loading : ℕ) (s : Stand)
        → stand_of (item_at old t) ≡ Some s → IsSound old index rings loading
        → IsSound (written hash (change item) t old) index
        (reweighed item.weight (change item).weight s rings) loading
    IsSound-reweighed light index rings loading s is sound =
        let same = lists-reweighed index rings s in
        let before = lists_of old index rings in
        record {
          standing = IsStanding-reweighed rings s is sound.standing;
          keyed = IsKeyed-changed light index sound.keyed;
          loading_counted = sound.loading_counted
              ∙ sym (ap (λ (l : Lists K V P). length l.loading) same);
          all_counted = ap entry_count same ∙ entry_count-change t change before
              ∙ sound.all_counted;
          within = omega (arith, sound.within, capacity-reweighed rings s);
          bounded = omega (arith, sound.bounded, capacity-reweighed rings s);
        }
