-- An entry left its list, and another came to its token and was put last. It is told by way of a
-- slab that has nothing at the token.
use Rattle.std.proofs.Common.{◌≡◌, ◌≢◌, ℕ, ◌+◌, ◌-◌, ◌<◌, ◌≤◌, length, Bool, eqb, [], Some, None, is_some, true, refl, sym, ap, subst, ◌∙◌}
use Rattle.std.proofs.Common.{inl, inr, arith}
use Rattle.std.proofs.lemmas.Bool.{cases_eq}
use Rattle.quick_cache_store.specs.Pool.{Pool, first_or, next_token, item_at, with_item, removed}
use Rattle.quick_cache_store.proofs.pool.AtTokens.{length-with_token, at_token-with_same, at_token-with_other}
use Rattle.quick_cache_index.specs.Index.{Index, Leads, has_token}
use Rattle.quick_cache_store.specs.Rings.{Rings, CanEnter, entered, LeavesRingOf}
use Rattle.quick_cache_store.specs.declared.slots.entry.Slot.{Slot}
use Rattle.quick_cache_store.specs.Frames.{IsPlaced, IsRemoved}
use Rattle.quick_cache_store.specs.Lists.{Lists, PutsLast, Replaces, without_entry, entry_count}
use Rattle.quick_cache_store.specs.ListSlots.{Stand, stand_of, stand_in, has_hash, weight_in, weight_at, loading_in}
use Rattle.quick_cache_store.specs.Sound.{lists_of, room_of, HasHash, IsKeyed, IsStanding, IsSound}
use Rattle.quick_cache_store.proofs.lists.ApartLemmas.{apart_by}
use Rattle.quick_cache_store.proofs.lists.CountLemmas.{IsLess, IsMore-put, IsLess-without}
use Rattle.quick_cache_store.proofs.lists.PutLemmas.{can_enter, capacity-entered, IsPut, IsPut-by}
use Rattle.quick_cache_store.proofs.lists.SlabFrames.{occupied_within, IsRemoved-from}
use Rattle.quick_cache_store.proofs.lists.TakeLemmas.{IsEntry-from, IsStanding-taken, lists-taken, capacity-taken}

module _ {K V P T : Type 0} (old : Pool (Slot K V P T)) (told : Index) (t : ℕ)
    (restarts : Bool) (rings left : Rings) (loading : ℕ)
    (sound : IsSound old told rings loading) (x y : Slot K V P T)
    (at : item_at old t ≡ Some x) (same_hash : y.hash ≡ x.hash)
    (light : weight_in y.entry < 18446744073709551616) (s : Stand) (v : ℕ)
    (s_is : s ≡ stand_in x.entry) (v_is : v ≡ weight_in x.entry)
    (leaves : LeavesRingOf rings left t restarts v s) where
  -- nothing at the token
  abbrev mid : Pool (Slot K V P T)
  mid = removed old t

  -- an index of which only the room is looked at
  abbrev tmid : Index
  tmid = record told { tokens = []; room = room_of old told rings + 1 }

  -- the other entry at the token
  abbrev other : Pool (Slot K V P T)
  other = with_item old t y

  gone_from : IsRemoved old mid t
  gone_from = IsRemoved-from old mid t x at refl

  stands : stand_of (item_at old t) ≡ Some s
  stands = ap stand_of at ∙ ap (λ (r : Stand). Some r) (sym s_is)

  weighs : v ≡ weight_at (item_at old t)
  weighs = v_is ∙ sym (ap weight_at at)

  less : IsLess (lists_of old told rings) (without_entry restarts t (lists_of old told rings))
      (loading_in (stand_in x.entry))
  less = IsLess-without (lists_of old told rings) t x.hash x.entry restarts
      (apart_by old told rings sound.standing)
      (IsEntry-from old told rings sound.standing t x at)

  capacity : left.capacity ≡ rings.capacity
  capacity = capacity-taken old mid told tmid t restarts rings left v sound.standing gone_from
      weighs s stands leaves

  room_mid : room_of mid tmid left ≡ room_of old told rings + 1
  room_mid = omega (arith, capacity, sound.within, less.all, sound.all_counted)

  lists_mid : lists_of mid tmid left ≡ without_entry restarts t (lists_of old told rings)
  lists_mid = lists-taken old mid told tmid t restarts rings left v sound.standing gone_from
      weighs s stands leaves room_mid

  standing_mid : IsStanding mid left
  standing_mid = IsStanding-taken old mid told tmid t restarts rings left v sound.standing
      gone_from weighs s stands leaves

  within : (0 < t) × (t ≤ length old.slots)
  within = occupied_within old.slots t x at

  here : item_at other t ≡ Some y
  here = at_token-with_same old.slots t (Some y) None within.0 within.1

  others : (u : ℕ) → u ≢ t → item_at other u ≡ item_at old u
  others u differs = at_token-with_other old.slots t u (Some y) None differs

  long : length other.slots ≡ length old.slots
  long = length-with_token old.slots t (Some y)

  placed : IsPlaced mid other t y
  placed = record {
    vacant = gone_from.here;
    here = here;
    others = λ u differs. others u differs ∙ sym (gone_from.others u differs);
    grows = inl (
      long ∙ sym gone_from.long,
      within.0,
      omega (arith, within.1, gone_from.long),
      omega arith,
    );
  }

  lean : (u : ℕ) → weight_at (item_at mid u) < 18446744073709551616
  lean u = elim (cases_eq u t) [
    | inl same ↦ rw (same, gone_from.here) (omega arith)
    | inr differs ↦ rw (gone_from.others u differs) (sound.keyed.light u)
  ]

  -- without the entry each ring is shorter than what it has room for
  pub can_enter-moved : (w : ℕ) → w < 18446744073709551616 → (r : Stand) → CanEnter left w r
  can_enter-moved w lightly r = can_enter mid tmid left standing_mid
      (omega (arith, gone_from.long, sound.keyed.few)) lean
      (omega (arith, ap entry_count lists_mid, less.all, sound.all_counted, sound.within, capacity))
      w lightly r

  keyed : IsKeyed other told
  keyed = record {
    leads = λ h u has. elim (cases_eq u t) [
      | inl same ↦
          let had : HasHash old h t =
          ap (has_hash h) at ∙ ap (λ n. eqb n h) (sym same_hash) ∙ ap (has_hash h) (sym here)
          ∙ subst (λ (z : ℕ). has_hash h (item_at other z) ≡ true) same has in
          subst (λ (z : ℕ). Leads told h z) (sym same) (sound.keyed.leads h t had)
      | inr differs ↦ sound.keyed.leads h u (sym (ap (has_hash h) (others u differs)) ∙ has)
    ];
    tokens = λ u. elim (cases_eq u t) [
      | inl same ↦ subst (λ (z : ℕ). has_token told z ≡ is_some (item_at other z)) (sym same)
          (sound.keyed.tokens t ∙ ap is_some at ∙ sym (ap is_some here))
      | inr differs ↦ sound.keyed.tokens u ∙ ap is_some (sym (others u differs))
    ];
    few = omega (arith, sound.keyed.few, long);
    light = λ u. elim (cases_eq u t) [
      | inl same ↦ rw (same, here) light
      | inr differs ↦ rw (others u differs) (sound.keyed.light u)
    ];
    counted = omega (arith, sound.keyed.counted, long);
  }

  module _ (grown : Rings) (r : Stand) (w : ℕ) (r_is : r ≡ stand_in y.entry)
      (w_is : w ≡ weight_in y.entry) (enters : grown ≡ entered t w r left) where
    is_put : IsPut mid other tmid told t y.hash left y.entry grown
    is_put = rw (enters, r_is, w_is)
        (IsPut-by mid other tmid told t y.hash left standing_mid y.entry placed)

    capacity_grown : grown.capacity ≡ rings.capacity
    capacity_grown =
        ap (λ (g : Rings). g.capacity) enters ∙ capacity-entered t w r left ∙ capacity

    pub last-moved : PutsLast (without_entry restarts t (lists_of old told rings))
        t y.hash y.entry (lists_of (with_item old t y) told grown)
    last-moved = subst (λ (l : Lists K V P). PutsLast l t y.hash y.entry
        (lists_of (with_item old t y) told grown)) lists_mid is_put.1

    pub room-moved : room_of (with_item old t y) told grown ≡ room_of old told rings
    room-moved = omega (arith, capacity_grown)

    pub next-moved : next_token (with_item old t y) ≡ next_token old
    next-moved = ap (λ n. first_or (n + 1) old.free) long

    pub IsSound-moved : (fewer more : ℕ) → fewer ≡ loading_in s → more ≡ loading_in r
        → IsSound (with_item old t y) told grown (loading - fewer + more)
    IsSound-moved fewer more fewer_is more_is =
        let counted = IsMore-put _ _ t y.hash y.entry last-moved in
        record {
          standing = is_put.0;
          keyed = keyed;
          loading_counted = omega (
            arith,
            sound.loading_counted,
            less.waiting,
            counted.waiting,
            fewer_is,
            more_is,
            ap loading_in s_is,
            ap loading_in r_is,
          );
          all_counted = omega (arith, sound.all_counted, less.all, counted.all);
          within = omega (arith, sound.within, capacity_grown);
          bounded = omega (arith, sound.bounded, capacity_grown);
        }

    -- the lists say that the other took its place
    pub Replaces-moved : Replaces (lists_of old told rings) t restarts y.entry x.entry
        (lists_of (with_item old t y) told grown)
    Replaces-moved = record {
      hash = x.hash;
      taken = IsEntry-from old told rings sound.standing t x at;
      last = subst (λ (h : ℕ). PutsLast (without_entry restarts t (lists_of old told rings))
          t h y.entry (lists_of (with_item old t y) told grown)) same_hash last-moved;
      room = room-moved;
      next = next-moved;
    }

    -- neither is a placeholder
    pub IsSound-requeued : loading_in s ≡ 0 → loading_in r ≡ 0
        → IsSound (with_item old t y) told grown loading
    IsSound-requeued none none' =
        let sound' = IsSound-moved 0 0 (sym none) (sym none') in
        record {
          standing = sound'.standing;
          keyed = sound'.keyed;
          loading_counted = omega (arith, sound'.loading_counted);
          all_counted = sound'.all_counted;
          within = sound'.within;
          bounded = sound'.bounded;
        }

  pub loading-kept : loading_in s ≤ loading
  loading-kept = omega (arith, less.waiting, sound.loading_counted, ap loading_in s_is)
