-- What holds of the slots, before and after.
use Rattle.std.proofs.Common.{◌≡◌, ◌≢◌, ℕ, zero, suc, ◌+◌, ◌*◌, ◌<◌, ◌≤◌, ◌||◌, Bool, true≢false, is_some, List, [], ◌∷◌, ◌++◌, length}
use Rattle.std.proofs.Common.{Option, Some, None, refl, sym, ap, subst, ◌∙◌, inl, inr, arith}
use Rattle.std.proofs.lemmas.Bool.{cases_eq, eq-eqb, eqb-true, ne_eqb}
use Rattle.quick_cache_model.specs.Sequences.{times}
use Rattle.quick_cache_store.specs.Pool.{Pool, item_at, spare}
use Rattle.quick_cache_index.specs.Index.{Index, HasNone, Leads, has_token, token_count}
use Rattle.quick_cache_store.proofs.pool.AtTokens.{at_token-past}
use Rattle.quick_cache_store.proofs.pool.TokenCounts.{zero_from_none, times-here, times-other, times-append, length_once}
use Rattle.quick_cache_store.specs.Queues.{Leaves}
use Rattle.quick_cache_store.specs.Rings.{Ring, Rings, no_ring, joined, IsLeft}
use Rattle.quick_cache_store.specs.declared.slots.entry.Slot.{Slot}
use Rattle.quick_cache_store.specs.Frames.{IsPlaced}
use Rattle.quick_cache_store.specs.ListSlots.{Stand, AmongHot, AmongCold, AmongGhosts, stand_of, has_hash, weight_in, weight_at}
use Rattle.quick_cache_store.specs.Sound.{weigh, slot_room, AddsToken, IsRingOf, IsKeyed, IsStanding}
use Rattle.quick_cache_store.proofs.lists.GatherLemmas.{weigh-append, weigh-same, weigh-member, weigh-light, weigh-around, times-around}
use Rattle.quick_cache_store.proofs.lists.SlabFrames.{occupied_within}

item_at-empty : {S : Type 0} (slab : Pool S) (t : ℕ) → slab.slots ≡ [] → item_at slab t ≡ None
item_at-empty slab zero none = refl
item_at-empty slab (suc i) none = rw none (at_token-past [] (suc i) None (omega arith))

module _ {K V P T : Type 0} where
  IsRingOf-empty : (slab : Pool (Slot K V P T)) (s : Stand) → slab.slots ≡ []
      → IsRingOf slab no_ring s
  IsRingOf-empty slab s none = record {
    members = λ t some. absurd (omega (arith, some));
    all = λ t is. let e = item_at-empty slab t none in absurd (stand-none (item_at slab t) s e is);
    once = λ t. omega arith;
    weighed = refl;
  }
    where
      stand-none : (o : Option (Slot K V P T)) (r : Stand) → o ≡ None → stand_of o ≡ Some r → ⊥
      stand-none None r e is = absurd (cc)
      stand-none (Some x) r e is = absurd (cc)

  pub IsStanding-empty : (slab : Pool (Slot K V P T)) (rings : Rings) → slab.slots ≡ []
      → rings.hot ≡ no_ring → rings.cold ≡ no_ring → rings.ghosts ≡ no_ring → IsStanding slab rings
  IsStanding-empty slab rings none hot cold ghosts = record {
    hot_ring = rw hot (IsRingOf-empty slab AmongHot none);
    cold_ring = rw cold (IsRingOf-empty slab AmongCold none);
    ghost_ring = rw ghosts (IsRingOf-empty slab AmongGhosts none);
  }

  pub IsKeyed-empty : (slab : Pool (Slot K V P T)) (index : Index) → slab.slots ≡ []
      → slab.free ≡ [] → HasNone index → token_count index ≡ 0 → IsKeyed slab index
  IsKeyed-empty slab index none free empty count = record {
    leads = λ h t has.
        absurd (true≢false (sym has ∙ ap (has_hash h) (item_at-empty slab t none)));
    tokens = λ t. empty t ∙ sym (ap is_some (item_at-empty slab t none));
    few = rw none (omega arith);
    light = λ t. rw (item_at-empty slab t none) (omega arith);
    counted = rw (none, free, count) (omega arith);
  }

  -- ---- what has no entry is in no ring

  pub vacant-stand : (slab : Pool (Slot K V P T)) (t : ℕ) (r : Stand) → item_at slab t ≡ None
      → stand_of (item_at slab t) ≢ Some r
  vacant-stand slab t r none is = by_item (item_at slab t) none is
    where
      by_item : (o : Option (Slot K V P T)) → o ≡ None → stand_of o ≡ Some r → ⊥
      by_item None e f = absurd (cc)
      by_item (Some x) e f = absurd (cc)

  pub out_of_ring : (slab : Pool (Slot K V P T)) (ring : Ring) (r : Stand) (t : ℕ)
      → IsRingOf slab ring r → stand_of (item_at slab t) ≢ Some r → times t ring.tokens ≡ 0
  out_of_ring slab ring r t is differs = zero_from_none _ (λ some. differs (is.members t some))

  -- ---- an entry came, left or changed at one token

  module _ (old new : Pool (Slot K V P T)) (t : ℕ)
      (others : (u : ℕ) → u ≢ t → item_at new u ≡ item_at old u) where
    -- it stands in another list, before and after
    pub IsRingOf-kept : (ring : Ring) (r : Stand) → stand_of (item_at old t) ≢ Some r
        → stand_of (item_at new t) ≢ Some r → IsRingOf old ring r → IsRingOf new ring r
    IsRingOf-kept ring r off off' is = record {
      members = λ u some. ap stand_of (others u (other u (is.members u some)))
          ∙ is.members u some;
      all = λ u stands. is.all u (sym (ap stand_of (others u (other' u stands))) ∙ stands);
      once = is.once;
      weighed = is.weighed ∙ sym (weigh-same (λ u. weight_at (item_at old u))
          (λ u. weight_at (item_at new u)) ring.tokens
          (λ u some. ap weight_at (others u (other u (is.members u some)))));
    }
      where
        other : (u : ℕ) → stand_of (item_at old u) ≡ Some r → u ≢ t
        other u stands same =
            off (subst (λ (w : ℕ). stand_of (item_at old w) ≡ Some r) same stands)

        other' : (u : ℕ) → stand_of (item_at new u) ≡ Some r → u ≢ t
        other' u stands same =
            off' (subst (λ (w : ℕ). stand_of (item_at new w) ≡ Some r) same stands)

    -- it came to the list
    pub IsRingOf-joined : (ring : Ring) (r : Stand) (w : ℕ) → stand_of (item_at old t) ≢ Some r
        → stand_of (item_at new t) ≡ Some r → w ≡ weight_at (item_at new t)
        → IsRingOf old ring r → IsRingOf new (joined t w ring) r
    IsRingOf-joined ring r w off here weighs is = record {
      members = λ u some. elim (cases_eq u t) [
        | inl same ↦ subst (λ (v : ℕ). stand_of (item_at new v) ≡ Some r) (sym same) here
        | inr differs ↦ ap stand_of (others u differs) ∙ is.members u (omega (
          arith,
          some,
          counts u,
          times-other u t [] (λ same. differs (sym same)),
        ))
      ];
      all = λ u stands. elim (cases_eq u t) [
        | inl same ↦ omega (
          arith,
          counts u,
          subst (λ (v : ℕ). times v (t ∷ []) ≡ 1) (sym same) (times-here t []),
        )
        | inr differs ↦ omega (
          arith,
          is.all u (sym (ap stand_of (others u differs)) ∙ stands),
          counts u,
        )
      ];
      once = λ u. elim (cases_eq u t) [
        | inl same ↦ subst (λ (v : ℕ). times v (ring.tokens ++ t ∷ []) ≤ 1) (sym same)
            (omega (arith, out_of_ring old ring r t is off, counts t, times-here t []))
        | inr differs ↦ omega (
          arith,
          is.once u,
          counts u,
          times-other u t [] (λ same. differs (sym same)),
        )
      ];
      weighed = omega (
        arith,
        is.weighed,
        weighs,
        weigh-append (λ u. weight_at (item_at new u)) ring.tokens (t ∷ []),
        weigh-same (λ u. weight_at (item_at old u))
            (λ u. weight_at (item_at new u)) ring.tokens
            (λ u some. ap weight_at (others u (inside u some))),
      );
    }
      where
        counts : (u : ℕ) → times u (ring.tokens ++ t ∷ [])
            ≡ times u ring.tokens + times u (t ∷ [])
        counts u = times-append u ring.tokens (t ∷ [])

        inside : (u : ℕ) → 0 < times u ring.tokens → u ≢ t
        inside u some same =
            off (subst (λ (v : ℕ). stand_of (item_at old v) ≡ Some r) same (is.members u some))

    -- it left the list
    pub IsRingOf-left : (ring left : Ring) (r : Stand) (restarts : Bool) (w : ℕ)
        → stand_of (item_at new t) ≢ Some r → w ≡ weight_at (item_at old t)
        → IsRingOf old ring r → IsLeft ring left t restarts w → IsRingOf new left r
    IsRingOf-left ring left r restarts w off weighs is leaves = record {
      members = λ u some.
          let differs = among u some in
          ap stand_of (others u differs) ∙ is.members u (omega (arith, some, was u, now u));
      all = λ u stands.
          let differs : u ≢ t =
          λ same. off (subst (λ (v : ℕ). stand_of (item_at new v) ≡ Some r) same stands) in
          omega (
            arith,
            is.all u (sym (ap stand_of (others u differs)) ∙ stands),
            was u,
            now u,
            times-other u t l.after (λ same. differs (sym same)),
          );
      once = λ u. omega (arith, is.once u, was u, now u);
      weighed = omega (
        arith,
        leaves.weighed,
        weighs,
        is.weighed,
        ap (weigh (λ u. weight_at (item_at old u))) l.split,
        weigh-append (λ u. weight_at (item_at old u)) l.before (t ∷ l.after),
        ap (weigh (λ u. weight_at (item_at new u))) l.left,
        weigh-around (λ u. weight_at (item_at new u)) restarts l.before l.after,
        same_weights l.before (λ u some. omega (arith, some, now u)),
        same_weights l.after (λ u some. omega (arith, some, now u)),
      );
    }
      where
        l : Leaves restarts ring.tokens t left.tokens
        l = leaves.leaves

        was : (u : ℕ) → times u ring.tokens ≡ times u l.before + times u (t ∷ l.after)
        was u = ap (times u) l.split ∙ times-append u l.before (t ∷ l.after)

        now : (u : ℕ) → times u left.tokens ≡ times u l.before + times u l.after
        now u = ap (times u) l.left ∙ times-around u restarts l.before l.after

        gone : times t left.tokens ≡ 0
        gone = omega (arith, is.once t, was t, now t, times-here t l.after)

        among : (u : ℕ) → 0 < times u left.tokens → u ≢ t
        among u some same = omega (
          arith,
          some,
          subst (λ (v : ℕ). times v left.tokens ≡ 0) (sym same) gone,
        )

        same_weights : (xs : List ℕ) → ((u : ℕ) → 0 < times u xs → 0 < times u left.tokens)
            → weigh (λ u. weight_at (item_at new u)) xs
            ≡ weigh (λ u. weight_at (item_at old u)) xs
        same_weights xs inside = weigh-same (λ u. weight_at (item_at old u))
            (λ u. weight_at (item_at new u)) xs
            (λ u some. ap weight_at (others u (among u (inside u some))))

  -- ---- a new entry is found by its hash

  module _ (old new : Pool (Slot K V P T)) (t : ℕ) (x : Slot K V P T)
      (placed : IsPlaced old new t x) where
    pub IsKeyed-placed : (told tnew : Index) → IsKeyed old told → AddsToken told tnew x.hash t
        → t ≤ 4294967295 → weight_in x.entry < 18446744073709551616 → IsKeyed new tnew
    IsKeyed-placed told tnew keyed adds low lean = record {
      leads = λ h u has. elim (cases_eq u t) [
        | inl here ↦
            let at : item_at new u ≡ Some x = ap (λ (w : ℕ). item_at new w) here ∙ placed.here in
            let same : x.hash ≡ h = eqb-true x.hash h (sym (ap (has_hash h) at) ∙ has) in
            subst (λ (n : ℕ). Leads tnew n u) same
            (subst (λ (w : ℕ). Leads tnew x.hash w) (sym here) adds.leads)
        | inr other ↦ adds.kept h u
            (keyed.leads h u (sym (ap (has_hash h) (placed.others u other)) ∙ has))
      ];
      tokens = λ u. elim (cases_eq u t) [
        | inl here ↦
            let at : item_at new u ≡ Some x = ap (λ (w : ℕ). item_at new w) here ∙ placed.here in
            adds.tokens u ∙ ap (λ (b : Bool). b || has_token told u) (eq-eqb u t here)
            ∙ sym (ap is_some at)
        | inr other ↦ adds.tokens u
            ∙ ap (λ (b : Bool). b || has_token told u) (ne_eqb u t other)
            ∙ keyed.tokens u ∙ ap is_some (sym (placed.others u other))
      ];
      few = elim placed.grows [
        | inl same ↦ omega (arith, same.0, keyed.few)
        | inr more ↦ omega (arith, more.0, more.1)
      ];
      light = λ u. elim (cases_eq u t) [
        | inl same ↦ rw (same, placed.here) lean
        | inr other ↦ rw (placed.others u other) (keyed.light u)
      ];
      counted = elim placed.grows [
        | inl same ↦ omega (arith, same.0, same.3, keyed.counted, adds.count)
        | inr more ↦ omega (
          arith,
          more.0,
          ap length more.2,
          ap length more.3,
          keyed.counted,
          adds.count,
        )
      ];
    }

    pub room-placed : (told tnew : Index) → (0 < spare old → spare new + 1 ≡ spare old)
        → tnew.room + 1 ≡ told.room → 0 < slot_room old told
        → slot_room new tnew + 1 ≡ slot_room old told
    room-placed told tnew takes fewer some = omega (arith, takes (omega (arith, some)), fewer, some)

  -- ---- what a ring can have

  -- a ring is no longer than the slots
  ring_short : (slab : Pool (Slot K V P T)) (ring : Ring) (r : Stand)
      → IsRingOf slab ring r → length ring.tokens ≤ length slab.slots
  ring_short slab ring r is = length_once ring.tokens (length slab.slots) is.once within
    where
      within : (u : ℕ) → 0 < times u ring.tokens → (0 < u) × (u ≤ length slab.slots)
      within u some = by_item (item_at slab u) refl (is.members u some)
        where
          by_item : (o : Option (Slot K V P T)) → item_at slab u ≡ o → stand_of o ≡ Some r → (0 < u)
              × (u ≤ length slab.slots)
          by_item None e f = absurd (cc)
          by_item (Some x) e f = occupied_within slab.slots u x e

  -- a ring can take one more weight
  pub ring_light : (slab : Pool (Slot K V P T)) (ring : Ring) (r : Stand)
      → length slab.slots ≤ 4294967295
      → ((t : ℕ) → weight_at (item_at slab t) < 18446744073709551616) → IsRingOf slab ring r
      → ring.weight ≤ 4294967295 * 18446744073709551616
  ring_light slab ring r few light is =
      omega (
        arith,
        is.weighed,
        weigh-light (λ u. weight_at (item_at slab u)) ring.tokens light,
        ring_short slab ring r is,
        few,
      )

  -- a ring weighs no less than its member
  pub ring_weighs : (slab : Pool (Slot K V P T)) (ring : Ring) (r : Stand) (t : ℕ)
      → IsRingOf slab ring r → stand_of (item_at slab t) ≡ Some r
      → weight_at (item_at slab t) ≤ ring.weight
  ring_weighs slab ring r t is stands =
      omega (
        arith,
        is.weighed,
        weigh-member (λ u. weight_at (item_at slab u)) t ring.tokens (is.all t stands),
      )
