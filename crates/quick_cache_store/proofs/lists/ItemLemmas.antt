-- The item of a token, and room that grew.
use Rattle.std.proofs.Common.{◌≡◌, ℕ, ◌+◌, ◌≤◌, [], Option, Some, None, true, length, refl, sym, ap, subst, ◌∙◌, arith}
use Rattle.std.proofs.lemmas.Bool.{eq-eqb}
use Rattle.quick_cache_model.specs.CacheState.{Item, Place, InHot, InCold, InStill}
use Rattle.quick_cache_store.specs.Pool.{Pool, item_at, next_token}
use Rattle.quick_cache_index.specs.Index.{Index, token_count}
use Rattle.quick_cache_store.specs.declared.slots.entry.Entry.{Entry}
use Rattle.quick_cache_store.specs.declared.slots.entry.Slot.{Slot}
use Rattle.quick_cache_store.specs.Rings.{Ring, Rings}
use Rattle.std.specs.Int.NonZero.{non_zero_u32_get}
use Rattle.std.specs.declared.num.NonZeroU32.{NonZeroU32 as Token}
use Rattle.quick_cache_store.specs.Lists.{HeldItem, StandsIn, items_at, HasItem, HasItemToken, HasItemUnder, IsFirstOf}
use Rattle.quick_cache_store.specs.ListSlots.{Stand, AmongHot, AmongCold, AmongGhosts, stand_of, has_hash, item_of, still_of, loading_of}
use Rattle.quick_cache_store.specs.ListSlots.{ghost_of}
use Rattle.quick_cache_store.specs.Sound.{gather, upto, lists_of, room_of, slot_room, IsKeyed, IsRingOf, IsSound}
use Rattle.quick_cache_store.proofs.lists.GatherLemmas.{gather-from}
use Rattle.quick_cache_store.proofs.lists.FindLemmas.{held_still}
use Rattle.quick_cache_store.proofs.lists.TakeLemmas.{named_item}

module _ {K V P T : Type 0} where
  slot_by_held : (u : ℕ) (o : Option (Slot K V P T)) (held : HeldItem K V) → item_of u o ≡ Some held
      → (hash : ℕ) × (item : Item K V)
      × (o ≡ Some (record { hash = hash; entry = Entry.Item item }))
  slot_by_held u None held is = absurd (cc)
  slot_by_held u (Some slot) held is = by_entry slot.hash slot.entry is
    where
      by_entry : (hash : ℕ) (entry : Entry K V P T)
          → item_of u (Some (record { hash = hash; entry = entry })) ≡ Some held → (h : ℕ)
          × (item : Item K V) × ◌≡◌ {A = Option (Slot K V P T)}
          (Some (record { hash = hash; entry = entry }))
          (Some (record { hash = h; entry = Entry.Item item }))
      by_entry hash (Entry.Item item) e = (hash, item, refl)
      by_entry hash (Entry.Loading awaited) e = absurd (cc)
      by_entry hash Entry.Ghost e = absurd (cc)

  hash_by_held : (u : ℕ) (o : Option (Slot K V P T)) (held : HeldItem K V)
      → item_of u o ≡ Some held → has_hash held.hash o ≡ true
  hash_by_held u None held is = absurd (cc)
  hash_by_held u (Some slot) held is = by_entry slot.hash slot.entry is
    where
      by_entry : (hash : ℕ) (entry : Entry K V P T)
          → item_of u (Some (record { hash = hash; entry = entry })) ≡ Some held
          → has_hash held.hash (Some (record { hash = hash; entry = entry })) ≡ true
      by_entry hash (Entry.Item item) e =
          let same : record { token = u; hash = hash; item = item } ≡ held = cc in
          eq-eqb hash held.hash (ap (λ (h : HeldItem K V). h.hash) same)
      by_entry hash (Entry.Loading awaited) e = absurd (cc)
      by_entry hash Entry.Ghost e = absurd (cc)

  module _ (slab : Pool (Slot K V P T)) (index : Index) (rings : Rings) where
    -- the hash that an item was found under is that of its slot
    pub hash_by_token : (t hash : ℕ) → HasItemUnder (lists_of slab index rings) t hash
        → has_hash hash (item_at slab t) ≡ true
    hash_by_token t hash has = by_place has.1.place has.1.stands
      where
        held : HeldItem K V
        held = record { token = t; hash = hash; item = has.0 }

        found : (u : ℕ) → item_of u (item_at slab u) ≡ Some held
            → has_hash hash (item_at slab t) ≡ true
        found u is = rw (sym (named_item u (item_at slab u) held is)) at
            (hash_by_held u (item_at slab u) held is)

        by_place : (place : Place) → StandsIn (items_at place (lists_of slab index rings)) held
            → has_hash hash (item_at slab t) ≡ true
        by_place InHot there =
            let at = gather-from (λ u. item_of u (item_at slab u)) rings.hot.tokens held there in
            found at.0 at.2
        by_place InCold there =
            let at = gather-from (λ u. item_of u (item_at slab u)) rings.cold.tokens held there in
            found at.0 at.2
        by_place InStill there =
            let at = gather-from (λ u. still_of u (item_at slab u)) (upto (length slab.slots)) held
            there in
            found at.0 (held_still (item_of at.0 (item_at slab at.0)) held at.2)

    pub item_by_token : (t : ℕ) → HasItemToken (lists_of slab index rings) t → (hash : ℕ)
        × (item : Item K V) × (item_at slab t
        ≡ Some (record { hash = hash; entry = Entry.Item item }))
    item_by_token t has = by_place has.0 has.1.place has.1.stands has.2
      where
        found : (u : ℕ) (held : HeldItem K V) → item_of u (item_at slab u) ≡ Some held
            → held.token ≡ t → (hash : ℕ) × (item : Item K V)
            × (item_at slab t ≡ Some (record { hash = hash; entry = Entry.Item item }))
        found u held is at = rw (sym (named_item u (item_at slab u) held is) ∙ at) at
            (slot_by_held u (item_at slab u) held is)

        by_place : (held : HeldItem K V) (place : Place)
            → StandsIn (items_at place (lists_of slab index rings)) held → held.token ≡ t
            → (hash : ℕ) × (item : Item K V)
            × (item_at slab t ≡ Some (record { hash = hash; entry = Entry.Item item }))
        by_place held InHot there e =
            let at = gather-from (λ u. item_of u (item_at slab u))
            rings.hot.tokens held there in
            found at.0 held at.2 e
        by_place held InCold there e =
            let at = gather-from (λ u. item_of u (item_at slab u))
            rings.cold.tokens held there in
            found at.0 held at.2 e
        by_place held InStill there e =
            let at = gather-from (λ u. still_of u (item_at slab u))
            (upto (length slab.slots)) held there in
            found at.0 held (held_still (item_of at.0 (item_at slab at.0)) held at.2) e

    -- the first cold item stands in the cold ring
    pub stand_of-first_cold : IsRingOf slab rings.cold AmongCold → (token : Token)
        → IsFirstOf (λ (held : HeldItem K V). held.token)
        (lists_of slab index rings).cold (Some token)
        → stand_of (item_at slab (non_zero_u32_get token)) ≡ Some AmongCold
    stand_of-first_cold ring token first =
        let at = gather-from (λ u. item_of u (item_at slab u)) rings.cold.tokens first.0
        (record { before = []; after = first.1; split = first.2 }) in
        let is : at.0 ≡ non_zero_u32_get token =
        sym (named_item at.0 (item_at slab at.0) first.0 at.2) ∙ first.3 in
        subst (λ (u : ℕ). stand_of (item_at slab u) ≡ Some AmongCold) is (ring.members at.0 at.1)

    -- and its slot has an item
    pub first_cold-item : (token : Token) → IsFirstOf (λ (held : HeldItem K V). held.token)
        (lists_of slab index rings).cold (Some token) → (hash : ℕ) × (item : Item K V)
        × (item_at slab (non_zero_u32_get token)
        ≡ Some (record { hash = hash; entry = Entry.Item item }))
    first_cold-item token first =
        let at = gather-from (λ u. item_of u (item_at slab u)) rings.cold.tokens first.0
        (record { before = []; after = first.1; split = first.2 }) in
        let is : at.0 ≡ non_zero_u32_get token =
        sym (named_item at.0 (item_at slab at.0) first.0 at.2) ∙ first.3 in
        subst (λ (u : ℕ). (hash : ℕ) × (item : Item K V)
        × (item_at slab u ≡ Some (record { hash = hash; entry = Entry.Item item }))) is
        (slot_by_held at.0 (item_at slab at.0) first.0 at.2)

  -- there is one slot
  pub one_slot : (o : Option (Slot K V P T)) (slot other : Slot K V P T) → o ≡ Some slot
      → o ≡ Some other → slot ≡ other
  one_slot o slot other is at = cc

  pub item_is : (o : Option (Slot K V P T)) (slot : Slot K V P T) (hash : ℕ) (item : Item K V)
      → o ≡ Some (record { hash = hash; entry = Entry.Item item }) → o ≡ Some slot
      → slot.entry ≡ Entry.Item item
  item_is o slot hash item is at =
      let same : slot ≡ record { hash = hash; entry = Entry.Item item } = cc in
      ap (λ (s : Slot K V P T). s.entry) same

  pub slot_is : (o : Option (Slot K V P T)) (slot : Slot K V P T) (hash : ℕ) (item : Item K V)
      → o ≡ Some (record { hash = hash; entry = Entry.Item item }) → o ≡ Some slot
      → slot ≡ record { hash = hash; entry = Entry.Item item }
  slot_is o slot hash item is at = cc

  pub lists-reserved : (old new : Pool (Slot K V P T)) (told tnew : Index)
      (rings grown : Rings) → new ≡ record old { room = new.room }
      → grown ≡ record rings { capacity = grown.capacity }
      → lists_of new tnew grown
      ≡ record (lists_of old told rings) { room = room_of new tnew grown }
  lists-reserved old new told tnew rings grown kept same = λ i. record {
    hot = gather (λ u. item_of u (item_at (kept i) u)) (same i).hot.tokens;
    cold = gather (λ u. item_of u (item_at (kept i) u)) (same i).cold.tokens;
    still = gather (λ u. still_of u (item_at (kept i) u)) (upto (length (kept i).slots));
    loading = gather (λ u. loading_of u (item_at (kept i) u)) (upto (length (kept i).slots));
    ghosts = gather (λ u. ghost_of u (item_at (kept i) u)) (same i).ghosts.tokens;
    next = next_token (kept i);
    room = room_of new tnew grown;
  }

  -- the room of the slots is nothing to the tokens of an index
  pub IsKeyed-grown : (old new : Pool (Slot K V P T)) (index : Index)
      → new ≡ record old { room = new.room } → IsKeyed old index → IsKeyed new index
  IsKeyed-grown old new index kept keyed =
      subst (λ (s : Pool (Slot K V P T)). IsKeyed s index) (sym kept) (record {
        leads = keyed.leads;
        tokens = keyed.tokens;
        few = keyed.few;
        light = keyed.light;
        counted = keyed.counted;
      })

  -- as many tokens are in each index that has those of all slots
  pub token_count-keyed : (old new : Pool (Slot K V P T)) (told tnew : Index)
      → new ≡ record old { room = new.room } → IsKeyed old told → IsKeyed new tnew
      → token_count tnew ≡ token_count told
  token_count-keyed old new told tnew kept was is =
      omega (
        arith,
        was.counted,
        is.counted,
        ap (λ (s : Pool (Slot K V P T)). length s.free) kept,
        ap (λ (s : Pool (Slot K V P T)). length s.slots) kept,
      )

  IsSound-room : (slab : Pool (Slot K V P T)) (room : ℕ) (told tnew : Index)
      (rings : Rings) (capacity loading : ℕ) → IsKeyed (record slab { room = room }) tnew
      → token_count tnew ≡ token_count told → rings.capacity ≤ capacity
      → capacity ≤ token_count tnew + slot_room (record slab { room = room }) tnew
      → IsSound slab told rings loading
      → IsSound (record slab { room = room }) tnew (record rings { capacity = capacity }) loading
  IsSound-room slab room told tnew rings capacity loading keyed count grows bounded sound = record {
    standing = record {
      hot_ring = kept rings.hot AmongHot sound.standing.hot_ring;
      cold_ring = kept rings.cold AmongCold sound.standing.cold_ring;
      ghost_ring = kept rings.ghosts AmongGhosts sound.standing.ghost_ring;
    };
    keyed = keyed;
    loading_counted = sound.loading_counted;
    all_counted = sound.all_counted ∙ sym count;
    within = omega (arith, sound.within, count, grows);
    bounded = bounded;
  }
    where
      kept : (ring : Ring) (s : Stand) → IsRingOf slab ring s
          → IsRingOf (record slab { room = room }) ring s
      kept ring s is = record {
        members = is.members;
        all = is.all;
        once = is.once;
        weighed = is.weighed;
      }

  -- slots and index with more room have it for all that the rings can have
  pub bounded-grown : (old new : Pool (Slot K V P T)) (told tnew : Index) (capacity : ℕ)
      → new ≡ record old { room = new.room } → old.room ≤ new.room → told.room ≤ tnew.room
      → capacity ≤ token_count told + slot_room old told
      → capacity ≤ token_count told + slot_room new tnew
  bounded-grown old new told tnew capacity kept grows more bounded =
      omega (
        arith,
        ap (λ (s : Pool (Slot K V P T)). length s.free) kept,
        grows,
        more,
        bounded,
      )

  -- what holds of the slots holds with more room, and with another index that has their tokens
  pub IsSound-grown : (old new : Pool (Slot K V P T)) (told tnew : Index)
      (rings grown : Rings) (loading : ℕ) → new ≡ record old { room = new.room }
      → grown ≡ record rings { capacity = grown.capacity } → rings.capacity ≤ grown.capacity
      → grown.capacity ≤ token_count told + slot_room new tnew
      → IsKeyed new tnew → IsSound old told rings loading → IsSound new tnew grown loading
  IsSound-grown old new told tnew rings grown loading kept same grows bounded keyed sound =
      let count = token_count-keyed old new told tnew kept sound.keyed keyed in
      subst (λ (r : Rings). IsSound new tnew r loading) (sym same)
      (subst (λ (s : Pool (Slot K V P T)). IsSound s tnew
      (record rings { capacity = grown.capacity }) loading) (sym kept)
      (IsSound-room old new.room told tnew rings grown.capacity loading
      (subst (λ (s : Pool (Slot K V P T)). IsKeyed s tnew) kept keyed) count grows
      (subst (λ (s : Pool (Slot K V P T)). grown.capacity ≤ token_count tnew + slot_room s tnew)
      kept (omega (arith, bounded, count))) sound))

  slot_of_held : (u : ℕ) (o : Option (Slot K V P T)) (held : HeldItem K V) → item_of u o ≡ Some held
      → o ≡ Some (record { hash = held.hash; entry = Entry.Item held.item })
  slot_of_held u None held is = absurd (cc)
  slot_of_held u (Some slot) held is = by_entry slot.hash slot.entry is
    where
      by_entry : (hash : ℕ) (entry : Entry K V P T)
          → item_of u (Some (record { hash = hash; entry = entry })) ≡ Some held
          → ◌≡◌ {A = Option (Slot K V P T)} (Some (record { hash = hash; entry = entry }))
          (Some (record { hash = held.hash; entry = Entry.Item held.item }))
      by_entry hash (Entry.Item item) e =
          let same : record { token = u; hash = hash; item = item } ≡ held =
          cc in ap (λ (h : HeldItem K V). Some
          (record { hash = h.hash; entry = Entry.Item h.item })) same
      by_entry hash (Entry.Loading awaited) e = absurd (cc)
      by_entry hash Entry.Ghost e = absurd (cc)

  -- an item is in the slot of its token
  pub item_at-held : (slab : Pool (Slot K V P T)) (index : Index) (rings : Rings)
      (held : HeldItem K V) → HasItem (lists_of slab index rings) held
      → item_at slab held.token ≡ Some (record { hash = held.hash; entry = Entry.Item held.item })
  item_at-held slab index rings held has = by_place has.place has.stands
    where
      found : (u : ℕ) → item_of u (item_at slab u) ≡ Some held
          → item_at slab held.token ≡ Some
          (record { hash = held.hash; entry = Entry.Item held.item })
      found u is = ap (item_at slab) (named_item u (item_at slab u) held is)
          ∙ slot_of_held u (item_at slab u) held is

      by_place : (place : Place) → StandsIn
          (items_at place (lists_of slab index rings)) held
          → item_at slab held.token ≡ Some
          (record { hash = held.hash; entry = Entry.Item held.item })
      by_place InHot there =
          let at = gather-from (λ u. item_of u (item_at slab u))
          rings.hot.tokens held there in found at.0 at.2
      by_place InCold there =
          let at = gather-from (λ u. item_of u (item_at slab u))
          rings.cold.tokens held there in found at.0 at.2
      by_place InStill there =
          let at = gather-from (λ u. still_of u (item_at slab u))
          (upto (length slab.slots)) held there in
          found at.0 (held_still (item_of at.0 (item_at slab at.0)) held at.2)
