-- An entry was put last.
use Rattle.std.proofs.Common.{◌≡◌, ℕ, ◌+◌, ◌<◌, ◌≤◌, List, [], ◌∷◌, ◌++◌, length, ◌==◌, if◌then◌else◌, Bool, true, false, refl, sym, ap}
use Rattle.std.proofs.Common.{subst, ◌∙◌, arith, true≢false}
use Rattle.std.proofs.lemmas.List.Sorted.{IsPermutation-refl}
use Rattle.quick_cache_model.specs.CacheState.{Place, InHot, InCold, InStill, place_of_item, ring_place}
use Rattle.quick_cache_model.specs.declared.queue.Queue.{Queue}
use Rattle.quick_cache_store.specs.Pool.{Pool, item_at, next_token}
use Rattle.quick_cache_index.specs.Index.{Index, token_count}
use Rattle.quick_cache_store.specs.Rings.{Ring, Rings, CanJoin, CanEnter, entered}
use Rattle.quick_cache_store.specs.declared.slots.entry.Entry.{Entry}
use Rattle.quick_cache_store.specs.Frames.{IsPlaced}
use Rattle.quick_cache_store.specs.declared.slots.entry.Slot.{Slot}
use Rattle.quick_cache_store.specs.Lists.{HeldItem, Lists, items_at, with_items, with_last, is_placeholder, is_weightless, PutsLast}
use Rattle.quick_cache_store.specs.Lists.{entry_count}
use Rattle.quick_cache_store.specs.ListSlots.{Stand, AmongHot, AmongCold, AmongStill, AmongLoading, AmongGhosts, stand_in, weight_in}
use Rattle.quick_cache_store.specs.ListSlots.{weight_at, loading_in}
use Rattle.quick_cache_store.specs.Sound.{lists_of, room_of, slot_room, IsRingOf, IsKeyed, IsStanding, IsSound}
use Rattle.quick_cache_store.proofs.lists.CountLemmas.{IsMore-put}
use Rattle.quick_cache_store.proofs.lists.SoundLemmas.{ring_light}
use Rattle.quick_cache_store.proofs.lists.TurnLemmas.{count_held, count_ghosts}
use Rattle.quick_cache_store.proofs.lists.ViewLemmas.{same_lists, IsStanding-put_hot, IsStanding-put_cold, IsStanding-put_still}
use Rattle.quick_cache_store.proofs.lists.ViewLemmas.{IsStanding-put_loading, IsStanding-put_ghost, lists-put_hot, lists-put_cold}
use Rattle.quick_cache_store.proofs.lists.ViewLemmas.{lists-put_ghost, SameButOrder-put_still, SameButOrder-put_loading, loading-put_still}
use Rattle.quick_cache_store.proofs.lists.ViewLemmas.{still-put_loading}

module _ {K V P : Type 0} where
  pub with_items-loading : (p : Place) (xs : List (HeldItem K V)) (lists : Lists K V P)
      → (with_items p xs lists).loading ≡ lists.loading
  with_items-loading InHot xs lists = refl
  with_items-loading InCold xs lists = refl
  with_items-loading InStill xs lists = refl

  with_items-still : (b : Bool) (q : Queue) (xs : Place → List (HeldItem K V))
      (lists : Lists K V P) → b ≡ false
      → (with_items (if b then InStill else ring_place q)
      (xs (if b then InStill else ring_place q)) lists).still ≡ lists.still
  with_items-still true q xs lists weighs = absurd (true≢false weighs)
  with_items-still false Queue.Hot xs lists weighs = refl
  with_items-still false Queue.Cold xs lists weighs = refl

-- the room of the rings stays
pub capacity-entered : (t w : ℕ) (s : Stand) (rings : Rings)
    → (entered t w s rings).capacity ≡ rings.capacity
capacity-entered t w AmongHot rings = refl
capacity-entered t w AmongCold rings = refl
capacity-entered t w AmongGhosts rings = refl
capacity-entered t w AmongStill rings = refl
capacity-entered t w AmongLoading rings = refl

module _ {K V P T : Type 0} where
  -- ---- it can enter its ring: no ring is longer than all lists together

  module _ (slab : Pool (Slot K V P T)) (index : Index) (rings : Rings)
      (standing : IsStanding slab rings) (short : length slab.slots ≤ 4294967295)
      (lean : (t : ℕ) → weight_at (item_at slab t) < 18446744073709551616)
      (few : entry_count (lists_of slab index rings) < rings.capacity) (w : ℕ)
      (light : w < 18446744073709551616) where
    can_join : (ring : Ring) (r : Stand) → IsRingOf slab ring r
        → length ring.tokens < rings.capacity → CanJoin ring rings.capacity w
    can_join ring r is fewer = record {
      few = fewer;
      light = omega (arith, ring_light slab ring r short lean is, light);
    }

    pub can_enter : (s : Stand) → CanEnter rings w s
    can_enter AmongHot = can_join rings.hot AmongHot standing.hot_ring (omega (
      arith,
      few,
      count_held slab rings.hot AmongHot (λ e. cc) (λ e. cc) standing.hot_ring,
    ))
    can_enter AmongCold = can_join rings.cold AmongCold standing.cold_ring (omega (
      arith,
      few,
      count_held slab rings.cold AmongCold (λ e. cc) (λ e. cc) standing.cold_ring,
    ))
    can_enter AmongGhosts = can_join rings.ghosts AmongGhosts standing.ghost_ring (omega (
      arith,
      few,
      count_ghosts slab rings.ghosts standing.ghost_ring,
    ))
    can_enter AmongStill = tt
    can_enter AmongLoading = tt

  -- ---- what it is not put among stays

  with_last-loading : (t hash : ℕ) (entry : Entry K V P T) (lists : Lists K V P)
      → is_placeholder entry ≡ false → (with_last t hash entry lists).loading ≡ lists.loading
  with_last-loading t hash (Entry.Item item) lists is =
      with_items-loading (place_of_item item) _ lists
  with_last-loading t hash (Entry.Loading awaited) lists is = absurd (true≢false is)
  with_last-loading t hash Entry.Ghost lists is = refl

  with_last-still : (t hash : ℕ) (entry : Entry K V P T) (lists : Lists K V P)
      → is_weightless entry ≡ false → (with_last t hash entry lists).still ≡ lists.still
  with_last-still t hash (Entry.Item item) lists is =
      with_items-still (item.weight == 0) item.queue (λ p. items_at p lists
      ++ record { token = t; hash = hash; item = item } ∷ []) lists is
  with_last-still t hash (Entry.Loading awaited) lists is = refl
  with_last-still t hash Entry.Ghost lists is = refl

  -- ---- it stands last

  module _ (old new : Pool (Slot K V P T)) (told tnew : Index) (t hash : ℕ)
      (rings : Rings) where
    abbrev before : Lists K V P
    before = lists_of old told rings

    abbrev pub IsPut : Entry K V P T → Rings → Type 0
    IsPut entry grown =
        IsStanding new grown × PutsLast before t hash entry (lists_of new tnew grown)

    in_ring : (entry : Entry K V P T) (grown : Rings)
        → lists_of new tnew grown ≡ record (with_last t hash entry before)
        { next = next_token new; room = room_of new tnew grown }
        → PutsLast before t hash entry (lists_of new tnew grown)
    in_ring entry grown same =
        let last = with_last t hash entry before in
        record {
          put = record {
            still = rw (ap (λ (l : Lists K V P). l.still) same) (IsPermutation-refl last.still);
            loading = rw (ap (λ (l : Lists K V P). l.loading) same)
                (IsPermutation-refl last.loading);
            same = same_lists (record last { next = next_token new; room = room_of new tnew grown })
                (lists_of new tnew grown) (ap (λ (l : Lists K V P). l.hot) same)
                (ap (λ (l : Lists K V P). l.cold) same)
                (ap (λ (l : Lists K V P). l.ghosts) same) refl refl;
          };
          in_ring = λ _. same;
          still_stays = λ is. ap (λ (l : Lists K V P). l.still) same
              ∙ with_last-still t hash entry before is;
          loading_stays = λ is. ap (λ (l : Lists K V P). l.loading) same
              ∙ with_last-loading t hash entry before is;
        }

  module _ (old new : Pool (Slot K V P T)) (told tnew : Index) (t hash : ℕ)
      (rings : Rings) (standing : IsStanding old rings) where
    pub IsPut-by : (entry : Entry K V P T)
        → IsPlaced old new t (record { hash = hash; entry = entry })
        → IsPut old new told tnew t hash rings entry
        (entered t (weight_in entry) (stand_in entry) rings)
    IsPut-by (Entry.Item item) placed = by_weight (item.weight == 0) refl
      where
        at_stand : (s : Stand)
            → stand_in {K = K} {V = V} {P = P} {T = T} (Entry.Item item) ≡ s
            → IsPut old new told tnew t hash rings (Entry.Item item)
            (entered t item.weight s rings)
            → IsPut old new told tnew t hash rings (Entry.Item item)
            (entered t item.weight (stand_in {K = K} {V = V} {P = P} {T = T} (Entry.Item item))
            rings)
        at_stand s is put = subst (λ (r : Stand). IsPut old new told tnew t hash rings
            (Entry.Item item) (entered t item.weight r rings)) (sym is) put

        by_queue : (q : Queue) → item.queue ≡ q → (item.weight == 0) ≡ false
            → IsPut old new told tnew t hash rings (Entry.Item item)
            (entered t item.weight (stand_in {K = K} {V = V} {P = P} {T = T} (Entry.Item item))
            rings)
        by_queue Queue.Hot of weighs = at_stand AmongHot (rw (weighs, of) refl) (
          IsStanding-put_hot old new told tnew t hash item rings standing placed weighs of,
          in_ring old new told tnew t hash rings (Entry.Item item)
              (entered t item.weight AmongHot rings)
              (lists-put_hot old new told tnew t hash item rings standing placed weighs of),
        )
        by_queue Queue.Cold of weighs = at_stand AmongCold (rw (weighs, of) refl) (
          IsStanding-put_cold old new told tnew t hash item rings standing placed weighs of,
          in_ring old new told tnew t hash rings (Entry.Item item)
              (entered t item.weight AmongCold rings)
              (lists-put_cold old new told tnew t hash item rings standing placed weighs of),
        )

        by_weight : (b : Bool) → (item.weight == 0) ≡ b
            → IsPut old new told tnew t hash rings (Entry.Item item)
            (entered t item.weight (stand_in {K = K} {V = V} {P = P} {T = T} (Entry.Item item))
            rings)
        by_weight false weighs = by_queue item.queue refl weighs
        by_weight true none = at_stand AmongStill (rw none refl) (
          IsStanding-put_still old new told tnew t hash item rings standing placed none,
          record {
            put = SameButOrder-put_still old new told tnew t hash item rings standing placed none;
            in_ring = λ is. absurd (true≢false (sym (rw none at is)));
            still_stays = λ is. absurd (true≢false (sym none ∙ is));
            loading_stays = λ _. loading-put_still old new told tnew t hash item rings standing
                placed none;
          },
        )
    IsPut-by (Entry.Loading awaited) placed = (
      IsStanding-put_loading old new told tnew t hash awaited rings standing placed,
      record {
        put = SameButOrder-put_loading old new told tnew t hash awaited rings standing placed;
        in_ring = λ is. absurd (true≢false (sym is));
        still_stays = λ _. still-put_loading old new told tnew t hash awaited rings standing placed;
        loading_stays = λ is. absurd (true≢false is);
      },
    )
    IsPut-by Entry.Ghost placed = (
      IsStanding-put_ghost old new told tnew t hash rings standing placed,
      in_ring old new told tnew t hash rings Entry.Ghost (entered t 0 AmongGhosts rings)
          (lists-put_ghost old new told tnew t hash rings standing placed),
    )

  -- ---- and is counted

  module _ (old new : Pool (Slot K V P T)) (told tnew : Index) (t hash : ℕ)
      (rings grown : Rings) (loading : ℕ) (sound : IsSound old told rings loading)
      (entry : Entry K V P T) (placed : IsPlaced old new t (record { hash = hash; entry = entry }))
      (keyed : IsKeyed new tnew) (count : token_count tnew ≡ token_count told + 1)
      (some : 0 < room_of old told rings) (s : Stand) (w : ℕ) (stands : s ≡ stand_in entry)
      (weighs : w ≡ weight_in entry) (enters : grown ≡ entered t w s rings) where
    pub IsPut-entered : IsPut old new told tnew t hash rings entry grown
    IsPut-entered = rw (enters, stands, weighs)
        (IsPut-by old new told tnew t hash rings sound.standing entry placed)

    capacity : grown.capacity ≡ rings.capacity
    capacity = ap (λ (r : Rings). r.capacity) enters ∙ capacity-entered t w s rings

    pub room-put : slot_room new tnew + 1 ≡ slot_room old told
        → room_of new tnew grown + 1 ≡ room_of old told rings
    room-put room = omega (arith, room, some, capacity, count)

    pub IsSound-put : slot_room new tnew + 1 ≡ slot_room old told → (more : ℕ)
        → more ≡ loading_in s → IsSound new tnew grown (loading + more)
    IsSound-put room more is =
        let put = IsPut-entered in
        let counted = IsMore-put _ _ t hash entry put.1 in
        record {
          standing = put.0;
          keyed = keyed;
          loading_counted = omega (
            arith,
            sound.loading_counted,
            counted.waiting,
            is,
            ap loading_in stands,
          );
          all_counted = omega (arith, sound.all_counted, counted.all, count);
          within = omega (arith, some, capacity, count);
          bounded = omega (arith, sound.bounded, room, capacity, count);
        }
