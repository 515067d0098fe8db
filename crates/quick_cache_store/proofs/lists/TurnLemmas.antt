-- The first of a ring, a ring that begins one further on, and what a ring counts.
use Rattle.std.proofs.Common.{◌≡◌, ◌≢◌, ℕ, ◌<◌, ◌≤◌, List, [], ◌∷◌, ◌++◌, sum_by, length, Option, Some, None, MatchOption, refl, sym, ap}
use Rattle.std.proofs.Common.{◌∙◌, arith}
use Rattle.std.specs.Int.NonZero.{non_zero_u32_get as number}
use Rattle.std.specs.declared.num.NonZeroU32.{NonZeroU32 as Token}
use Rattle.std.proofs.lemmas.List.{length_push}
use Rattle.quick_cache_model.specs.Sequences.{times}
use Rattle.quick_cache_store.specs.Pool.{Pool, item_at}
use Rattle.quick_cache_store.proofs.pool.TokenCounts.{times-here, times-append}
use Rattle.quick_cache_store.specs.Queues.{StandsAt}
use Rattle.quick_cache_store.specs.Rings.{Ring, Rings, ring_of, one_further, rings_turned, AreWithin}
use Rattle.quick_cache_store.specs.declared.slots.entry.Entry.{Entry}
use Rattle.quick_cache_store.specs.declared.slots.entry.Slot.{Slot}
use Rattle.quick_cache_model.specs.declared.queue.Queue.{Queue}
use Rattle.quick_cache_index.specs.Index.{Index, token_count}
use Rattle.quick_cache_model.specs.CacheState.{ring_place}
use Rattle.quick_cache_store.specs.Lists.{HeldItem, HeldGhost, Lists, IsFirstOf, turned, ring_turned, items_at}
use Rattle.quick_cache_store.specs.Views.{items_of}
use Rattle.quick_cache_store.specs.ListSlots.{Stand, AmongHot, AmongCold, AmongLoading, AmongGhosts, ring_stand, weight_at, item_of}
use Rattle.quick_cache_store.specs.ListSlots.{ghost_of}
use Rattle.quick_cache_store.specs.Sound.{weigh, put, gather, lists_of, IsRingOf, IsStanding, IsSound}
use Rattle.quick_cache_store.proofs.lists.GatherLemmas.{gather-append, length-gather, weigh-append, weigh-gather}
use Rattle.quick_cache_store.proofs.lists.TakeLemmas.{is_held, is_ghost_entry, named_item, named_ghost}

module _ {K V P T : Type 0} (slab : Pool (Slot K V P T)) where
  -- ---- the first

  -- what a queue tells of its first token is so of what stands at its tokens
  first_of : {Y : Type 0} (shows : ℕ → Option Y) (name : Y → ℕ) (tokens : List ℕ)
      → ((u : ℕ) → 0 < times u tokens → (y : Y) × (shows u ≡ Some y) × (name y ≡ u))
      → (first : Option Token)
      → MatchOption first (tokens ≡ []) (λ token. StandsAt tokens 0 (number token))
      → IsFirstOf name (gather shows tokens) first
  first_of shows name tokens each None none = ap (gather shows) none
  first_of shows name tokens each (Some token) stands = by_list tokens each stands
    where
      by_before : (before after : List ℕ) → length before ≡ 0
          → before ++ number token ∷ after ≡ number token ∷ after
      by_before [] after none = refl
      by_before (x ∷ xs) after none = absurd (omega (arith, none))

      by_list : (xs : List ℕ)
          → ((u : ℕ) → 0 < times u xs → (y : _) × (shows u ≡ Some y) × (name y ≡ u))
          → StandsAt xs 0 (number token) → IsFirstOf name (gather shows xs) (Some token)
      by_list xs each s =
          let is : xs ≡ number token ∷ s.after =
          s.split ∙ by_before s.before s.after s.far in
          let shown = each (number token)
          (omega (arith, ap (times (number token)) is, times-here (number token) s.after)) in (
            shown.0,
            gather shows s.after,
            ap (gather shows) is ∙ ap (λ o. put o (gather shows s.after)) shown.1,
            shown.2,
          )

  pub IsFirstOf-held : (ring : Ring) (s : Stand) → s ≢ AmongLoading → s ≢ AmongGhosts
      → IsRingOf slab ring s → (first : Option Token)
      → MatchOption first (ring.tokens ≡ []) (λ token. StandsAt ring.tokens 0 (number token))
      → IsFirstOf (λ held. held.token)
      (gather (λ u. item_of u (item_at slab u)) ring.tokens) first
  IsFirstOf-held ring s off off' is first at =
      first_of (λ u. item_of u (item_at slab u)) (λ held. held.token) ring.tokens
      (λ u some.
      let held = is_held u (item_at slab u) s off off' (is.members u some) in
      (held.0, held.1, named_item u (item_at slab u) held.0 held.1)) first at

  pub IsFirstOf-ghosts : (ring : Ring) → IsRingOf slab ring AmongGhosts → (first : Option Token)
      → MatchOption first (ring.tokens ≡ []) (λ token. StandsAt ring.tokens 0 (number token))
      → IsFirstOf (λ shade. shade.token)
      (gather (λ u. ghost_of u (item_at slab u)) ring.tokens) first
  IsFirstOf-ghosts ring is first at =
      first_of (λ u. ghost_of u (item_at slab u)) (λ (shade : HeldGhost). shade.token) ring.tokens
      (λ u some.
      let shade = is_ghost_entry u (item_at slab u) (is.members u some) in
      (shade.0, shade.1, named_ghost u (item_at slab u) shade.0 shade.1)) first at

  -- ---- one further on

  times-turned : (u : ℕ) (xs : List ℕ) → times u (turned xs) ≡ times u xs
  times-turned u [] = refl
  times-turned u (x ∷ xs) = omega (arith, times-append u xs (x ∷ []))

  weigh-turned : (f : ℕ → ℕ) (xs : List ℕ) → weigh f (turned xs) ≡ weigh f xs
  weigh-turned f [] = refl
  weigh-turned f (x ∷ xs) = omega (arith, weigh-append f xs (x ∷ []))

  IsRingOf-turned : (ring : Ring) (s : Stand) → IsRingOf slab ring s
      → IsRingOf slab (one_further ring) s
  IsRingOf-turned ring s is = record {
    members = λ u some. is.members u (omega (arith, some, times-turned u ring.tokens));
    all = λ u stands. omega (arith, is.all u stands, times-turned u ring.tokens);
    once = λ u. omega (arith, is.once u, times-turned u ring.tokens);
    weighed = is.weighed ∙ sym (weigh-turned (λ u. weight_at (item_at slab u)) ring.tokens);
  }

  -- each token of the ring shows something, so the first that is shown comes last
  gather-turned : {Y : Type 0} (shows : ℕ → Option Y) (xs : List ℕ)
      → ((u : ℕ) → 0 < times u xs → (y : Y) × (shows u ≡ Some y))
      → gather shows (turned xs) ≡ turned (gather shows xs)
  gather-turned shows [] each = refl
  gather-turned shows (x ∷ xs) each =
      let shown = each x (omega (arith, times-here x xs)) in
      gather-append shows xs (x ∷ []) ∙ rw shown.1 refl

  view-turned : (ring : Ring) (s : Stand) → s ≢ AmongLoading → s ≢ AmongGhosts
      → IsRingOf slab ring s
      → gather (λ u. item_of u (item_at slab u)) (turned ring.tokens)
      ≡ turned (gather (λ u. item_of u (item_at slab u)) ring.tokens)
  view-turned ring s off off' is = gather-turned (λ u. item_of u (item_at slab u)) ring.tokens
      (λ u some. is_held u (item_at slab u) s off off' (is.members u some))

  -- ---- how many there are

  pub count_held : (ring : Ring) (s : Stand) → s ≢ AmongLoading → s ≢ AmongGhosts
      → IsRingOf slab ring s
      → length ring.tokens ≡ length (gather (λ u. item_of u (item_at slab u)) ring.tokens)
  count_held ring s off off' is =
      sym (length-gather (λ u. item_of u (item_at slab u)) ring.tokens
      (λ u some. is_held u (item_at slab u) s off off' (is.members u some)))

  pub count_ghosts : (ring : Ring) → IsRingOf slab ring AmongGhosts
      → length ring.tokens ≡ length (gather (λ u. ghost_of u (item_at slab u)) ring.tokens)
  count_ghosts ring is =
      sym (length-gather (λ u. ghost_of u (item_at slab u)) ring.tokens
      (λ u some. is_ghost_entry u (item_at slab u) (is.members u some)))

  weighs_held : (u : ℕ) (o : Option (Slot K V P T)) (held : HeldItem K V) → item_of u o ≡ Some held
      → held.item.weight ≡ weight_at o
  weighs_held u None held is = absurd (cc)
  weighs_held u (Some slot) held is = by_entry slot.hash slot.entry is
    where
      by_entry : (hash : ℕ) (entry : Entry K V P T)
          → item_of u (Some (record { hash = hash; entry = entry })) ≡ Some held
          → held.item.weight ≡ weight_at (Some (record { hash = hash; entry = entry }))
      by_entry hash (Entry.Item item) e =
          let same : record { token = u; hash = hash; item = item } ≡ held =
          cc in ap (λ (y : HeldItem K V). y.item.weight) (sym same)
      by_entry hash (Entry.Loading awaited) e = absurd (cc)
      by_entry hash Entry.Ghost e = absurd (cc)

  pub weight_held : (ring : Ring) (s : Stand) → s ≢ AmongLoading → s ≢ AmongGhosts
      → IsRingOf slab ring s → ring.weight
      ≡ sum_by (λ held. held.item.weight)
      (gather (λ u. item_of u (item_at slab u)) ring.tokens)
  weight_held ring s off off' is =
      is.weighed ∙ weigh-gather (λ u. item_of u (item_at slab u)) (λ held. held.item.weight)
      (λ u. weight_at (item_at slab u)) ring.tokens (λ u some.
      let held = is_held u (item_at slab u) s off off' (is.members u some) in
      (held.0, held.1, weighs_held u (item_at slab u) held.0 held.1))

-- ---- the same of the ring of a queue

pub not_loading : (queue : Queue) → ring_stand queue ≢ AmongLoading
not_loading Queue.Hot e = cc
not_loading Queue.Cold e = cc

pub not_ghost : (queue : Queue) → ring_stand queue ≢ AmongGhosts
not_ghost Queue.Hot e = cc
not_ghost Queue.Cold e = cc

module _ {K V P T : Type 0} (slab : Pool (Slot K V P T)) (index : Index) (rings : Rings)
    (standing : IsStanding slab rings) where
  pub IsRingOf-queue : (queue : Queue) → IsRingOf slab (ring_of queue rings) (ring_stand queue)
  IsRingOf-queue Queue.Hot = standing.hot_ring
  IsRingOf-queue Queue.Cold = standing.cold_ring

  pub first_queue : (queue : Queue) (first : Option Token)
      → MatchOption first ((ring_of queue rings).tokens ≡ [])
      (λ token. StandsAt (ring_of queue rings).tokens 0 (number token))
      → IsFirstOf (λ held. held.token)
      (items_at (ring_place queue) (lists_of slab index rings)) first
  first_queue Queue.Hot =
      IsFirstOf-held slab rings.hot AmongHot (λ e. cc) (λ e. cc) standing.hot_ring
  first_queue Queue.Cold =
      IsFirstOf-held slab rings.cold AmongCold (λ e. cc) (λ e. cc) standing.cold_ring

  pub count_queue : (queue : Queue) → length (ring_of queue rings).tokens
      ≡ length (items_at (ring_place queue) (lists_of slab index rings))
  count_queue Queue.Hot = count_held slab rings.hot AmongHot (λ e. cc) (λ e. cc) standing.hot_ring
  count_queue Queue.Cold =
      count_held slab rings.cold AmongCold (λ e. cc) (λ e. cc) standing.cold_ring

  pub weight_queue : (queue : Queue) → (ring_of queue rings).weight
      ≡ sum_by (λ held. held.item.weight)
      (items_at (ring_place queue) (lists_of slab index rings))
  weight_queue Queue.Hot = weight_held slab rings.hot AmongHot (λ e. cc) (λ e. cc) standing.hot_ring
  weight_queue Queue.Cold =
      weight_held slab rings.cold AmongCold (λ e. cc) (λ e. cc) standing.cold_ring

  -- what a walk along it shows
  pub items_queue : (queue : Queue)
      → items_of (gather (λ u. item_of u (item_at slab u)) (ring_of queue rings).tokens)
      ≡ items_of (items_at (ring_place queue) (lists_of slab index rings))
  items_queue Queue.Hot = refl
  items_queue Queue.Cold = refl

-- no ring has more tokens than there are entries
module _ {K V P T : Type 0} (slab : Pool (Slot K V P T)) (index : Index) (rings : Rings)
    (loading : ℕ) (sound : IsSound slab index rings loading) where
  pub AreWithin-all : (tokens : ℕ) → token_count index ≤ tokens → AreWithin rings tokens
  AreWithin-all tokens within =
      let all = sound.all_counted in
      record {
        hot_few = omega (
          arith,
          within,
          all,
          count_held slab rings.hot AmongHot (λ e. cc)
              (λ e. cc) sound.standing.hot_ring,
        );
        cold_few = omega (
          arith,
          within,
          all,
          count_held slab rings.cold AmongCold (λ e. cc)
              (λ e. cc) sound.standing.cold_ring,
        );
        ghosts_few = omega (
          arith,
          within,
          all,
          count_ghosts slab rings.ghosts
              sound.standing.ghost_ring,
        );
      }

length-turned : {X : Type 0} (xs : List X) → length (turned xs) ≡ length xs
length-turned [] = refl
length-turned (x ∷ xs) = omega (arith, length_push xs x)

module _ {K V P T : Type 0} (slab : Pool (Slot K V P T)) (index : Index) (rings : Rings)
    (loading : ℕ) (sound : IsSound slab index rings loading) where
  pub lists-turned : (queue : Queue) → lists_of slab index (rings_turned queue rings)
      ≡ ring_turned queue (lists_of slab index rings)
  lists-turned Queue.Hot =
      let is = view-turned slab rings.hot AmongHot (λ e. cc) (λ e. cc) sound.standing.hot_ring in
      λ j. record (lists_of slab index rings) { hot = is j }
  lists-turned Queue.Cold =
      let is = view-turned slab rings.cold AmongCold (λ e. cc) (λ e. cc) sound.standing.cold_ring in
      λ j. record (lists_of slab index rings) { cold = is j }

  pub IsSound-turned : (queue : Queue) → IsSound slab index (rings_turned queue rings) loading
  IsSound-turned Queue.Hot = record {
    standing = record {
      hot_ring = IsRingOf-turned slab rings.hot AmongHot sound.standing.hot_ring;
      cold_ring = sound.standing.cold_ring;
      ghost_ring = sound.standing.ghost_ring;
    };
    keyed = sound.keyed;
    loading_counted = sound.loading_counted;
    all_counted = omega (
      arith,
      sound.all_counted,
      ap (λ (l : Lists K V P). length l.hot) (lists-turned Queue.Hot),
      length-turned (lists_of slab index rings).hot,
    );
    within = sound.within;
    bounded = sound.bounded;
  }
  IsSound-turned Queue.Cold = record {
    standing = record {
      hot_ring = sound.standing.hot_ring;
      cold_ring = IsRingOf-turned slab rings.cold AmongCold sound.standing.cold_ring;
      ghost_ring = sound.standing.ghost_ring;
    };
    keyed = sound.keyed;
    loading_counted = sound.loading_counted;
    all_counted = omega (
      arith,
      sound.all_counted,
      ap (λ (l : Lists K V P). length l.cold) (lists-turned Queue.Cold),
      length-turned (lists_of slab index rings).cold,
    );
    within = sound.within;
    bounded = sound.bounded;
  }
