-- Copied slots under the hashes of a new index are copies of the lists.
use Rattle.std.proofs.Common.{◌≡◌, ◌≢◌, ℕ, zero, suc, ◌+◌, ◌<◌, ◌≤◌, ◌==◌, if◌then◌else◌, Bool, true, false, List, [], ◌∷◌, cond, map}
use Rattle.std.proofs.Common.{length, count_by, Option, Some, None, is_some, ◌||◌, IsTrue, refl, sym, ap, subst, ◌∙◌, inl, inr, arith}
use Rattle.std.proofs.lemmas.Bool.{cases_eq, eq-eqb, eqb-true, ne_eqb}
use Rattle.std.proofs.lemmas.List.Sums.{sum_by-cons}
use Rattle.std.specs.List.{AllZip}
use Rattle.quick_cache_model.specs.CacheState.{Item}
use Rattle.quick_cache_model.specs.Sequences.{times}
use Rattle.quick_cache_store.specs.Pool.{Pool, AreItemCopies, at_token, entries_after, entries_past, item_at, next_token}
use Rattle.quick_cache_store.specs.Pool.{IsSlotCopy as IsCopyAt}
use Rattle.quick_cache_store.proofs.pool.TokenCounts.{times-cons_le, times-here, times-other}
use Rattle.quick_cache_index.specs.Index.{Index, GainsToken, HasNone, HasToken, KeepsAllLeads, Leads, has_token, token_count}
use Rattle.quick_cache_store.specs.declared.slots.entry.Entry.{Entry}
use Rattle.quick_cache_store.specs.declared.slots.entry.Slot.{Slot}
use Rattle.quick_cache_store.specs.Rings.{Ring, Rings}
use Rattle.quick_cache_store.specs.ListCopies.{AreCopies, IsEntryCopy, IsHeldCopy, IsItemCopy, IsSlotCopy, IsWaitingCopy}
use Rattle.quick_cache_store.specs.Lists.{HeldItem, HeldLoading}
use Rattle.quick_cache_store.specs.ListSlots.{Stand, ghost_of, has_hash, if_still, item_of, loading_of, stand_of, stand_of_item, still_of}
use Rattle.quick_cache_store.specs.ListSlots.{weight_at}
use Rattle.quick_cache_store.specs.Sound.{AddsTokens, HasHash, IsKeyed, IsRingOf, IsSound, IsStanding, gather, lists_of, put, upto}
use Rattle.quick_cache_store.proofs.lists.GatherLemmas.{weigh-same}

-- ---- lists, place by place

module _ {X Y : Type 0} (R : X → Y → Type 0) where
  pub length-zip : (xs : List X) (ys : List Y) → AllZip R xs ys → length ys ≡ length xs
  length-zip [] [] all = refl
  length-zip [] (y ∷ ys) all = absurd all
  length-zip (x ∷ xs) [] all = absurd all
  length-zip (x ∷ xs) (y ∷ ys) all = ap suc (length-zip xs ys all.1)

module _ {Y : Type 0} (R : Y → Y → Type 0) where
  put-copied : (x y : Option Y) (xs ys : List Y) → IsCopyAt R x y → AllZip R xs ys
      → AllZip R (put x xs) (put y ys)
  put-copied None None xs ys one all = all
  put-copied None (Some y) xs ys one all = absurd one
  put-copied (Some x) None xs ys one all = absurd one
  put-copied (Some x) (Some y) xs ys one all = (one, all)

  -- what is gathered where copies stand
  gather-copied : (f g : ℕ → Option Y) (ts : List ℕ) → ((t : ℕ) → IsCopyAt R (f t) (g t))
      → AllZip R (gather f ts) (gather g ts)
  gather-copied f g [] each = tt
  gather-copied f g (t ∷ ts) each =
      put-copied (f t) (g t) (gather f ts) (gather g ts) (each t) (gather-copied f g ts each)

  at_token-copied : (xs ys : List (Option Y)) → AllZip (IsCopyAt R) xs ys
      → (t : ℕ) → IsCopyAt R (at_token xs t None) (at_token ys t None)
  at_token-copied xs ys copies zero = tt
  at_token-copied [] [] copies (suc i) = tt
  at_token-copied [] (y ∷ ys) copies (suc i) = absurd copies
  at_token-copied (x ∷ xs) [] copies (suc i) = absurd copies
  at_token-copied (x ∷ xs) (y ∷ ys) copies (suc zero) = copies.0
  at_token-copied (x ∷ xs) (y ∷ ys) copies (suc (suc i)) = at_token-copied xs ys copies.1 (suc i)

gather-equal : {Y : Type 0} (f g : ℕ → Option Y) (ts : List ℕ) → ((t : ℕ) → g t ≡ f t)
    → gather g ts ≡ gather f ts
gather-equal f g [] each = refl
gather-equal f g (t ∷ ts) each = λ i. put (each t i) (gather-equal f g ts each i)

module _ {K V P : Type 0} (clones_key : K → K → Type 0) (clones_value : V → V → Type 0)
    (hash_of : K → ℕ) (shares : P → P → Type 0) where
  abbrev Held : HeldItem K V → HeldItem K V → Type 0
  Held = IsHeldCopy clones_key clones_value hash_of shares

  abbrev Waiting : HeldLoading K P → HeldLoading K P → Type 0
  Waiting = IsWaitingCopy clones_key clones_value hash_of shares

  stand-item : (item copy : Item K V) → IsItemCopy clones_key clones_value item copy
      → stand_of_item copy ≡ stand_of_item item
  stand-item item copy is = ap stand_of_item is.same

  still-if : (b c : Bool) (x y : HeldItem K V) → c ≡ b → Held x y
      → IsCopyAt Held (if b then Some x else None) (if c then Some y else None)
  still-if true true x y same is = is
  still-if true false x y same is = absurd (cc)
  still-if false true x y same is = absurd (cc)
  still-if false false x y same is = tt

  still-at : (x y : Option (HeldItem K V)) → IsCopyAt Held x y
      → IsCopyAt Held (if_still x) (if_still y)
  still-at None None is = tt
  still-at None (Some y) is = absurd is
  still-at (Some x) None is = absurd is
  still-at (Some x) (Some y) is =
      still-if (x.item.weight == 0) (y.item.weight == 0) x y
      (ap (λ (i : Item K V). i.weight == 0) is.item.same) is

  module _ {T : Type 0} where
    abbrev Copied : Slot K V P T → Slot K V P T → Type 0
    Copied = IsSlotCopy clones_key clones_value hash_of shares {T = T}

    -- ---- what stands at a token, and its copy

    stand-entry : (hash copy_hash : ℕ) (x y : Entry K V P T)
        → IsEntryCopy clones_key clones_value hash_of shares hash copy_hash x y
        → stand_of (Some (record { hash = copy_hash; entry = y }))
        ≡ stand_of (Some (record { hash = hash; entry = x }))
    stand-entry h k (Entry.Item x) (Entry.Item y) is = ap Some (stand-item x y is.1)
    stand-entry h k (Entry.Item x) (Entry.Loading y) is = absurd is
    stand-entry h k (Entry.Item x) Entry.Ghost is = absurd is
    stand-entry h k (Entry.Loading x) (Entry.Item y) is = absurd is
    stand-entry h k (Entry.Loading x) (Entry.Loading y) is = refl
    stand-entry h k (Entry.Loading x) Entry.Ghost is = absurd is
    stand-entry h k Entry.Ghost (Entry.Item y) is = absurd is
    stand-entry h k Entry.Ghost (Entry.Loading y) is = absurd is
    stand-entry h k Entry.Ghost Entry.Ghost is = refl

    stand-at : (x y : Option (Slot K V P T)) → IsCopyAt Copied x y → stand_of y ≡ stand_of x
    stand-at None None is = refl
    stand-at None (Some y) is = absurd is
    stand-at (Some x) None is = absurd is
    stand-at (Some x) (Some y) is = stand-entry x.hash y.hash x.entry y.entry is

    weight-entry : (hash copy_hash : ℕ) (x y : Entry K V P T)
        → IsEntryCopy clones_key clones_value hash_of shares hash copy_hash x y
        → weight_at (Some (record { hash = copy_hash; entry = y }))
        ≡ weight_at (Some (record { hash = hash; entry = x }))
    weight-entry h k (Entry.Item x) (Entry.Item y) is = ap (λ (i : Item K V). i.weight) is.1.same
    weight-entry h k (Entry.Item x) (Entry.Loading y) is = absurd is
    weight-entry h k (Entry.Item x) Entry.Ghost is = absurd is
    weight-entry h k (Entry.Loading x) (Entry.Item y) is = absurd is
    weight-entry h k (Entry.Loading x) (Entry.Loading y) is = refl
    weight-entry h k (Entry.Loading x) Entry.Ghost is = absurd is
    weight-entry h k Entry.Ghost (Entry.Item y) is = absurd is
    weight-entry h k Entry.Ghost (Entry.Loading y) is = absurd is
    weight-entry h k Entry.Ghost Entry.Ghost is = refl

    weight-at : (x y : Option (Slot K V P T)) → IsCopyAt Copied x y → weight_at y ≡ weight_at x
    weight-at None None is = refl
    weight-at None (Some y) is = absurd is
    weight-at (Some x) None is = absurd is
    weight-at (Some x) (Some y) is = weight-entry x.hash y.hash x.entry y.entry is

    item-entry : (t hash copy_hash : ℕ) (x y : Entry K V P T)
        → IsEntryCopy clones_key clones_value hash_of shares hash copy_hash x y
        → IsCopyAt Held (item_of t (Some (record { hash = hash; entry = x })))
        (item_of t (Some (record { hash = copy_hash; entry = y })))
    item-entry t h k (Entry.Item x) (Entry.Item y) is =
        record { token = refl; hash = is.0; item = is.1 }
    item-entry t h k (Entry.Item x) (Entry.Loading y) is = absurd is
    item-entry t h k (Entry.Item x) Entry.Ghost is = absurd is
    item-entry t h k (Entry.Loading x) (Entry.Item y) is = absurd is
    item-entry t h k (Entry.Loading x) (Entry.Loading y) is = tt
    item-entry t h k (Entry.Loading x) Entry.Ghost is = absurd is
    item-entry t h k Entry.Ghost (Entry.Item y) is = absurd is
    item-entry t h k Entry.Ghost (Entry.Loading y) is = absurd is
    item-entry t h k Entry.Ghost Entry.Ghost is = tt

    item-at : (t : ℕ) (x y : Option (Slot K V P T)) → IsCopyAt Copied x y
        → IsCopyAt Held (item_of t x) (item_of t y)
    item-at t None None is = tt
    item-at t None (Some y) is = absurd is
    item-at t (Some x) None is = absurd is
    item-at t (Some x) (Some y) is = item-entry t x.hash y.hash x.entry y.entry is

    loading-entry : (t hash copy_hash : ℕ) (x y : Entry K V P T)
        → IsEntryCopy clones_key clones_value hash_of shares hash copy_hash x y
        → IsCopyAt Waiting (loading_of t (Some (record { hash = hash; entry = x })))
        (loading_of t (Some (record { hash = copy_hash; entry = y })))
    loading-entry t h k (Entry.Item x) (Entry.Item y) is = tt
    loading-entry t h k (Entry.Item x) (Entry.Loading y) is = absurd is
    loading-entry t h k (Entry.Item x) Entry.Ghost is = absurd is
    loading-entry t h k (Entry.Loading x) (Entry.Item y) is = absurd is
    loading-entry t h k (Entry.Loading x) (Entry.Loading y) is = record {
      token = refl;
      hash = is.0;
      key = is.1.key;
      queue = is.1.queue;
      placeholder = is.1.placeholder;
    }
    loading-entry t h k (Entry.Loading x) Entry.Ghost is = absurd is
    loading-entry t h k Entry.Ghost (Entry.Item y) is = absurd is
    loading-entry t h k Entry.Ghost (Entry.Loading y) is = absurd is
    loading-entry t h k Entry.Ghost Entry.Ghost is = tt

    loading-at : (t : ℕ) (x y : Option (Slot K V P T)) → IsCopyAt Copied x y
        → IsCopyAt Waiting (loading_of t x) (loading_of t y)
    loading-at t None None is = tt
    loading-at t None (Some y) is = absurd is
    loading-at t (Some x) None is = absurd is
    loading-at t (Some x) (Some y) is = loading-entry t x.hash y.hash x.entry y.entry is

    ghost-entry : (t hash copy_hash : ℕ) (x y : Entry K V P T)
        → IsEntryCopy clones_key clones_value hash_of shares hash copy_hash x y
        → ghost_of t (Some (record { hash = copy_hash; entry = y }))
        ≡ ghost_of t (Some (record { hash = hash; entry = x }))
    ghost-entry t h k (Entry.Item x) (Entry.Item y) is = refl
    ghost-entry t h k (Entry.Item x) (Entry.Loading y) is = absurd is
    ghost-entry t h k (Entry.Item x) Entry.Ghost is = absurd is
    ghost-entry t h k (Entry.Loading x) (Entry.Item y) is = absurd is
    ghost-entry t h k (Entry.Loading x) (Entry.Loading y) is = refl
    ghost-entry t h k (Entry.Loading x) Entry.Ghost is = absurd is
    ghost-entry t h k Entry.Ghost (Entry.Item y) is = absurd is
    ghost-entry t h k Entry.Ghost (Entry.Loading y) is = absurd is
    ghost-entry t h k Entry.Ghost Entry.Ghost is =
        ap (λ (hash : ℕ). Some (record { token = t; hash = hash })) is

    ghost-at : (t : ℕ) (x y : Option (Slot K V P T)) → IsCopyAt Copied x y
        → ghost_of t y ≡ ghost_of t x
    ghost-at t None None is = refl
    ghost-at t None (Some y) is = absurd is
    ghost-at t (Some x) None is = absurd is
    ghost-at t (Some x) (Some y) is = ghost-entry t x.hash y.hash x.entry y.entry is

    module _ (slab copy : Pool (Slot K V P T)) (are : AreItemCopies Copied slab copy) where
      pub at-copied : (t : ℕ) → IsCopyAt Copied (item_at slab t) (item_at copy t)
      at-copied t = at_token-copied Copied slab.slots copy.slots are.slots t

      pub slots-copied : length copy.slots ≡ length slab.slots
      slots-copied = length-zip (IsCopyAt Copied) slab.slots copy.slots are.slots

      stand-copied : (t : ℕ) → stand_of (item_at copy t) ≡ stand_of (item_at slab t)
      stand-copied t = stand-at (item_at slab t) (item_at copy t) (at-copied t)

      weight-copied : (t : ℕ) → weight_at (item_at copy t) ≡ weight_at (item_at slab t)
      weight-copied t = weight-at (item_at slab t) (item_at copy t) (at-copied t)

      IsRingOf-copied : (ring : Ring) (stand : Stand) → IsRingOf slab ring stand
          → IsRingOf copy ring stand
      IsRingOf-copied ring stand is = record {
        members = λ t some. stand-copied t ∙ is.members t some;
        all = λ t stands. is.all t (sym (stand-copied t) ∙ stands);
        once = is.once;
        weighed = is.weighed
            ∙ sym (weigh-same (λ t. weight_at (item_at slab t)) (λ t. weight_at (item_at copy t))
            ring.tokens (λ t some. weight-copied t));
      }

      IsStanding-copied : (rings : Rings) → IsStanding slab rings → IsStanding copy rings
      IsStanding-copied rings is = record {
        hot_ring = IsRingOf-copied rings.hot _ is.hot_ring;
        cold_ring = IsRingOf-copied rings.cold _ is.cold_ring;
        ghost_ring = IsRingOf-copied rings.ghosts _ is.ghost_ring;
      }

      -- ---- the lists

      -- the copy of the rings has room for as many tokens
      module _ (index keyed : Index) (rings : Rings) (room : ℕ) where
        abbrev pub rings_copy : Rings
        rings_copy = record rings { capacity = room }

        pub lists_of-copied : AreCopies clones_key clones_value hash_of shares
            (lists_of slab index rings) (lists_of copy keyed rings_copy)
        lists_of-copied = record {
          hot = ring rings.hot;
          cold = ring rings.cold;
          still = rw slots-copied
              (gather-copied Held (λ t. still_of t (item_at slab t)) (λ t. still_of t (item_at copy t))
              (upto (length slab.slots))
              (λ t. still-at (item_of t (item_at slab t)) (item_of t (item_at copy t)) (items t)));
          loading = rw slots-copied
              (gather-copied Waiting (λ t. loading_of t (item_at slab t))
              (λ t. loading_of t (item_at copy t)) (upto (length slab.slots))
              (λ t. loading-at t (item_at slab t) (item_at copy t) (at-copied t)));
          ghosts = gather-equal (λ t. ghost_of t (item_at slab t))
              (λ t. ghost_of t (item_at copy t)) rings.ghosts.tokens
              (λ t. ghost-at t (item_at slab t) (item_at copy t) (at-copied t));
          next = ap next_token are.same ∙ by_free slab.free;
        }
          where
            items : (t : ℕ) → IsCopyAt Held (item_of t (item_at slab t)) (item_of t (item_at copy t))
            items t = item-at t (item_at slab t) (item_at copy t) (at-copied t)

            ring : (r : Ring) → AllZip Held
                (gather (λ t. item_of t (item_at slab t)) r.tokens)
                (gather (λ t. item_of t (item_at copy t)) r.tokens)
            ring r = gather-copied Held (λ t. item_of t (item_at slab t))
                (λ t. item_of t (item_at copy t)) r.tokens items

            by_free : (free : List ℕ) → next_token {T = Slot K V P T}
                (record slab { slots = copy.slots; free = free; room = copy.room })
                ≡ next_token (record slab { free = free })
            by_free [] = ap (λ n. n + 1) slots-copied
            by_free (t ∷ free) = refl

      -- ---- the index

      -- a copy weighs no more than its entry
      pub light-copied : (index : Index) → IsKeyed slab index
          → (t : ℕ) → weight_at (item_at copy t) < 18446744073709551616
      light-copied index was t = rw (weight-copied t) (was.light t)

      module _ (index keyed : Index) (rings : Rings) (loading : ℕ) where
        -- once its entries are keyed, the copy is as sound as the lists are
        pub IsSound-copied : IsSound slab index rings loading → IsKeyed copy keyed
            → IsSound copy keyed (record rings { capacity = token_count index }) loading
        IsSound-copied sound are_keyed =
            let lists = lists_of-copied index keyed rings (token_count index) in
            let waiting = length-zip Waiting _ _ lists.loading in
            let free = ap (λ (s : Pool (Slot K V P T)). length s.free) are.same in
            record {
              standing = IsStanding-copied (record rings { capacity = token_count index })
                  (IsStanding-room rings (token_count index) sound.standing);
              keyed = are_keyed;
              loading_counted = sound.loading_counted ∙ sym waiting;
              all_counted = omega (
                arith,
                sound.all_counted,
                sound.keyed.counted,
                are_keyed.counted,
                slots-copied,
                free,
                waiting,
                length-zip Held _ _ lists.hot,
                length-zip Held _ _ lists.cold,
                length-zip Held _ _ lists.still,
                ap length lists.ghosts,
              );
              within = omega (
                arith,
                sound.keyed.counted,
                are_keyed.counted,
                slots-copied,
                free,
              );
              bounded = omega (
                arith,
                sound.keyed.counted,
                are_keyed.counted,
                slots-copied,
                free,
              );
            }
          where
            IsStanding-room : (rings : Rings) (room : ℕ) → IsStanding slab rings
                → IsStanding slab (record rings { capacity = room })
            IsStanding-room rings room is = record {
              hot_ring = is.hot_ring;
              cold_ring = is.cold_ring;
              ghost_ring = is.ghost_ring;
            }

-- ---- the tokens of all entries

-- a token that came is there
gained-here : (old new : Index) (t k : ℕ) → GainsToken old new t → k ≡ t → has_token new k ≡ true
gained-here old new t k gains same =
    gains k ∙ ap (λ b. b || has_token old k) (eq-eqb k t same)

-- and each other is there if it was
gained-other : (old new : Index) (t k : ℕ) → GainsToken old new t → k ≢ t
    → has_token new k ≡ has_token old k
gained-other old new t k gains other =
    gains k ∙ ap (λ b. b || has_token old k) (ne_eqb k t other)

module _ {S : Type 0} where
  past-times : (p t : ℕ) (xs : List (Option S)) → t ≤ p
      → times t (map (λ entry. entry.0) (entries_past p xs)) ≡ 0
  past-times p t [] within = refl
  past-times p t (None ∷ xs) within = past-times (p + 1) t xs (omega arith)
  past-times p t (Some x ∷ xs) within =
      let other : p + 1 ≢ t = λ e. omega (arith, e) in
      times-other t (p + 1) (map (λ entry. entry.0) (entries_past (p + 1) xs)) other
      ∙ past-times (p + 1) t xs (omega arith)

  pub past-once : (p t : ℕ) (xs : List (Option S))
      → times t (map (λ entry. entry.0) (entries_past p xs)) ≤ 1
  past-once p t [] = omega arith
  past-once p t (None ∷ xs) = past-once (p + 1) t xs
  past-once p t (Some x ∷ xs) =
      elim (cases_eq (p + 1) t) [
        | inl same ↦
            let rest = past-times (p + 1) t xs (omega (arith, same)) in
            rw (eq-eqb (p + 1) t same) (omega (arith, rest))
        | inr other ↦ rw (ne_eqb (p + 1) t other) (omega (arith, past-once (p + 1) t xs))
      ]

  count-some : (x : S) (xs : List (Option S))
      → count_by is_some (Some x ∷ xs) ≡ 1 + count_by is_some xs
  count-some x xs = sum_by-cons (λ o. cond (is_some o) 1 0) (Some x) xs

  count-none : (xs : List (Option S)) → count_by is_some (None ∷ xs) ≡ count_by is_some xs
  count-none xs = omega (arith, sum_by-cons (λ (o : Option S). cond (is_some o) 1 0) None xs)

  pub length-past : (p : ℕ) (xs : List (Option S))
      → length (entries_past p xs) ≡ count_by is_some xs
  length-past p [] = refl
  length-past p (None ∷ xs) = omega (arith, length-past (p + 1) xs, count-none xs)
  length-past p (Some x ∷ xs) = omega (arith, length-past (p + 1) xs, count-some x xs)

  -- the token of the first entry
  pub first-times : (t : ℕ) (x : S) (all rest : List (ℕ × S)) → all ≡ (t, x) ∷ rest
      → times t (map (λ entry. entry.0) all) ≡ 1 + times t (map (λ entry. entry.0) rest)
  first-times t x all rest is =
      ap (λ (es : List (ℕ × S)). times t (map (λ entry. entry.0) es)) is
      ∙ times-here t (map (λ entry. entry.0) rest)

  -- what is left has each token no more often
  pub rest-times : (t u : ℕ) (x : S) (all rest : List (ℕ × S)) → all ≡ (u, x) ∷ rest
      → times t (map (λ entry. entry.0) rest) ≤ times t (map (λ entry. entry.0) all)
  rest-times t u x all rest is =
      let cut = ap (λ (es : List (ℕ × S)). times t (map (λ entry. entry.0) es)) is in
      omega (arith, cut, times-cons_le t u (map (λ entry. entry.0) rest))

  -- once the token of the first entry is in the index, what is left is new to it
  pub rest-apart : (old new : Index) (t : ℕ) (x : S) (all rest : List (ℕ × S))
      → all ≡ (t, x) ∷ rest → GainsToken old new t
      → ((token : ℕ) → times token (map (λ entry. entry.0) all) ≤ 1)
      → ((token : ℕ) → HasToken old token → times token (map (λ entry. entry.0) all) ≡ 0)
      → (token : ℕ) → HasToken new token → times token (map (λ entry. entry.0) rest) ≡ 0
  rest-apart old new t x all rest is gains once apart k has =
      elim (cases_eq k t) [
        | inl same ↦
            let single : times t (map (λ entry. entry.0) rest) ≡ 0 =
            omega (arith, once t, first-times t x all rest is) in
            rw same single
        | inr other ↦
            let had : HasToken old k = sym (gained-other old new t k gains other) ∙ has in
            omega (arith, apart k had, rest-times k t x all rest is)
      ]

module _ {K V P T : Type 0} where
  -- the index got the token of each entry past so many, and nothing else
  record AreKeyedPast (p : ℕ) (xs : List (Option (Slot K V P T))) (old new : Index) : Type 0 where
    count : token_count new ≡ token_count old + count_by is_some xs
    kept : KeepsAllLeads old new
    before : (t : ℕ) → t ≤ p → has_token new t ≡ has_token old t
    tokens : (i t : ℕ) → t ≡ p + 1 + i → has_token new t ≡ is_some (at_token xs (suc i) None)
    leads : (hash i t : ℕ) → t ≡ p + 1 + i → IsTrue (has_hash hash (at_token xs (suc i) None))
        → Leads new hash t

  keyed-past : (p : ℕ) (xs : List (Option (Slot K V P T))) (old new : Index)
      → AddsTokens (entries_past p xs) old new
      → ((t : ℕ) → p < t → has_token old t ≡ false)
      → AreKeyedPast p xs old new
  keyed-past p [] old new adds none = record {
    count = omega (arith, ap token_count adds);
    kept = λ hash t leads. subst (λ (index : Index). Leads index hash t) (sym adds) leads;
    before = λ t within. ap (λ (index : Index). has_token index t) adds;
    tokens = λ i t is. ap (λ (index : Index). has_token index t) adds ∙ none t (omega (arith, is));
    leads = λ hash i t is has. absurd (cc);
  }
  keyed-past p (None ∷ xs) old new adds none =
      let rest = keyed-past (p + 1) xs old new adds (λ t past. none t (omega arith)) in
      record {
        count = omega (arith, rest.count, count-none xs);
        kept = rest.kept;
        before = λ t within. rest.before t (omega arith);
        tokens = at rest;
        leads = led rest;
      }
    where
      at : AreKeyedPast (p + 1) xs old new → (i t : ℕ) → t ≡ p + 1 + i
          → has_token new t ≡ is_some (at_token (None ∷ xs) (suc i) None)
      at rest zero t is = rest.before t (omega (arith, is)) ∙ none t (omega (arith, is))
      at rest (suc i) t is = rest.tokens i t (omega (arith, is))

      led : AreKeyedPast (p + 1) xs old new → (hash i t : ℕ) → t ≡ p + 1 + i
          → IsTrue (has_hash hash (at_token (None ∷ xs) (suc i) None)) → Leads new hash t
      led rest hash zero t is has = absurd (cc)
      led rest hash (suc i) t is has = rest.leads hash i t (omega (arith, is)) has
  keyed-past p (Some slot ∷ xs) old new adds none =
      let rest = keyed-past (p + 1) xs adds.0 new adds.2
      (λ t past. gained-other old adds.0 (p + 1) t adds.1.tokens (λ same. omega (arith, same))
      ∙ none t (omega arith)) in
      record {
        count = omega (arith, rest.count, adds.1.count, count-some slot xs);
        kept = λ hash t leads. rest.kept hash t (adds.1.kept hash t leads);
        before = λ t within. rest.before t (omega arith)
            ∙ gained-other old adds.0 (p + 1) t adds.1.tokens (λ same. omega (arith, same));
        tokens = at rest;
        leads = led rest;
      }
    where
      at : AreKeyedPast (p + 1) xs adds.0 new → (i t : ℕ) → t ≡ p + 1 + i
          → has_token new t ≡ is_some (at_token (Some slot ∷ xs) (suc i) None)
      at rest zero t is =
          rest.before t (omega (arith, is))
          ∙ gained-here old adds.0 (p + 1) t adds.1.tokens (omega (arith, is))
      at rest (suc i) t is = rest.tokens i t (omega (arith, is))

      led : AreKeyedPast (p + 1) xs adds.0 new → (hash i t : ℕ) → t ≡ p + 1 + i
          → IsTrue (has_hash hash (at_token (Some slot ∷ xs) (suc i) None)) → Leads new hash t
      led rest hash zero t is has =
          let here : t ≡ p + 1 = omega (arith, is) in
          rw (here, ← eqb-true slot.hash hash has) (rest.kept slot.hash (p + 1) adds.1.leads)
      led rest hash (suc i) t is has = rest.leads hash i t (omega (arith, is)) has

  -- an empty index that got the token of each entry leads to each by its hash
  pub IsKeyed-all : (slab : Pool (Slot K V P T)) (empty index : Index)
      → AddsTokens (entries_after slab 0) empty index → HasNone empty → token_count empty ≡ 0
      → length slab.slots ≤ 4294967295
      → ((t : ℕ) → weight_at (item_at slab t) < 18446744073709551616)
      → count_by is_some slab.slots + length slab.free ≡ length slab.slots
      → IsKeyed slab index
  IsKeyed-all slab empty index adds none start few light counted =
      let all = keyed-past 0 slab.slots empty index adds (λ t past. none t) in
      record {
        leads = led all;
        tokens = at all;
        few = few;
        light = light;
        counted = omega (arith, all.count, start, counted);
      }
    where
      at : AreKeyedPast 0 slab.slots empty index → (t : ℕ)
          → has_token index t ≡ is_some (item_at slab t)
      at all zero = all.before 0 (omega arith) ∙ none 0
      at all (suc i) = all.tokens i (suc i) (omega arith)

      led : AreKeyedPast 0 slab.slots empty index → (hash t : ℕ) → HasHash slab hash t
          → Leads index hash t
      led all hash zero has = absurd (cc)
      led all hash (suc i) has = all.leads hash i (suc i) (omega arith) has
