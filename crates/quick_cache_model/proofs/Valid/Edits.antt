-- Single edits that lead from a valid state to a valid one.
use Rattle.std.proofs.Common.{◌≡◌, ℕ, ◌+◌, ◌≤◌, Bool, true, false, cond, List, [], ◌∷◌, ◌++◌, length, refl, ap, subst, ◌∙◌, arith}
use Rattle.std.proofs.Common.{length-append}
use Rattle.std.specs.List.{AllByRecursion}
use Rattle.std.specs.Cmp.{IsEquivalence}
use Rattle.quick_cache_model.specs.declared.queue.Queue.{Queue}
use Rattle.quick_cache_model.specs.CacheState.{CacheState, Item, LoadingEntry, Place, InHot, InCold, InStill, items_at, with_items, entered}
use Rattle.quick_cache_model.specs.CacheState.{rewritten, keys_by, IsRingItem, IsStillItem, IsValid}
use Rattle.quick_cache_model.specs.Lookups.{after_hit, after_miss}
use Rattle.quick_cache_model.specs.Placeholders.{with_placeholder}
use Rattle.quick_cache_model.specs.Removal.{cleared, retained}
use Rattle.quick_cache_model.proofs.EachElement.{all-middle, all-instead, all-filter}
use Rattle.quick_cache_model.proofs.KeyCounts.{one, one_if, keys, keys-cons, loading_keys, loading_keys-cons, loading_keys-append}
use Rattle.quick_cache_model.proofs.KeyCounts.{loading_keys-split}
use Rattle.quick_cache_model.proofs.Eviction.InPlace.{IsInPlace}
use Rattle.quick_cache_model.proofs.Valid.Places.{with_items-same, entered-same, rewritten-same, keys_by-without, keys_by-instead}
use Rattle.quick_cache_model.proofs.Valid.Places.{keys_by-entered, keys_by-rewritten, without-in_place, entered-in_place}
use Rattle.quick_cache_model.proofs.Valid.Places.{rewritten-in_place}
use Rattle.quick_cache_model.proofs.EqualKeys.{one-equal, keys_by-new}
use Rattle.quick_cache_model.proofs.Valid.Tickets.{AreTickets, AreTickets-without, AreTickets-push}
use Rattle.quick_cache_model.proofs.Valid.States.{IsValid-parts, IsValid-tickets, IsValid-in_place, IsValid-items, IsValid-ghosts}

module _ {K V : Type 0} where
  -- an item in the place of another, with its queue and its weight
  pub instead-in_place : (place : Place) (before : List (Item K V)) (item new : Item K V)
      (after : List (Item K V)) (state : CacheState K V)
      → items_at place state ≡ before ++ item ∷ after → new.queue ≡ item.queue
      → new.weight ≡ item.weight → new.mark ≤ state.mark_cut
      → IsInPlace state → IsInPlace (with_items place (before ++ new ∷ after) state)
  instead-in_place InHot before item new after state split queue weight marked all = record {
    in_hot = ring (subst (λ (xs : List (Item K V)). AllByRecursion
        (IsRingItem state.mark_cut Queue.Hot) xs)
        split all.in_hot);
    in_cold = all.in_cold;
    in_still = all.in_still;
  }
    where
      ring : AllByRecursion (IsRingItem state.mark_cut Queue.Hot) (before ++ item ∷ after)
          → AllByRecursion (IsRingItem state.mark_cut Queue.Hot) (before ++ new ∷ after)
      ring was = let h = all-middle (IsRingItem state.mark_cut Queue.Hot) before item after was
          in all-instead
          (IsRingItem state.mark_cut Queue.Hot) before item new after
          (record {
            weighs = omega (arith, h.weighs, weight);
            of_queue =
                queue ∙ h.of_queue;
            marked = marked;
          }) was
  instead-in_place InCold before item new after state split queue weight marked all = record {
    in_hot = all.in_hot;
    in_cold = ring (subst (λ (xs : List (Item K V)). AllByRecursion
        (IsRingItem state.mark_cut Queue.Cold) xs)
        split all.in_cold);
    in_still = all.in_still;
  }
    where
      ring : AllByRecursion (IsRingItem state.mark_cut Queue.Cold) (before ++ item ∷ after)
          → AllByRecursion (IsRingItem state.mark_cut Queue.Cold) (before ++ new ∷ after)
      ring was = let h = all-middle (IsRingItem state.mark_cut Queue.Cold) before item after was
          in all-instead
          (IsRingItem state.mark_cut Queue.Cold) before item new after
          (record {
            weighs = omega (arith, h.weighs, weight);
            of_queue =
                queue ∙ h.of_queue;
            marked = marked;
          }) was
  instead-in_place InStill before item new after state split queue weight marked all = record {
    in_hot = all.in_hot;
    in_cold = all.in_cold;
    in_still = ring (subst (λ (xs : List (Item K V)). AllByRecursion
        (IsStillItem state.mark_cut) xs)
        split all.in_still);
  }
    where
      ring : AllByRecursion (IsStillItem state.mark_cut) (before ++ item ∷ after)
          → AllByRecursion (IsStillItem state.mark_cut) (before ++ new ∷ after)
      ring was = let h = all-middle (IsStillItem state.mark_cut) before item after was
          in all-instead (IsStillItem state.mark_cut)
          before item new after (record { weightless = weight ∙ h.weightless; marked = marked }) was

  -- a filter brings no key
  pub keys-filter : (test : K → Bool) (keeps : K → V → Bool) (items : List (Item K V))
      → keys test (retained keeps items) ≤ keys test items
  keys-filter test keeps [] = omega arith
  keys-filter test keeps (x ∷ xs) = go (keeps x.key x.value) (keys-filter test keeps xs)
    where
      go : (b : Bool) → keys test (retained keeps xs) ≤ keys test xs
          → keys test (cond b (x ∷ retained keeps xs) (retained keeps xs)) ≤ keys test (x ∷ xs)
      go true less = omega (arith, less, keys-cons test x (retained keeps xs), keys-cons test x xs)
      go false less = omega (arith, less, keys-cons test x xs)

  -- a state without a placeholder has one key less, where that one passes
  pub keys_by-unloaded : (test : K → Bool) (before : List (LoadingEntry K)) (entry : LoadingEntry K)
      (after : List (LoadingEntry K)) (state : CacheState K V)
      → state.loading ≡ before ++ entry ∷ after
      → keys_by test (record state { loading = before ++ after })
      + one test entry.key ≡ keys_by test state
  keys_by-unloaded test before entry after state split =
      omega (
        arith,
        ap (loading_keys test) split,
        loading_keys-split test before entry after,
        loading_keys-append test before after,
      )

module _ {K V : Type 0} (equal : K → K → Bool) where
  -- a hit is counted
  pub after_hit-valid : (state : CacheState K V) → IsValid equal state
      → IsValid equal (after_hit state)
  after_hit-valid state valid =
      IsValid-parts equal (after_hit state) valid.one_entry_a_key
      (IsValid-tickets equal state valid) valid.ghosts_within
      (record { in_hot = valid.in_hot; in_cold = valid.in_cold; in_still = valid.in_still })

  -- a miss is counted
  pub after_miss-valid : (state : CacheState K V) → IsValid equal state
      → IsValid equal (after_miss state)
  after_miss-valid state valid =
      IsValid-parts equal (after_miss state) valid.one_entry_a_key
      (IsValid-tickets equal state valid) valid.ghosts_within
      (record { in_hot = valid.in_hot; in_cold = valid.in_cold; in_still = valid.in_still })

  -- a ghost goes
  pub without_ghost-valid : (before : List ℕ) (hash : ℕ) (after : List ℕ) (state : CacheState K V)
      → state.ghosts ≡ before ++ hash ∷ after
      → IsValid equal state → IsValid equal (record state { ghosts = before ++ after })
  without_ghost-valid before hash after state split valid =
      IsValid-ghosts equal (before ++ after) state
      (omega (
        arith,
        valid.ghosts_within,
        ap length split,
        length-append before (hash ∷ after),
        length-append before after,
      ))
      valid

  -- a placeholder goes
  pub unloaded-valid : (before : List (LoadingEntry K)) (entry : LoadingEntry K)
      (after : List (LoadingEntry K)) (state : CacheState K V)
      → state.loading ≡ before ++ entry ∷ after → IsValid equal state
      → IsValid equal (record state { loading = before ++ after })
  unloaded-valid before entry after state split valid =
      IsValid-parts equal (record state { loading = before ++ after })
      (λ k. let was = valid.one_entry_a_key k in omega
      (arith, was, keys_by-unloaded (equal k) before entry after state split))
      (AreTickets-without state.next_ticket before entry after
      (subst (λ (l : List (LoadingEntry K)). AreTickets state.next_ticket l) split
      (IsValid-tickets equal state valid)))
      valid.ghosts_within
      (record { in_hot = valid.in_hot; in_cold = valid.in_cold; in_still = valid.in_still })

  -- an item goes
  pub without-valid : (place : Place) (before : List (Item K V)) (item : Item K V)
      (after : List (Item K V)) (state : CacheState K V)
      → items_at place state ≡ before ++ item ∷ after → IsValid equal state
      → IsValid equal (with_items place (before ++ after) state)
  without-valid place before item after state split valid =
      IsValid-items equal state (with_items place (before ++ after) state)
      (with_items-same place (before ++ after) state) valid
      (λ k. let was = valid.one_entry_a_key k in omega
      (arith, was, keys_by-without (equal k) place before item after state split))
      (without-in_place place before item after state split (IsValid-in_place equal state valid))

  -- an item changes its marks and its reads
  pub instead-valid : (place : Place) (before : List (Item K V)) (item new : Item K V)
      (after : List (Item K V)) (state : CacheState K V)
      → items_at place state ≡ before ++ item ∷ after → new.key ≡ item.key → new.queue ≡ item.queue
      → new.weight ≡ item.weight → new.mark ≤ state.mark_cut
      → IsValid equal state → IsValid equal (with_items place (before ++ new ∷ after) state)
  instead-valid place before item new after state split key queue weight marked valid =
      IsValid-items equal state (with_items place (before ++ new ∷ after) state)
      (with_items-same place (before ++ new ∷ after) state) valid
      (λ k. let was = valid.one_entry_a_key k in
      omega (
        arith,
        was,
        keys_by-instead (equal k) place before item new after state split,
        ap
            (one (equal k)) key,
      ))
      (instead-in_place place before item new after state split queue weight marked
      (IsValid-in_place equal state valid))

  -- items go that a test does not keep
  pub retained-valid : (keeps : K → V → Bool) (state : CacheState K V) → IsValid equal state
      → IsValid equal (record state {
        hot = retained keeps state.hot;
        cold =
            retained keeps state.cold;
        still = retained keeps state.still;
      })
  retained-valid keeps state valid =
      IsValid-parts equal (record state {
        hot = retained keeps state.hot;
        cold =
            retained keeps state.cold;
        still = retained keeps state.still;
      })
      (λ k. let was = valid.one_entry_a_key k in
      omega (
        arith,
        was,
        keys-filter (equal k) keeps state.hot,
        keys-filter (equal k)
            keeps state.cold,
        keys-filter (equal k) keeps state.still,
      ))
      (IsValid-tickets equal state valid)
      valid.ghosts_within
      (record {
        in_hot = all-filter (IsRingItem state.mark_cut Queue.Hot)
            (λ item. keeps item.key item.value)
            state.hot valid.in_hot;
        in_cold = all-filter (IsRingItem state.mark_cut Queue.Cold)
            (λ item. keeps item.key item.value)
            state.cold valid.in_cold;
        in_still = all-filter (IsStillItem state.mark_cut) (λ item. keeps item.key item.value)
            state.still valid.in_still;
      })

  -- all goes
  pub cleared-valid : (state : CacheState K V) → IsValid equal (cleared state)
  cleared-valid state = record {
    one_entry_a_key = λ k. omega arith;
    one_entry_a_ticket = λ n. omega arith;
    tickets_given = tt;
    ghosts_within = omega arith;
    in_hot = tt;
    in_cold = tt;
    in_still = tt;
  }

  module _ (laws : IsEquivalence equal) where
    -- an item enters whose key is equal to none
    pub entered-valid : (item : Item K V) (state : CacheState K V)
        → keys_by (equal item.key) state ≡ 0 → item.mark ≤ state.mark_cut
        → IsValid equal state → IsValid equal (entered item state)
    entered-valid item state none marked valid =
        IsValid-items equal state (entered item state) (entered-same item state) valid
        (λ k. omega (
          arith,
          keys_by-entered (equal k)
              item state,
          keys_by-new equal laws item.key state none valid.one_entry_a_key k,
        ))
        (entered-in_place item state marked (IsValid-in_place equal state valid))

    -- an item is written over one of an equal key and of its queue
    pub rewritten-valid : (place : Place) (before : List (Item K V)) (item new : Item K V)
        (after : List (Item K V)) (state : CacheState K V)
        → items_at place state ≡ before ++ item ∷ after → equal new.key item.key ≡ true
        → new.queue ≡ item.queue → new.mark ≤ state.mark_cut
        → IsValid equal state → IsValid equal (rewritten place before new after state)
    rewritten-valid place before item new after state split same queue marked valid =
        IsValid-items equal state (rewritten place before new after state)
        (rewritten-same place before new after state) valid
        (λ k. let was = valid.one_entry_a_key k in
        omega (
          arith,
          was,
          keys_by-rewritten (equal k)
              place before item new after state split,
          one-equal equal laws k new.key item.key same,
        ))
        (rewritten-in_place place before item new after state split queue marked
        (IsValid-in_place equal state valid))

    -- a placeholder is made for a key that is equal to none
    pub with_placeholder-valid : (key : K) (queue : Queue) (state : CacheState K V)
        → keys_by (equal key) state ≡ 0
        → IsValid equal state → IsValid equal (with_placeholder key queue state)
    with_placeholder-valid key queue state none valid =
        let entry : LoadingEntry K = record { key = key; queue = queue; ticket = state.next_ticket }
        in
        IsValid-parts equal (with_placeholder key queue state)
        (λ k. omega (
          arith,
          loading_keys-append (equal k) state.loading (entry ∷ []),
          loading_keys-cons (equal k) entry [],
          keys_by-new equal laws key state none valid.one_entry_a_key k,
        ))
        (AreTickets-push state.next_ticket state.loading entry refl
        (IsValid-tickets equal state valid))
        valid.ghosts_within
        (record { in_hot = valid.in_hot; in_cold = valid.in_cold; in_still = valid.in_still })

    -- A key whose entry was taken out is equal to none of the rest.
    pub keys_by-taken : (key : K) (old new : CacheState K V) (entry_key : K)
        → equal key entry_key ≡ true → keys_by (equal key) new + one (equal key) entry_key ≡ keys_by
        (equal key) old
        → IsValid equal old → keys_by (equal key) new ≡ 0
    keys_by-taken key old new entry_key same taken valid =
        omega (arith, taken, valid.one_entry_a_key key, ap one_if same)
