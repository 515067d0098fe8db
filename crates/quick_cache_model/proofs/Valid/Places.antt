-- What it does to keys and places to take an item out, to put one in, and to write one over
-- another.
use Rattle.std.proofs.Common.{◌≡◌, ◌+◌, ◌<◌, ◌≤◌, ◌==◌, Bool, true, false, if◌then◌else◌, List, [], ◌∷◌, ◌++◌, refl, ap, subst, ◌∙◌, arith}
use Rattle.std.proofs.lemmas.Bool.{eqb-true, eqb-false}
use Rattle.std.specs.List.{AllByRecursion}
use Rattle.quick_cache_model.specs.declared.queue.Queue.{Queue}
use Rattle.quick_cache_model.specs.CacheState.{CacheState, Item, Place, InHot, InCold, InStill, ring_place, items_at, with_items}
use Rattle.quick_cache_model.specs.CacheState.{place_of_item, entered, restarted_behind, rewritten, keys_by, IsRingItem, IsStillItem}
use Rattle.quick_cache_model.proofs.EachElement.{all-middle, all-without, all-instead, all-restarted, all-push}
use Rattle.quick_cache_model.proofs.KeyCounts.{one, keys, keys-cons, keys-append, keys-split}
use Rattle.quick_cache_model.proofs.Eviction.InPlace.{IsInPlace}

module _ {K V : Type 0} where
  -- two states differ in their items at most
  abbrev pub IsSameButItems : CacheState K V → CacheState K V → Type 0
  IsSameButItems old new = new ≡ record old { hot = new.hot; cold = new.cold; still = new.still }

  -- the state with an item last at a place
  abbrev pub put : Place → Item K V → CacheState K V → CacheState K V
  put place item state = with_items place (items_at place state ++ item ∷ []) state

  -- other items at a place change items alone
  pub with_items-same : (place : Place) (items : List (Item K V)) (state : CacheState K V)
      → IsSameButItems state (with_items place items state)
  with_items-same InHot items state = refl
  with_items-same InCold items state = refl
  with_items-same InStill items state = refl

  -- an item that enters changes items alone
  pub entered-same : (item : Item K V) (state : CacheState K V)
      → IsSameButItems state (entered item state)
  entered-same item state = with_items-same (place_of_item item)
      (items_at (place_of_item item) state ++ item ∷ []) state

  -- two changes of items alone are one
  pub IsSameButItems-trans : (old mid new : CacheState K V) → IsSameButItems old mid
      → IsSameButItems mid new → IsSameButItems old new
  IsSameButItems-trans old mid new a b = b ∙ ap
      (λ (s : CacheState K V). record s { hot = new.hot; cold = new.cold; still = new.still }) a

  -- and so does one that is written over another
  pub rewritten-same : (place : Place) (before : List (Item K V)) (item : Item K V)
      (after : List (Item K V)) (state : CacheState K V)
      → IsSameButItems state (rewritten place before item after state)
  rewritten-same InStill before item after state = go (item.weight == 0)
    where
      go : (b : Bool) → IsSameButItems state (if b then with_items InStill (before ++ item ∷ after)
          state else entered item (with_items InStill (before ++ after) state))
      go true = refl
      go false = IsSameButItems-trans state (record state { still = before ++ after })
          (entered item (record state { still = before ++ after })) refl
          (entered-same item (record state { still = before ++ after }))
  rewritten-same InHot before item after state = go (item.weight == 0)
    where
      go : (b : Bool) → IsSameButItems state (if b then entered item
          (with_items InHot (restarted_behind before after) state) else with_items InHot
          (before ++ item ∷ after) state)
      go true = IsSameButItems-trans state (record state { hot = after ++ before })
          (entered item (record state { hot = after ++ before })) refl
          (entered-same item (record state { hot = after ++ before }))
      go false = refl
  rewritten-same InCold before item after state = go (item.weight == 0)
    where
      go : (b : Bool) → IsSameButItems state (if b then entered item
          (with_items InCold (restarted_behind before after) state) else with_items InCold
          (before ++ item ∷ after) state)
      go true = IsSameButItems-trans state (record state { cold = after ++ before })
          (entered item (record state { cold = after ++ before })) refl
          (entered-same item (record state { cold = after ++ before }))
      go false = refl

  module _ (test : K → Bool) where
    -- a state without an item has one key less, where that one passes
    pub keys_by-without : (place : Place) (before : List (Item K V)) (item : Item K V)
        (after : List (Item K V)) (state : CacheState K V)
        → items_at place state ≡ before ++ item ∷ after
        → keys_by test (with_items place (before ++ after) state)
        + one test item.key ≡ keys_by test state
    keys_by-without InHot before item after state split =
        omega (
          arith,
          ap (keys test) split,
          keys-split test before item after,
          keys-append test
              before after,
        )
    keys_by-without InCold before item after state split =
        omega (
          arith,
          ap (keys test) split,
          keys-split test before item after,
          keys-append test
              before after,
        )
    keys_by-without InStill before item after state split =
        omega (
          arith,
          ap (keys test) split,
          keys-split test before item after,
          keys-append test
              before after,
        )

    -- with another item in its place, it has that one's key
    pub keys_by-instead : (place : Place) (before : List (Item K V)) (item new : Item K V)
        (after : List (Item K V)) (state : CacheState K V)
        → items_at place state ≡ before ++ item ∷ after
        → keys_by test (with_items place (before ++ new ∷ after) state)
        + one test item.key ≡ keys_by test state + one test new.key
    keys_by-instead InHot before item new after state split =
        omega (
          arith,
          ap (keys test) split,
          keys-split test before item after,
          keys-split test
              before new after,
        )
    keys_by-instead InCold before item new after state split =
        omega (
          arith,
          ap (keys test) split,
          keys-split test before item after,
          keys-split test
              before new after,
        )
    keys_by-instead InStill before item new after state split =
        omega (
          arith,
          ap (keys test) split,
          keys-split test before item after,
          keys-split test
              before new after,
        )

    -- an item that is put last at a place brings its key
    pub keys_by-put : (place : Place) (item : Item K V) (state : CacheState K V)
        → keys_by test (put place item state) ≡ keys_by test state + one test item.key
    keys_by-put InHot item state = omega (
      arith,
      keys-append test state.hot
          (item ∷ []),
      keys-cons test item [],
    )
    keys_by-put InCold item state = omega (
      arith,
      keys-append test state.cold
          (item ∷ []),
      keys-cons test item [],
    )
    keys_by-put InStill item state = omega (
      arith,
      keys-append test state.still
          (item ∷ []),
      keys-cons test item [],
    )

    -- an item that enters brings its key
    pub keys_by-entered : (item : Item K V) (state : CacheState K V)
        → keys_by test (entered item state) ≡ keys_by test state + one test item.key
    keys_by-entered item state = keys_by-put (place_of_item item) item state

    -- one that is written over another brings its key for the other's
    pub keys_by-rewritten : (place : Place) (before : List (Item K V)) (item new : Item K V)
        (after : List (Item K V)) (state : CacheState K V)
        → items_at place state ≡ before ++ item ∷ after
        → keys_by test (rewritten place before new after state)
        + one test item.key ≡ keys_by test state + one test new.key
    keys_by-rewritten InStill before item new after state split = go (new.weight == 0)
      where
        go : (b : Bool) → keys_by test (if b then with_items InStill (before ++ new ∷ after)
            state else entered new (with_items InStill (before ++ after) state)) + one test item.key
            ≡ keys_by test state + one test new.key
        go true = keys_by-instead InStill before item new after state split
        go false = omega (
          arith,
          keys_by-entered new
              (record state { still = before ++ after }),
          keys_by-without InStill before item after
              state split,
        )
    keys_by-rewritten InHot before item new after state split = go (new.weight == 0)
      where
        go : (b : Bool) → keys_by test (if b then entered new
            (with_items InHot (restarted_behind before after) state) else with_items InHot
            (before ++ new ∷ after) state) + one test item.key
            ≡ keys_by test state + one test new.key
        go true = omega (
          arith,
          keys_by-entered new (record state { hot = after ++ before }),
          ap (keys test) split,
          keys-split test before item after,
          keys-append test after before,
        )
        go false = keys_by-instead InHot before item new after state split
    keys_by-rewritten InCold before item new after state split = go (new.weight == 0)
      where
        go : (b : Bool) → keys_by test (if b then entered new
            (with_items InCold (restarted_behind before after) state) else with_items InCold
            (before ++ new ∷ after) state) + one test item.key
            ≡ keys_by test state + one test new.key
        go true = omega (
          arith,
          keys_by-entered new (record state { cold = after ++ before }),
          ap (keys test) split,
          keys-split test before item after,
          keys-append test after before,
        )
        go false = keys_by-instead InCold before item new after state split

  -- an item of a place has a mark up to the greatest
  pub IsInPlace-marked : (place : Place) (before : List (Item K V)) (item : Item K V)
      (after : List (Item K V)) (state : CacheState K V)
      → items_at place state ≡ before ++ item ∷ after → IsInPlace state → item.mark ≤ state.mark_cut
  IsInPlace-marked InHot before item after state split all =
      (all-middle (IsRingItem state.mark_cut Queue.Hot) before item after
      (subst (λ (xs : List (Item K V)). AllByRecursion (IsRingItem state.mark_cut Queue.Hot) xs)
      split all.in_hot)).marked
  IsInPlace-marked InCold before item after state split all =
      (all-middle (IsRingItem state.mark_cut Queue.Cold) before item after
      (subst (λ (xs : List (Item K V)). AllByRecursion (IsRingItem state.mark_cut Queue.Cold) xs)
      split all.in_cold)).marked
  IsInPlace-marked InStill before item after state split all =
      (all-middle (IsStillItem state.mark_cut) before item after
      (subst (λ (xs : List (Item K V)). AllByRecursion (IsStillItem state.mark_cut) xs) split
      all.in_still)).marked

  -- an item taken out leaves the others in place
  pub without-in_place : (place : Place) (before : List (Item K V)) (item : Item K V)
      (after : List (Item K V)) (state : CacheState K V)
      → items_at place state ≡ before ++ item ∷ after → IsInPlace state
      → IsInPlace (with_items place (before ++ after) state)
  without-in_place InHot before item after state split all = record {
    in_hot = all-without (IsRingItem state.mark_cut Queue.Hot) before item after
        (subst (λ (xs : List (Item K V)). AllByRecursion (IsRingItem state.mark_cut Queue.Hot) xs)
        split
        all.in_hot);
    in_cold = all.in_cold;
    in_still = all.in_still;
  }
  without-in_place InCold before item after state split all = record {
    in_hot = all.in_hot;
    in_cold = all-without (IsRingItem state.mark_cut Queue.Cold) before item after
        (subst (λ (xs : List (Item K V)). AllByRecursion (IsRingItem state.mark_cut Queue.Cold) xs)
        split
        all.in_cold);
    in_still = all.in_still;
  }
  without-in_place InStill before item after state split all = record {
    in_hot = all.in_hot;
    in_cold = all.in_cold;
    in_still = all-without (IsStillItem state.mark_cut) before item after
        (subst (λ (xs : List (Item K V)). AllByRecursion (IsStillItem state.mark_cut) xs) split
        all.in_still);
  }

  -- an item that enters goes where its weight and its queue say
  pub entered-in_place : (item : Item K V) (state : CacheState K V) → item.mark ≤ state.mark_cut
      → IsInPlace state → IsInPlace (entered item state)
  entered-in_place item state marked all = go (item.weight == 0) refl
    where
      ring : (queue : Queue) → item.queue ≡ queue → 0 < item.weight
          → IsInPlace (put (ring_place queue) item state)
      ring Queue.Hot is weighs = record {
        in_hot = all-push (IsRingItem state.mark_cut Queue.Hot) state.hot item all.in_hot
            (record { weighs = weighs; of_queue = is; marked = marked });
        in_cold = all.in_cold;
        in_still = all.in_still;
      }
      ring Queue.Cold is weighs = record {
        in_hot = all.in_hot;
        in_cold = all-push (IsRingItem state.mark_cut Queue.Cold) state.cold item all.in_cold
            (record { weighs = weighs; of_queue = is; marked = marked });
        in_still = all.in_still;
      }

      go : (b : Bool) → (item.weight == 0) ≡ b
          → IsInPlace (put (if b then InStill else ring_place item.queue) item state)
      go true is = record {
        in_hot = all.in_hot;
        in_cold = all.in_cold;
        in_still = all-push (IsStillItem state.mark_cut) state.still item all.in_still
            (record { weightless = eqb-true item.weight 0 is; marked = marked });
      }
      go false is = let some = eqb-false item.weight 0 is in ring item.queue refl (omega arith)

  -- so does one that is written over another of its queue
  pub rewritten-in_place : (place : Place) (before : List (Item K V)) (item new : Item K V)
      (after : List (Item K V)) (state : CacheState K V)
      → items_at place state ≡ before ++ item ∷ after → new.queue ≡ item.queue
      → new.mark ≤ state.mark_cut
      → IsInPlace state → IsInPlace (rewritten place before new after state)
  rewritten-in_place InStill before item new after state split queue marked all =
      go (new.weight == 0) refl
    where
      go : (b : Bool) → (new.weight == 0) ≡ b
          → IsInPlace (if b then with_items InStill (before ++ new ∷ after) state else entered new
          (with_items InStill (before ++ after) state))
      go true is = record {
        in_hot = all.in_hot;
        in_cold = all.in_cold;
        in_still = all-instead (IsStillItem state.mark_cut) before item new after
            (record { weightless = eqb-true new.weight 0 is; marked = marked })
            (subst (λ (xs : List (Item K V)). AllByRecursion (IsStillItem state.mark_cut) xs) split
            all.in_still);
      }
      go false is = entered-in_place new (record state { still = before ++ after }) marked
          (without-in_place InStill before item after state split all)
  rewritten-in_place InHot before item new after state split queue marked all =
      go (new.weight == 0) refl
    where
      ring : AllByRecursion (IsRingItem state.mark_cut Queue.Hot) (before ++ item ∷ after)
      ring = subst (λ (xs : List (Item K V)). AllByRecursion (IsRingItem state.mark_cut Queue.Hot)
          xs)
          split all.in_hot

      go : (b : Bool) → (new.weight == 0) ≡ b
          → IsInPlace (if b then entered new (with_items InHot (restarted_behind before after)
          state) else with_items InHot (before ++ new ∷ after) state)
      go true is = entered-in_place new (record state { hot = after ++ before }) marked
          (record {
            in_hot = all-restarted (IsRingItem state.mark_cut Queue.Hot) before item after ring;
            in_cold =
                all.in_cold;
            in_still = all.in_still;
          })
      go false is = let some = eqb-false new.weight 0 is in record {
        in_hot = all-instead (IsRingItem state.mark_cut Queue.Hot) before item new after
            (record {
              weighs = omega arith;
              of_queue =
                  queue ∙ (all-middle (IsRingItem state.mark_cut Queue.Hot) before item after
                  ring).of_queue;
              marked =
                  marked;
            }) ring;
        in_cold = all.in_cold;
        in_still = all.in_still;
      }
  rewritten-in_place InCold before item new after state split queue marked all =
      go (new.weight == 0) refl
    where
      ring : AllByRecursion (IsRingItem state.mark_cut Queue.Cold) (before ++ item ∷ after)
      ring = subst (λ (xs : List (Item K V)). AllByRecursion (IsRingItem state.mark_cut Queue.Cold)
          xs)
          split all.in_cold

      go : (b : Bool) → (new.weight == 0) ≡ b
          → IsInPlace (if b then entered new (with_items InCold (restarted_behind before after)
          state) else with_items InCold (before ++ new ∷ after) state)
      go true is = entered-in_place new (record state { cold = after ++ before }) marked
          (record {
            in_hot = all.in_hot;
            in_cold =
                all-restarted (IsRingItem state.mark_cut Queue.Cold) before item after ring;
            in_still = all.in_still;
          })
      go false is = let some = eqb-false new.weight 0 is in record {
        in_hot = all.in_hot;
        in_cold = all-instead (IsRingItem state.mark_cut Queue.Cold) before item new after
            (record {
              weighs = omega arith;
              of_queue =
                  queue ∙ (all-middle (IsRingItem state.mark_cut Queue.Cold) before item after
                  ring).of_queue;
              marked =
                  marked;
            }) ring;
        in_still = all.in_still;
      }
