-- The pairs of a cache when an item comes, goes, or changes its place.
use Rattle.std.proofs.Common.{◌≡◌, ℕ, ◌+◌, ◌==◌, Bool, true, false, if◌then◌else◌, List, [], ◌∷◌, ◌++◌, map, IsPermutation, refl, sym, ap}
use Rattle.std.proofs.Common.{ap₂, subst, ◌∙◌}
use Rattle.std.proofs.lemmas.List.{append-nil, map-append}
use Rattle.std.proofs.lemmas.List.Sorted.{IsPermutation-trans, IsPermutation-cons, IsPermutation-map, IsPermutation-middle}
use Rattle.std.proofs.lemmas.List.Sorted.{IsPermutation-append_left, IsPermutation-append_right, IsPermutation-append_comm}
use Rattle.quick_cache_model.specs.CacheState.{CacheState, Item, Place, InHot, InCold, InStill, items_at, with_items, place_of_item}
use Rattle.quick_cache_model.specs.CacheState.{entered, restarted_behind, rewritten, SameButOrder}
use Rattle.quick_cache_model.specs.Touches.{RaisesMarks}
use Rattle.quick_cache_model.specs.Eviction.{lowered}
use Rattle.quick_cache_model.specs.Removal.{pair_of}
use Rattle.quick_cache_model.proofs.TouchLaws.{with_touches-key, with_touches-value}
use Rattle.quick_cache_model.specs.Fates.{residents}

-- what is in the middle comes first, also behind and before other lists
middle_behind : {X : Type 0} (front before : List X) (x : X) (after rest : List X)
    → IsPermutation (front ++ ((before ++ x ∷ after) ++ rest))
    (x ∷ (front ++ ((before ++ after) ++ rest)))
middle_behind front before x after rest =
    IsPermutation-trans (front ++ ((before ++ x ∷ after) ++ rest))
    (front ++ (x ∷ ((before ++ after) ++ rest))) (x ∷ (front ++ ((before ++ after) ++ rest)))
    (IsPermutation-append_right front ((before ++ x ∷ after) ++ rest)
    (x ∷ ((before ++ after) ++ rest))
    (IsPermutation-append_left rest (before ++ x ∷ after) (x ∷ (before ++ after))
    (IsPermutation-middle before x after)))
    (IsPermutation-middle front x ((before ++ after) ++ rest))

-- in the last of three lists
middle_last : {X : Type 0} (first second before : List X) (x : X) (after : List X)
    → IsPermutation (first ++ (second ++ (before ++ x ∷ after)))
    (x ∷ (first ++ (second ++ (before ++ after))))
middle_last first second before x after =
    IsPermutation-trans (first ++ (second ++ (before ++ x ∷ after)))
    (first ++ (x ∷ (second ++ (before ++ after)))) (x ∷ (first ++ (second ++ (before ++ after))))
    (IsPermutation-append_right first (second ++ (before ++ x ∷ after))
    (x ∷ (second ++ (before ++ after)))
    (IsPermutation-trans (second ++ (before ++ x ∷ after)) (second ++ (x ∷ (before ++ after)))
    (x ∷ (second ++ (before ++ after)))
    (IsPermutation-append_right second (before ++ x ∷ after) (x ∷ (before ++ after))
    (IsPermutation-middle before x after))
    (IsPermutation-middle second x (before ++ after))))
    (IsPermutation-middle first x (second ++ (before ++ after)))

module _ {K V : Type 0} where
  -- the items of a cache
  abbrev pub items_of : CacheState K V → List (Item K V)
  items_of state = state.hot ++ (state.cold ++ state.still)

  -- an item between two lists
  between : (place : Place) (before : List (Item K V)) (item : Item K V)
      (after : List (Item K V)) (state : CacheState K V)
      → IsPermutation (items_of (with_items place (before ++ item ∷ after) state))
      (item ∷ items_of (with_items place (before ++ after) state))
  between InHot before item after state =
      middle_behind [] before item after (state.cold ++ state.still)
  between InCold before item after state =
      middle_behind state.hot before item after state.still
  between InStill before item after state =
      middle_last state.hot state.cold before item after

  pub residents-between : (place : Place) (before : List (Item K V)) (item : Item K V)
      (after : List (Item K V)) (state : CacheState K V)
      → IsPermutation (residents (with_items place (before ++ item ∷ after) state))
      (pair_of item ∷ residents (with_items place (before ++ after) state))
  residents-between place before item after state =
      IsPermutation-map pair_of (items_of (with_items place (before ++ item ∷ after) state))
      (item ∷ items_of (with_items place (before ++ after) state))
      (between place before item after state)

  -- the state with the items that it has
  with_same : (place : Place) (state : CacheState K V)
      → with_items place (items_at place state) state ≡ state
  with_same InHot state = refl
  with_same InCold state = refl
  with_same InStill state = refl

  -- an item that is there
  pub residents-split : (place : Place) (before : List (Item K V)) (item : Item K V)
      (after : List (Item K V)) (state : CacheState K V)
      → items_at place state ≡ before ++ item ∷ after
      → IsPermutation (residents state)
      (pair_of item ∷ residents (with_items place (before ++ after) state))
  residents-split place before item after state split =
      subst (λ (s : CacheState K V). IsPermutation (residents s)
      (pair_of item ∷ residents (with_items place (before ++ after) state)))
      (ap (λ (xs : List (Item K V)). with_items place xs state) (sym split)
      ∙ with_same place state)
      (residents-between place before item after state)

  -- a place whose items begin elsewhere
  pub residents-restarted : (place : Place) (before after : List (Item K V))
      (state : CacheState K V)
      → IsPermutation (residents (with_items place (before ++ after) state))
      (residents (with_items place (after ++ before) state))
  residents-restarted InHot before after state =
      IsPermutation-map pair_of ((before ++ after) ++ (state.cold ++ state.still))
      ((after ++ before) ++ (state.cold ++ state.still))
      (IsPermutation-append_left (state.cold ++ state.still) (before ++ after) (after ++ before)
      (IsPermutation-append_comm before after))
  residents-restarted InCold before after state =
      IsPermutation-map pair_of (state.hot ++ ((before ++ after) ++ state.still))
      (state.hot ++ ((after ++ before) ++ state.still))
      (IsPermutation-append_right state.hot ((before ++ after) ++ state.still)
      ((after ++ before) ++ state.still)
      (IsPermutation-append_left state.still (before ++ after) (after ++ before)
      (IsPermutation-append_comm before after)))
  residents-restarted InStill before after state =
      IsPermutation-map pair_of (state.hot ++ (state.cold ++ (before ++ after)))
      (state.hot ++ (state.cold ++ (after ++ before)))
      (IsPermutation-append_right state.hot (state.cold ++ (before ++ after))
      (state.cold ++ (after ++ before))
      (IsPermutation-append_right state.cold (before ++ after) (after ++ before)
      (IsPermutation-append_comm before after)))

  -- an item put last at a place
  pub residents-put : (place : Place) (item : Item K V) (state : CacheState K V)
      → IsPermutation (residents (with_items place (items_at place state ++ item ∷ []) state))
      (pair_of item ∷ residents state)
  residents-put place item state =
      subst (λ (s : CacheState K V). IsPermutation
      (residents (with_items place (items_at place state ++ item ∷ []) state))
      (pair_of item ∷ residents s))
      (ap (λ (xs : List (Item K V)). with_items place xs state)
      (append-nil (items_at place state)) ∙ with_same place state)
      (residents-between place (items_at place state) item [] state)

  pub residents-entered : (item : Item K V) (state : CacheState K V)
      → IsPermutation (residents (entered item state)) (pair_of item ∷ residents state)
  residents-entered item state = residents-put (place_of_item item) item state

  -- an item that is put last where the place begins elsewhere now
  entered_behind : (place : Place) (before : List (Item K V)) (item : Item K V)
      (after : List (Item K V)) (state : CacheState K V)
      → IsPermutation
      (residents (entered item (with_items place (restarted_behind before after) state)))
      (pair_of item ∷ residents (with_items place (before ++ after) state))
  entered_behind place before item after state =
      let behind = with_items place (after ++ before) state in
      IsPermutation-trans (residents (entered item behind)) (pair_of item ∷ residents behind)
      (pair_of item ∷ residents (with_items place (before ++ after) state))
      (residents-entered item behind)
      (IsPermutation-cons (pair_of item) (residents behind)
      (residents (with_items place (before ++ after) state))
      (residents-restarted place after before state))

  -- an item in the place of another, or moved as its weight says
  pub residents-rewritten : (place : Place) (before : List (Item K V)) (item : Item K V)
      (after : List (Item K V)) (state : CacheState K V)
      → IsPermutation (residents (rewritten place before item after state))
      (pair_of item ∷ residents (with_items place (before ++ after) state))
  residents-rewritten InStill before item after state = go (item.weight == 0)
    where
      go : (b : Bool) → IsPermutation
          (residents (if b then with_items InStill (before ++ item ∷ after) state
          else entered item (with_items InStill (before ++ after) state)))
          (pair_of item ∷ residents (with_items InStill (before ++ after) state))
      go true = residents-between InStill before item after state
      go false = residents-entered item (with_items InStill (before ++ after) state)
  residents-rewritten InHot before item after state = go (item.weight == 0)
    where
      go : (b : Bool) → IsPermutation
          (residents (if b
          then entered item (with_items InHot (restarted_behind before after) state)
          else with_items InHot (before ++ item ∷ after) state))
          (pair_of item ∷ residents (with_items InHot (before ++ after) state))
      go true = entered_behind InHot before item after state
      go false = residents-between InHot before item after state
  residents-rewritten InCold before item after state = go (item.weight == 0)
    where
      go : (b : Bool) → IsPermutation
          (residents (if b
          then entered item (with_items InCold (restarted_behind before after) state)
          else with_items InCold (before ++ item ∷ after) state))
          (pair_of item ∷ residents (with_items InCold (before ++ after) state))
      go true = entered_behind InCold before item after state
      go false = residents-between InCold before item after state

  -- lists with the same pairs at a place
  pub residents-same : (place : Place) (xs ys : List (Item K V)) (state : CacheState K V)
      → map pair_of xs ≡ map pair_of ys
      → residents (with_items place xs state) ≡ residents (with_items place ys state)
  residents-same InHot xs ys state same =
      map-append pair_of xs (state.cold ++ state.still)
      ∙ ap (λ ps. ps ++ map pair_of (state.cold ++ state.still)) same
      ∙ sym (map-append pair_of ys (state.cold ++ state.still))
  residents-same InCold xs ys state same =
      map-append pair_of state.hot (xs ++ state.still) ∙ ap (λ ps. map pair_of state.hot ++ ps)
      (map-append pair_of xs state.still ∙ ap (λ ps. ps ++ map pair_of state.still) same
      ∙ sym (map-append pair_of ys state.still))
      ∙ sym (map-append pair_of state.hot (ys ++ state.still))
  residents-same InStill xs ys state same =
      map-append pair_of state.hot (state.cold ++ xs) ∙ ap (λ ps. map pair_of state.hot ++ ps)
      (map-append pair_of state.cold xs ∙ ap (λ ps. map pair_of state.cold ++ ps) same
      ∙ sym (map-append pair_of state.cold ys))
      ∙ sym (map-append pair_of state.hot (state.cold ++ ys))

  -- lists with the same pairs in another order at a place
  pub residents-reordered : (place : Place) (xs ys : List (Item K V)) (state : CacheState K V)
      → IsPermutation (map pair_of xs) (map pair_of ys)
      → IsPermutation (residents (with_items place xs state))
      (residents (with_items place ys state))
  residents-reordered InHot xs ys state order =
      let rest = map pair_of (state.cold ++ state.still) in
      subst (λ ps. IsPermutation ps (residents (with_items InHot ys state)))
      (sym (map-append pair_of xs (state.cold ++ state.still)))
      (subst (λ ps. IsPermutation (map pair_of xs ++ rest) ps)
      (sym (map-append pair_of ys (state.cold ++ state.still)))
      (IsPermutation-append_left rest (map pair_of xs) (map pair_of ys) order))
  residents-reordered InCold xs ys state order =
      let hot = map pair_of state.hot in
      let rest = map pair_of state.still in
      subst (λ ps. IsPermutation ps (residents (with_items InCold ys state)))
      (sym (map-append pair_of state.hot (xs ++ state.still)
      ∙ ap (λ ps. hot ++ ps) (map-append pair_of xs state.still)))
      (subst (λ ps. IsPermutation (hot ++ (map pair_of xs ++ rest)) ps)
      (sym (map-append pair_of state.hot (ys ++ state.still)
      ∙ ap (λ ps. hot ++ ps) (map-append pair_of ys state.still)))
      (IsPermutation-append_right hot (map pair_of xs ++ rest) (map pair_of ys ++ rest)
      (IsPermutation-append_left rest (map pair_of xs) (map pair_of ys) order)))
  residents-reordered InStill xs ys state order =
      let hot = map pair_of state.hot in
      let cold = map pair_of state.cold in
      subst (λ ps. IsPermutation ps (residents (with_items InStill ys state)))
      (sym (map-append pair_of state.hot (state.cold ++ xs)
      ∙ ap (λ ps. hot ++ ps) (map-append pair_of state.cold xs)))
      (subst (λ ps. IsPermutation (hot ++ (cold ++ map pair_of xs)) ps)
      (sym (map-append pair_of state.hot (state.cold ++ ys)
      ∙ ap (λ ps. hot ++ ps) (map-append pair_of state.cold ys)))
      (IsPermutation-append_right hot (cold ++ map pair_of xs) (cold ++ map pair_of ys)
      (IsPermutation-append_right cold (map pair_of xs) (map pair_of ys) order)))

  -- lowered marks change no pair
  pub pairs-lowered : (n : ℕ) (items : List (Item K V))
      → map pair_of (map (lowered n) items) ≡ map pair_of items
  pairs-lowered n [] = refl
  pairs-lowered n (x ∷ xs) = ap (λ ps. pair_of x ∷ ps) (pairs-lowered n xs)

  -- nor do touches
  pub pairs-raised : (cut : ℕ) (may_count : ℕ → Type 0) (old new : List (Item K V))
      → RaisesMarks cut may_count old new → map pair_of old ≡ map pair_of new
  pairs-raised cut may_count [] [] raised = refl
  pairs-raised cut may_count [] (y ∷ ys) raised = absurd raised
  pairs-raised cut may_count (x ∷ xs) [] raised = absurd raised
  pairs-raised cut may_count (x ∷ xs) (y ∷ ys) raised =
      let key : y.key ≡ x.key = ap (λ (i : Item K V). i.key) raised.0.2
      ∙ with_touches-key cut raised.0.0 x in
      let value : y.value ≡ x.value = ap (λ (i : Item K V). i.value) raised.0.2
      ∙ with_touches-value cut raised.0.0 x in
      ap₂ (λ (p : K × V) ps. p ∷ ps) (λ i. (sym key i, sym value i))
      (pairs-raised cut may_count xs ys raised.1)

  -- a ring whose marks were raised, without the item that was found in it
  pub residents-found : (place : Place) (cut : ℕ) (may_count : ℕ → Type 0)
      (raised before : List (Item K V)) (item : Item K V) (after : List (Item K V))
      (state : CacheState K V)
      → RaisesMarks cut may_count (items_at place state) raised
      → raised ≡ before ++ item ∷ after
      → IsPermutation (residents state)
      (pair_of item ∷ residents (with_items place (after ++ before) state))
  residents-found place cut may_count raised before item after state raises split =
      let rest = residents (with_items place (before ++ after) state) in
      IsPermutation-trans (residents state) (pair_of item ∷ rest)
      (pair_of item ∷ residents (with_items place (after ++ before) state))
      (subst (λ ps. IsPermutation ps (pair_of item ∷ rest))
      (residents-same place (before ++ item ∷ after) (items_at place state) state
      (ap (map pair_of) (sym split)
      ∙ sym (pairs-raised cut may_count (items_at place state) raised raises))
      ∙ ap residents (with_same place state))
      (residents-between place before item after state))
      (IsPermutation-cons (pair_of item) rest
      (residents (with_items place (after ++ before) state))
      (residents-restarted place before after state))

  -- a ring whose marks were raised
  pub residents-raised : (place : Place) (cut : ℕ) (may_count : ℕ → Type 0)
      (raised : List (Item K V)) (state : CacheState K V)
      → RaisesMarks cut may_count (items_at place state) raised
      → residents state ≡ residents (with_items place raised state)
  residents-raised place cut may_count raised state raises =
      sym (ap residents (with_same place state))
      ∙ residents-same place (items_at place state) raised state
      (pairs-raised cut may_count (items_at place state) raised raises)

  -- another order of what has none
  pub residents-ordered : (old new : CacheState K V) → SameButOrder old new
      → IsPermutation (residents old) (residents new)
  residents-ordered old new order =
      subst (λ (s : CacheState K V). IsPermutation (residents old) (residents s)) (sym order.same)
      (IsPermutation-map pair_of (old.hot ++ (old.cold ++ old.still))
      (old.hot ++ (old.cold ++ new.still))
      (IsPermutation-append_right old.hot (old.cold ++ old.still) (old.cold ++ new.still)
      (IsPermutation-append_right old.cold old.still new.still order.still)))
