-- An insert under a key of which nothing is found keeps a pair that passed its check.
use Rattle.std.proofs.Common.{◌≡◌, ◌≢◌, Bool, false, true≢false, List, [], ◌∷◌, ◌++◌, Option, None, refl, sym, subst, ◌∙◌, ap}
use Rattle.std.proofs.Common.{IsPermutation, append_assoc}
use Rattle.std.specs.List.{AllByRecursion}
use Rattle.quick_cache_model.specs.declared.queue.Queue.{Queue}
use Rattle.quick_cache_model.specs.CacheState.{CacheState, Item, Place, InHot, InCold, InStill, items_at, entered, place_of_item}
use Rattle.quick_cache_model.specs.CacheState.{SameButOrder, UpToOrder}
use Rattle.quick_cache_model.specs.Hooks.{Rules, HookCall}
use Rattle.quick_cache_model.specs.Finding.{HasNothing, HasNoItem, IsItemAt}
use Rattle.quick_cache_model.specs.Admission.{PassesCheck}
use Rattle.quick_cache_model.specs.Writes.{Insert, new_item, queue_for, WritesAdmitted, Writes}
use Rattle.quick_cache_laws.specs.Admitted.{HoldsPair}
use Rattle.quick_cache_model.proofs.EachElement.{all-middle, all-permutation}
use Rattle.std.proofs.lemmas.List.Sorted.{IsPermutation-sym}
use Rattle.quick_cache_model.proofs.Valid.Places.{put}
use Rattle.quick_cache_laws.proofs.Admitted.Checks.{passed_is_not_too_heavy, passed_leaves}

-- an element stands in a list, between two others
record Splits {X : Type 0} (xs : List X) (x : X) : Type 0 where
  before : List X
  after : List X
  split : xs ≡ before ++ x ∷ after

-- each element of what stands behind a front
each_splits : {X : Type 0} (front xs : List X) → AllByRecursion (Splits (front ++ xs)) xs
each_splits front [] = tt
each_splits front (x ∷ xs) = (
  record { before = front; after = xs; split = refl },
  subst (λ l. AllByRecursion (Splits l) xs) (append_assoc front (x ∷ []) xs)
      (each_splits (front ++ x ∷ []) xs),
)

-- an element stands in each order of its list
splits_in_order : {X : Type 0} (before : List X) (x : X) (after ys : List X)
    → IsPermutation (before ++ x ∷ after) ys → Splits ys x
splits_in_order before x after ys order =
    all-middle (Splits ys) before x after
    (all-permutation (Splits ys) ys (before ++ x ∷ after)
    (IsPermutation-sym (before ++ x ∷ after) ys order) (each_splits [] ys))

module _ {K V : Type 0} where
  -- a pair is there in each order of what has none
  SameButOrder-holds : (key : K) (value : V) (old new : CacheState K V) → SameButOrder old new
      → HoldsPair key value old → HoldsPair key value new
  SameButOrder-holds key value old new order holds = go holds.place holds.split
    where
      go : (place : Place) → items_at place old ≡ holds.before ++ holds.item ∷ holds.after
          → HoldsPair key value new
      go InHot split = record {
        place = InHot;
        before = holds.before;
        item = holds.item;
        after = holds.after;
        split = ap (λ (s : CacheState K V). s.hot) order.same ∙ split;
        of_key = holds.of_key;
        of_value = holds.of_value;
      }
      go InCold split = record {
        place = InCold;
        before = holds.before;
        item = holds.item;
        after = holds.after;
        split = ap (λ (s : CacheState K V). s.cold) order.same ∙ split;
        of_key = holds.of_key;
        of_value = holds.of_value;
      }
      go InStill split =
          let there = splits_in_order holds.before holds.item holds.after new.still
          (subst (λ (l : List (Item K V)). IsPermutation l new.still) split order.still) in
          record {
            place = InStill;
            before = there.before;
            item = holds.item;
            after = there.after;
            split = there.split;
            of_key = holds.of_key;
            of_value = holds.of_value;
          }

  items_at-put : (place : Place) (item : Item K V) (state : CacheState K V)
      → items_at place (put place item state) ≡ items_at place state ++ item ∷ []
  items_at-put InHot item state = refl
  items_at-put InCold item state = refl
  items_at-put InStill item state = refl

  -- a state with an item that entered holds its pair
  entered-holds : (item : Item K V) (state : CacheState K V)
      → HoldsPair item.key item.value (entered item state)
  entered-holds item state = record {
    place = place_of_item item;
    before = items_at (place_of_item item) state;
    item = item;
    after = [];
    split = items_at-put (place_of_item item) item state;
    of_key = refl;
    of_value = refl;
  }

  -- where no item is found, none stands anywhere
  no_item_at : (stands_for : K → Bool) (state : CacheState K V) (place : Place)
      (before : List (Item K V)) (item : Item K V) (after : List (Item K V))
      → HasNoItem stands_for state → IsItemAt stands_for state place before item after → ⊥
  no_item_at stands_for state place before item after none there =
      true≢false (sym there.passes ∙ all-middle (λ x. stands_for x.key ≡ false) before item after
      (subst (AllByRecursion (λ x. stands_for x.key ≡ false)) there.split (at place)))
    where
      at : (p : Place) → AllByRecursion (λ x. stands_for x.key ≡ false) (items_at p state)
      at InHot = none.hot
      at InCold = none.cold
      at InStill = none.still

  module _ (rules : Rules K V) (equal_to : K → Bool) (key : K) where
    -- the write of an admitted pair
    WritesAdmitted-holds : (old : CacheState K V) (value : V) (calls : List (HookCall K V))
        (answer : Option (K × V)) (new : CacheState K V)
        → WritesAdmitted rules equal_to key Insert old value calls answer new
        → HasNothing equal_to (rules.hash key) old → (answer ≡ None) × HoldsPair key value new
    WritesAdmitted-holds old value _ _ _
        (WritesAdmitted.inserts_new mid calls inserts nothing evicts) none = (
          refl,
          entered-holds (new_item rules key value (queue_for rules old key value Queue.Cold) 0)
              mid,
        )
    WritesAdmitted-holds old value _ _ _
        (WritesAdmitted.overwrites place before item touched after calls new there takes evicts)
        none
        = absurd (no_item_at equal_to old place before item after none.keys.items there)
    WritesAdmitted-holds old value _ _ _
        (WritesAdmitted.inserts_over_ghost before after calls new inserts there evicts) none =
        absurd (all-middle (λ h. h ≢ rules.hash key) before (rules.hash key) after
        (subst (AllByRecursion (λ h. h ≢ rules.hash key)) there.split none.ghosts) refl)
    WritesAdmitted-holds old value _ _ _
        (WritesAdmitted.inserts_over_loading before entry after calls new inserts there evicts) none
        = absurd (true≢false (sym there.passes
        ∙ all-middle (λ x. equal_to x.key ≡ false) before entry after
        (subst (AllByRecursion (λ x. equal_to x.key ≡ false)) there.split none.keys.loading)))
    WritesAdmitted-holds old value _ _ _ (WritesAdmitted.gives_back replaces no_item) none =
        absurd replaces

    -- an insert whose pair passed its check
    pub Writes-holds : (old new : CacheState K V) (value left : V) (calls : List (HookCall K V))
        (answer : Option (K × V))
        → Writes rules equal_to key Insert old value calls answer new
        → HasNothing equal_to (rules.hash key) old
        → PassesCheck rules old.hot_target key value calls left
        → (answer ≡ None) × HoldsPair key left new
    Writes-holds old _ value left _ _
        (Writes.admitted first rest value' answer new checks writes) none passed =
        subst (λ v. (answer ≡ None) × HoldsPair key v new)
        (passed_leaves rules old.hot_target key value (first ++ rest) first rest left value' passed
        refl checks)
        (WritesAdmitted-holds old value' rest answer new writes none)
    Writes-holds old _ value left _ _
        (Writes.too_heavy first rest value' answer new checks rejects) none passed =
        absurd (passed_is_not_too_heavy rules old.hot_target key value (first ++ rest)
        first rest left
        value' passed refl checks)

    -- and so in whatever order it leaves what has none
    pub Writes-holds_to_order : (old new : CacheState K V) (value left : V)
        (calls : List (HookCall K V)) (answer : Option (K × V))
        → UpToOrder (λ state. Writes rules equal_to key Insert old value calls answer state) new
        → HasNothing equal_to (rules.hash key) old
        → PassesCheck rules old.hot_target key value calls left
        → (answer ≡ None) × HoldsPair key left new
    Writes-holds_to_order old new value left calls answer step none passed =
        let held = Writes-holds old step.ordered value left calls answer step.holds none passed in
        (held.0, SameButOrder-holds key left step.ordered new step.same held.1)
