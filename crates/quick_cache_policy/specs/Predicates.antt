-- What a predicate answers that a caller hands in, and what goes by its answers.
use Rattle.std.specs.Prelude.{◌≡◌, ◌++◌, Bool, true, false, List, [], ◌∷◌, Option, Some, None}
use Rattle.std.specs.Fn.{FnReturns, FnOnceReturnsAt, FnOnceTakesAt}
use denote.Ref.{Bor}
use denote.Param.Members.{Shared, Once}
use Rattle.quick_cache_model.specs.CacheState.{CacheState, Item, Place, items_at, with_items}
use Rattle.quick_cache_model.specs.Finding.{IsItemAt, HasNoItem}

module _ {F K V : Type 0} (calls : Shared F (Bor K × (Bor V × Unit {0})) Bool) (keep : F) where
  -- a call of the predicate at references to this pair may give the answer
  pub record Answers (key : K) (value : V) (answer : Bool) : Type 0 where
    pub shown_key : Bor K
    pub shown_value : Bor V
    pub shows : (shown_key.now ≡ key) × (shown_value.now ≡ value)
    pub says : FnReturns calls keep (shown_key, (shown_value, tt)) answer

  -- the predicate may be called at references to this pair
  abbrev pub MayBeAsked : K → V → Type 0
  MayBeAsked key value = (shown_key : Bor K) (shown_value : Bor V) → shown_key.now ≡ key
      → shown_value.now ≡ value → calls.pre keep (shown_key, (shown_value, tt))

  -- and so at each resident pair
  abbrev pub MayBeAskedOfEach : CacheState K V → Type 0
  MayBeAskedOfEach state = (place : Place) (before : List (Item K V)) (item : Item K V)
      (after : List (Item K V)) → items_at place state ≡ before ++ item ∷ after
      → MayBeAsked item.key item.value

  -- the predicate answers as this test does, at each pair
  abbrev pub IsAnsweredAs : (K → V → Bool) → Type 0
  IsAnsweredAs keeps = (key : K) (value : V) (answer : Bool) → Answers key value answer
      → answer ≡ keeps key value

-- a predicate that is called once answers as this test does, at each value
abbrev pub IsTestedAs : {F V : Type 0} → Once F (Bor V × Unit {0}) Bool → F → (V → Bool) → Type 0
IsTestedAs {F} {V} calls wanted passes = (value : V) (answer : Bool)
    → FnOnceReturnsAt calls wanted value answer → answer ≡ passes value

-- a predicate that is called once may be called at the value of the item under the query
abbrev pub MayBeAskedUnder : {F K V : Type 0} → Once F (Bor V × Unit {0}) Bool → F → (K → Bool)
    → CacheState K V → Type 0
MayBeAskedUnder {F} {K} {V} calls wanted stands_for state = (place : Place)
    (before : List (Item K V)) (item : Item K V) (after : List (Item K V))
    → IsItemAt stands_for state place before item after → FnOnceTakesAt calls wanted item.value

module _ {K V : Type 0} (answers : K → V → Bool → Type 0) where
  -- Of the first items the second stay, in their order: each stays where it was answered yes, and
  -- goes where it was answered no.
  pub data StayAsAnswered : List (Item K V) → List (Item K V) → Type 0 where
    ends : StayAsAnswered [] []
    stays : (item : Item K V) (items left : List (Item K V))
        → answers item.key item.value true → StayAsAnswered items left
        → StayAsAnswered (item ∷ items) (item ∷ left)
    goes : (item : Item K V) (items left : List (Item K V))
        → answers item.key item.value false → StayAsAnswered items left
        → StayAsAnswered (item ∷ items) left

  -- the items that were answered no are gone, and nothing else is
  pub record RetainsAsked (old new : CacheState K V) : Type 0 where
    pub hot : StayAsAnswered old.hot new.hot
    pub cold : StayAsAnswered old.cold new.cold
    pub still : StayAsAnswered old.still new.still
    pub same : new ≡ record old { hot = new.hot; cold = new.cold; still = new.still }

-- A removal by a test that answers once: an item goes where its value was answered yes, and nothing
-- else ever does.
pub data RemovesAsked {K V : Type 0} (stands_for : K → Bool) (old : CacheState K V)
    (answers : V → Bool → Type 0) : Option (K × V) → CacheState K V → Type 0 where
  goes : (place : Place) (before : List (Item K V)) (item : Item K V) (after : List (Item K V))
      → IsItemAt stands_for old place before item after → answers item.value true
      → RemovesAsked stands_for old answers (Some (item.key, item.value))
      (with_items place (before ++ after) old)
  stays : (place : Place) (before : List (Item K V)) (item : Item K V) (after : List (Item K V))
      → IsItemAt stands_for old place before item after → answers item.value false
      → RemovesAsked stands_for old answers None old
  absent : HasNoItem stands_for old → RemovesAsked stands_for old answers None old
