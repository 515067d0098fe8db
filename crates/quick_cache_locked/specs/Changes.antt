-- A value under a query that is shown to a test, and then changed where it stands or taken out.
use Rattle.std.specs.Prelude.{◌≡◌, Bool, true, Option, Result, Ok, Err}
use denote.Ref.{MutBor}
use denote.Param.Members.{Once}
use Rattle.quick_cache_model.specs.CacheState.{CacheState, UpToOrder}
use Rattle.quick_cache_model.specs.Hooks.{Rules}
use Rattle.quick_cache_model.specs.References.{WritesItem}
use Rattle.quick_cache_shard.specs.Tests.{LooksUpOrTakesOut, PassesTest}
use Rattle.quick_cache_loading.specs.Fitting.{FitsQuery}

module _ {F V T : Type 0} (calls : Once F (MutBor V × Unit {0}) (T × (MutBor V × Unit {0})))
    (change : F) where
  -- the call of this callback, at a reference to this value, may tell this and leave this value
  pub record LeavesOf (value : V) (told : T) (left : V) : Type 0 where
    pub shown : MutBor V
    pub shows : shown.now ≡ value
    pub left_by : MutBor V
    pub called : calls.post change (shown, tt) (told, (left_by, tt))
    pub leaves : left_by.now ≡ left

  -- it may be called at each value that fits a key that the query stands for, and passes the test
  abbrev pub MayChange : {K : Type 0} → (fits : K → V → Type 0) → (stands_for : K → Bool)
      → (answers : V → Bool → Type 0) → Type 0
  MayChange fits stands_for answers = (value : V) → FitsQuery fits stands_for value
      → answers value true → (shown : MutBor V) → shown.now ≡ value
      → calls.pre change (shown, tt)

-- What a call of a callback may tell and leave decides what follows of it: `leaves` says of a value
-- that it is shown, what it tells and the value that it leaves, whether that may be.
module _ {K V T : Type 0} (leaves : V → T → V → Type 0) (stands_for : K → Bool)
    (answers : V → Bool → Type 0) where
  -- what is left of a value that fits a key of the query and passes the test fits the key, too
  abbrev pub LeavesFitting : (fits : K → V → Type 0) → Type 0
  LeavesFitting fits = (key : K) (value : V) (told : T) (left : V) → stands_for key ≡ true
      → fits key value → answers value true → leaves value told left → fits key left

  -- This was told of a value that fits a key that the query stands for, and passed the test.
  pub record TellsOf (fits : K → V → Type 0) (told : T) : Type 0 where
    pub key : K
    pub value : V
    pub left : V
    pub stands : stands_for key ≡ true
    pub fits_key : fits key value
    pub passed : answers value true
    pub changed : leaves value told left

  module _ (rules : Rules K V) (old : CacheState K V) where
    -- The value under the query passed the test and was looked up. Then it was changed, and its
    -- item was weighed anew.
    pub record Changes (told : T) (new : CacheState K V) : Type 0 where
      pub value : V
      pub mid : CacheState K V
      pub looks_up : PassesTest stands_for answers old value mid
      pub left : V
      pub changed : leaves value told left
      pub writes : UpToOrder (WritesItem rules stands_for mid left true) new

    -- so it was, or a value that failed was taken out, or none was there
    abbrev pub ChangesOrTakes : Result T (Option (K × V)) → CacheState K V → Type 0
    ChangesOrTakes (Ok told) new = Changes told new
    ChangesOrTakes (Err taken) new = LooksUpOrTakesOut stands_for answers old (Err taken) new
