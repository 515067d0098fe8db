-- Looks with a test that the caller hands in, which is asked once, at the value under the query.
use Rattle.std.specs.Prelude.{◌≡◌, ℕ, Bool, true, false, not, Option, Some, None, Result, Ok, Err, ⊤}
use Rattle.std.specs.Int.NonZero.{non_zero_u32_get}
use Rattle.std.specs.declared.num.NonZeroU32.{NonZeroU32 as Token}
use Rattle.quick_cache_model.specs.CacheState.{CacheState, UpToOrder}
use Rattle.quick_cache_model.specs.Lookups.{LooksUp, Sees, after_miss}
use Rattle.quick_cache_store.specs.Lists.{Lists, FindsItem}
use Rattle.quick_cache_policy.specs.Contents.{state_of}
use Rattle.quick_cache_policy.specs.Finding.{IsLookedUp}
use Rattle.quick_cache_policy.specs.Predicates.{RemovesAsked}
use Rattle.quick_cache_policy.specs.declared.contents.Contents.{Contents}
use Rattle.quick_cache_policy.specs.declared.looking.tested.Miss.{Miss}

-- why a look that took this out gives no value
abbrev pub miss_of : {X : Type 0} → Option X → Miss
miss_of (Some taken) = Miss.Failed
miss_of None = Miss.Absent

-- this holds unless a look took something out
abbrev pub UnlessTaken : {T X : Type 0} → Result T (Option X) → Type 0 → Type 0
UnlessTaken (Ok found) P = P
UnlessTaken (Err (Some taken)) P = ⊤
UnlessTaken (Err None) P = P

-- the item of this token, which the query finds, was shown to the test, and this was answered
pub record IsAsked {K V P : Type 0} (stands_for : K → Bool) (hash : ℕ) (answers : V → Bool → Type 0)
    (lists : Lists K V P) (token : Token) (answer : Bool) : Type 0 where
  pub finds : FindsItem stands_for hash lists (non_zero_u32_get token)
  pub said : answers finds.item.value answer

module _ {K V : Type 0} (stands_for : K → Bool) (answers : V → Bool → Type 0)
    (old : CacheState K V) where
  -- the value under the query was answered yes, and looked up
  pub record PassesTest (value : V) (new : CacheState K V) : Type 0 where
    pub looks_up : UpToOrder (LooksUp stands_for old (λ item. item.value) (Some value)) new
    pub said : answers value true

  -- it was answered no, and stays, and a miss is counted
  pub record FailsTest (new : CacheState K V) : Type 0 where
    pub value : V
    pub sees : Sees stands_for old (λ item. item.value) (Some value)
    pub said : answers value false
    pub counts : new ≡ after_miss old

  -- it was answered no, and its pair is taken out, and a miss is counted
  pub record IsTakenOut (pair : K × V) (new : CacheState K V) : Type 0 where
    pub mid : CacheState K V
    pub removes : UpToOrder
        (RemovesAsked stands_for old (λ value goes. answers value (not goes)) (Some pair)) mid
    pub counts : new ≡ after_miss mid

  -- nothing was found, and a miss is counted
  abbrev pub IsNotThere : CacheState K V → Type 0
  IsNotThere new = UpToOrder (LooksUp stands_for old (λ item. item.value) None) new

  -- a look with a test, where what fails stays
  abbrev pub LooksUpIf : Result V Miss → CacheState K V → Type 0
  LooksUpIf (Ok value) new = PassesTest value new
  LooksUpIf (Err Miss.Failed) new = FailsTest new
  LooksUpIf (Err Miss.Absent) new = IsNotThere new

  -- a look with a test, where what fails is taken out
  abbrev pub LooksUpOrTakesOut : Result V (Option (K × V)) → CacheState K V → Type 0
  LooksUpOrTakesOut (Ok value) new = PassesTest value new
  LooksUpOrTakesOut (Err (Some pair)) new = IsTakenOut pair new
  LooksUpOrTakesOut (Err None) new = IsNotThere new

module _ {K V P W A T : Type 0} (ticket_of : P → ℕ) (stands_for : K → Bool)
    (answers : V → Bool → Type 0) (old : Contents K V W A T P) where
  -- the item of this token was answered yes, and looked up
  pub record IsPassed (token : Token) (new : Contents K V W A T P) : Type 0 where
    pub looks : IsLookedUp ticket_of stands_for old token new
    pub said : answers looks.item.value true

  -- the same two looks, where the token is told of what passes
  abbrev pub TestsToken : Result Token Miss → Contents K V W A T P → Type 0
  TestsToken (Ok token) new = IsPassed token new
  TestsToken (Err miss) new =
      LooksUpIf stands_for answers (state_of ticket_of old) (Err miss) (state_of ticket_of new)

  abbrev pub TestsOrTakes : Result Token (Option (K × V)) → Contents K V W A T P → Type 0
  TestsOrTakes (Ok token) new = IsPassed token new
  TestsOrTakes (Err taken) new =
      LooksUpOrTakesOut stands_for answers (state_of ticket_of old) (Err taken)
      (state_of ticket_of new)
