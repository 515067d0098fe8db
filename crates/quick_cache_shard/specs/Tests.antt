-- Looks with a test, as a shard's contracts tell them.
use Rattle.std.specs.Prelude.{◌≡◌, ◌≤◌, Bool, Option, Result, Ok, Err}
use Rattle.std.specs.Int.NonZero.{non_zero_u32_get}
use Rattle.std.specs.declared.num.NonZeroU32.{NonZeroU32 as Token}
use denote.Ref.{Bor}
pub use Rattle.quick_cache_policy.specs.Tests.{IsTakenOut, LooksUpIf, LooksUpOrTakesOut, PassesTest, UnlessTaken, miss_of}
pub use Rattle.quick_cache_policy.specs.declared.looking.tested.Miss.{Miss}
use Rattle.quick_cache_shard.specs.Shard.{Shard, KeepsWork, LosesOnly}
use Rattle.quick_cache_shard.specs.TokenValues.{IsValueOf}

-- what is shown, or what came in its place
abbrev pub ok_copied : {V E : Type 0} → Result (Bor V) E → Result V E
ok_copied (Ok shown) = Ok shown.now
ok_copied (Err other) = Err other

module _ {K V We B L : Type 0} (stands_for : K → Bool)
    (answers : V → Bool → Type 0) (old : Shard K V We B L) where
  -- a look with a test, where what fails is taken out: else nothing changes but the state
  pub record GetsOrTakes (result : Result V (Option (K × V))) (new : Shard K V We B L)
      : Type 0 where
    pub looks_up : LooksUpOrTakesOut stands_for answers old.state result new.state
    pub same : UnlessTaken result (new ≡ record old { state = new.state })
    pub places : LosesOnly old.places new.places
    pub room : old.room ≤ new.room
    pub work : KeepsWork old new

  -- the same, of which is not told what was taken out
  abbrev pub GetsOrDrops : Result V Miss → Shard K V We B L → Type 0
  GetsOrDrops (Ok value) new = GetsOrTakes (Ok value) new
  GetsOrDrops (Err miss) new =
      (taken : Option (K × V)) × GetsOrTakes (Err taken) new × (miss ≡ miss_of taken)

  -- the same, of which the token is told of what passed
  abbrev pub FindsOrTakes : Result Token (Option (K × V)) → Shard K V We B L → Type 0
  FindsOrTakes (Ok token) new =
      (value : V) × GetsOrTakes (Ok value) new × IsValueOf new (non_zero_u32_get token) value
  FindsOrTakes (Err taken) new = GetsOrTakes (Err taken) new
