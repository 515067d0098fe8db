-- Kinds of calls.
use Rattle.std.specs.Prelude.{ℕ, Bool, true, false, Option, Some, None}
use Rattle.quick_cache_model.specs.Writes.{Strategy, Replace as replacing, SoftReplace}
use Rattle.quick_cache_model.specs.declared.calls.call.Call.{Call}

-- a replace is soft or hard
abbrev pub replacement : (soft : Bool) → Strategy
replacement true = SoftReplace
replacement false = replacing

module _ {K V F : Type 0} where
  -- a call that shows a clone of the value under a key
  pub data IsLook (key : K) : Call K V F → Type 0 where
    get : IsLook key (Call.Get key)
    peek : IsLook key (Call.Peek key)

  -- a call that loads what it does not find under a key: the value that its loader or guard gives,
  -- if any, and the value that is written where a reference is given, if any
  pub data IsLoad (key : K) : (given left : Option V) → Call K V F → Type 0 where
    load : (given : Option V) → IsLoad key given None (Call.Load key given)
    load_mut : (given : Option V) (left : V)
        → IsLoad key given (Some left) (Call.LoadMut key given left)
    guarded : (given : Option V) → IsLoad key given None (Call.Guarded key given)
    guarded_mut : (given : Option V) (left : V)
        → IsLoad key given (Some left) (Call.GuardedMut key given left)

  -- a call that makes room for what it gives out, or for what is to come
  pub data MakesRoom : Call K V F → Type 0 where
    iter : MakesRoom Call.Iter
    drain : MakesRoom Call.Drain
    reserve : (count : ℕ) → MakesRoom (Call.Reserve count)
