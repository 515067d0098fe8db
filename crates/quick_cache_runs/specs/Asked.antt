-- What the calls of a list ask of those that make them.
use Rattle.std.specs.Prelude.{Bool, Option, Some, None, IfSome}
use denote.Ref.{Bor}
use denote.Param.Members.{Shared}
use Rattle.quick_cache_model.specs.declared.calls.call.Call.{Call}
use Rattle.quick_cache_shard.specs.Predicates.{IsAnsweredAs}

module _ {K V F : Type 0} where
  -- the predicate that a call asks, if it asks one
  abbrev pub predicate_of : Call K V F → Option F
  predicate_of (Call.RemoveIf key wanted) = Some wanted
  predicate_of (Call.Retain keep) = Some keep
  predicate_of _ = None

  -- P holds of it
  abbrev pub IfAsks : (F → Type 0) → Call K V F → Type 0
  IfAsks P call = IfSome (predicate_of call) P

  -- it answers as this test does
  abbrev pub IsAskedAs : Shared F (Bor K × (Bor V × Unit {0})) Bool → (F → K → V → Bool)
      → Call K V F → Type 0
  IsAskedAs asks answers = IfAsks (λ asked. IsAnsweredAs asks asked (answers asked))

  -- P holds where the call loads what it does not find
  abbrev pub IfLoads : Type 0 → Call K V F → Type 0
  IfLoads P (Call.Load key given) = P
  IfLoads P (Call.LoadMut key given left) = P
  IfLoads P (Call.Guarded key given) = P
  IfLoads P (Call.GuardedMut key given left) = P
  IfLoads P _ = Unit {0}
