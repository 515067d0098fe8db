-- The answers of a replace.
use Rattle.std.specs.Prelude.{Bool, Result, Ok, Err, Some, None}
use Rattle.quick_cache_model.specs.CacheState.{CacheState}
use Rattle.quick_cache_model.specs.Hooks.{Rules, Hooks}
use Rattle.quick_cache_model.specs.Kinds.{replacement}
use Rattle.quick_cache_policy.specs.Writing.{Wrote}

module _ {K V S : Type 0} (steady : Type 0) (hooks : Hooks K V S) (rules : Rules K V)
    (equal : K → K → Bool) (old : CacheState K V) (soft : Bool) where
  -- The pair was written, or it was not admitted and comes back. It is never refused. The hooks led
  -- the request state from the first to the last. Where pinning is steady, it is a step of its
  -- definition.
  abbrev pub Replaces : S → K → V → Result (Unit {0}) (K × V) → CacheState K V → S → Type 0
  Replaces first key value (Ok done) new last =
      Wrote steady hooks rules equal (replacement soft) old first key value None new last
  Replaces first key value (Err back) new last =
      Wrote steady hooks rules equal (replacement soft) old first key value (Some back) new last
