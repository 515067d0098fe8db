-- The pair that a refused insert gives back, for callers.
use Rattle.std.proofs.Common.{Bool, Err, refl}
use Rattle.quick_cache_model.specs.declared.refusal.Refusal.{Refusal}
use Rattle.quick_cache_model.specs.CacheState.{CacheState}
use Rattle.quick_cache_model.specs.Hooks.{Rules, Hooks}
use Rattle.quick_cache_policy.specs.Inserts.{Inserts}

-- it is the pair that was handed in
pub Inserts-pair : {K V S : Type 0} (steady : Type 0) (hooks : Hooks K V S) (rules : Rules K V)
    (equal : K → K → Bool) (old new : CacheState K V) (first last : S) (key : K) (value : V)
    (back : K × V × Refusal) → Inserts steady hooks rules equal old first key value (Err back) new last
    → Inserts steady hooks rules equal old first key value (Err (key, value, back.2)) new last
Inserts-pair steady hooks rules equal old new first last key value back refused = record {
  key_back = refl;
  value_back = refl;
  unchanged = refused.unchanged;
  no_hook = refused.no_hook;
  cause = refused.cause;
}
