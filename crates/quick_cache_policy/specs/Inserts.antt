-- The answers of an insert.
use Rattle.std.specs.Prelude.{Bool, Result, Ok, Err, None}
use Rattle.quick_cache_model.specs.declared.refusal.Refusal.{Refusal}
use Rattle.quick_cache_model.specs.CacheState.{CacheState}
use Rattle.quick_cache_model.specs.Hooks.{Rules, Hooks}
use Rattle.quick_cache_model.specs.Writes.{Insert}
use Rattle.quick_cache_policy.specs.Writing.{Wrote, RefusesWrite}

-- what an insert of the pair answers, where the pair comes back with a refusal
abbrev pub with_pair : {K V : Type 0} → K → V → Result (Unit {0}) Refusal
    → Result (Unit {0}) (K × V × Refusal)
with_pair key value (Ok done) = Ok done
with_pair key value (Err refusal) = Err (key, value, refusal)

module _ {K V S : Type 0} (steady : Type 0) (hooks : Hooks K V S) (rules : Rules K V)
    (equal : K → K → Bool) (old : CacheState K V) where
  -- The pair was written, or it was refused and comes back. The hooks led the request state from
  -- the first to the last. Where pinning is steady, a pair that was written was so by a step of its
  -- definition.
  abbrev pub Inserts : S → K → V → Result (Unit {0}) (K × V × Refusal) → CacheState K V → S → Type 0
  Inserts first key value (Ok done) new last =
      Wrote steady hooks rules equal Insert old first key value None new last
  Inserts first key value (Err back) new last =
      RefusesWrite steady hooks rules equal Insert old first key value back.0 back.1 back.2 new last
