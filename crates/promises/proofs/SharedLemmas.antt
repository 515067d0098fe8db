-- The shards of a shared cache: how many there are, and walks that pass them.
use Rattle.std.proofs.Common.{◌≡◌, ℕ, zero, suc, ◌<◌, ◌≤◌, Bool, Option, Some, None, Result, Ok, Err, refl, inl, inr, subst, sym, arith}
use Rattle.std.specs.Prelude.{IfNone}
use Rattle.quick_cache_model.specs.declared.refusal.Refusal.{Refusal}
use Rattle.quick_cache_model.specs.declared.terms.lifecycle.Lifecycle as lifecycle
use Rattle.quick_cache_model.specs.Sizes.{IsShardCount}
use Rattle.quick_cache_shard.specs.Shard.{Shard}
use Rattle.quick_cache_locked.specs.Locked.{FromSome}
use Rattle.quick_cache_sync.specs.Walks.{ComesTo, EndsOrRefuses, HoldsUpTo, Standing, beginning}

-- a cache that is made for 64 items, with sixteen shards asked for, has two or more
pub two-shards : (count : ℕ) → IsShardCount 16 64 count → 1 < count
two-shards count is = grind (arith, is.greatest 2 (1, refl))

-- a walk comes from its beginning to each shard, before its items
from-beginning : (place : ℕ) → ComesTo beginning place 0
from-beginning zero = inl (refl, refl)
from-beginning (suc place) = inr (omega arith, refl)

-- one that shows nothing and is not refused is behind the last shard
pub nothing-shown : {X : Type 0} (shards : ℕ) (answer : Option (Result X Refusal)) (new : Standing)
    → EndsOrRefuses shards answer new → IfNone answer (shards ≤ new.0)
nothing-shown shards None new ends = ends
nothing-shown shards (Some (Ok shown)) new ends = tt
nothing-shown shards (Some (Err refusal)) new ends = tt

module _ {K V We B L S : Type 0} (life : lifecycle.Ghosts L K V S) (equal : K → K → Bool)
    (holds : Shard K V We B L → (after : ℕ) → Type 0) where
  -- a walk that gives nothing at its first step passed each shard
  pub passed-each : {X : Type 0} (answer : Option X) (shards count : ℕ) (old new : Standing)
      → old ≡ beginning → shards ≡ count → HoldsUpTo life equal holds old new.0
      → IfNone answer (shards ≤ new.0)
      → IfNone answer ((place : ℕ) → place < count
      → FromSome life equal (λ (shard : Shard K V We B L). holds shard 0))
  passed-each (Some given) shards count old new begins same passed ends = tt
  passed-each None shards count old new begins same passed ends = λ place below.
      passed place 0 (subst (λ at. ComesTo at place 0) (sym begins) (from-beginning place))
      (omega (arith, same, ends, below))
