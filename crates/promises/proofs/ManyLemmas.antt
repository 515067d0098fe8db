-- How a fill ends, and how many items are shown.
use Rattle.std.proofs.Common.{◌≡◌, ◌≤◌, ℕ, Bool, List, Option, Some, Result, Ok, Err, OnOk, IfErr, length, take, ap, arith}
use Rattle.std.proofs.lemmas.List.{length-map, length-take}
use Rattle.std.specs.Borrow.{Bor}
use Rattle.std.specs.Iterator.{Drains, YieldsThen}
use Rattle.quick_cache_model.specs.declared.refusal.Refusal.{Refusal}
use Rattle.quick_cache_shard.specs.Shard.{Shard}
use Rattle.quick_cache_shard.specs.Steps.{Goes}
use Rattle.quick_cache_unsync.specs.Hottest.{pairs_shown}
use Rattle.quick_cache_unsync.specs.Many.{EndsInTurn}
use Rattle.quick_cache_sync.specs.Fills.{EndsSo}

module _ {K V I : Type 0} (gives : I → Option (K × V) → I → Type 0) (pairs : I)
    (came : List (K × V)) where
  module _ {We B L S : Type 0} (goes : Goes K V We B L S) (is_default : S → Type 0)
      (equal : K → K → Bool) (old new : Shard K V We B L) where
    -- no pair is left
    pub EndsInTurn-all : (answer : Result (Unit {0}) (K × V × Refusal × I))
        → EndsInTurn goes is_default equal gives pairs came old answer new
        → OnOk answer ((came : List (K × V)) × Drains gives pairs came)
    EndsInTurn-all (Ok done) ends = (came, ends.0)
    EndsInTurn-all (Err back) ends = tt

    -- the pair that came last
    pub EndsInTurn-back : (answer : Result (Unit {0}) (K × V × Refusal × I))
        → EndsInTurn goes is_default equal gives pairs came old answer new
        → IfErr answer (λ back. (came : List (K × V))
        × YieldsThen gives pairs came (Some (back.0, back.1)) back.3)
    EndsInTurn-back (Ok done) ends = tt
    EndsInTurn-back (Err back) ends = (came, ends.0)

  module _ (answers : K → V → Result (Unit {0}) (K × V × Refusal) → Type 0) where
    -- the same of a shared cache
    pub EndsSo-all : (answer : Result (Unit {0}) (K × V × Refusal × I))
        → EndsSo gives answers pairs came answer
        → OnOk answer ((came : List (K × V)) × Drains gives pairs came)
    EndsSo-all (Ok done) ends = (came, ends)
    EndsSo-all (Err back) ends = tt

    pub EndsSo-back : (answer : Result (Unit {0}) (K × V × Refusal × I))
        → EndsSo gives answers pairs came answer
        → IfErr answer (λ back. (came : List (K × V))
        × YieldsThen gives pairs came (Some (back.0, back.1)) back.3)
    EndsSo-back (Ok done) ends = tt
    EndsSo-back (Err back) ends = (came, ends.0)

-- of the first so many no more are shown
pub shown-within : {K V : Type 0} (count : ℕ) (list : List (Bor K × Bor V)) (all : List (K × V))
    → pairs_shown list ≡ take count all → length list ≤ count
shown-within {K} {V} count list all is = omega (
  arith,
  ap length is,
  length-map {B = K × V} list (λ (pair : Bor K × Bor V). (pair.0.now, pair.1.now)),
  length-take count all,
)
