-- Inserts of the pairs that an iterator gives, one after another.
use Rattle.std.specs.Prelude.{◌≡◌, ◌+◌, ◌≤◌, Bool, List, Option, Some, Result, Ok, Err}
use Rattle.std.specs.Iterator.{Drains, YieldsThen}
use Rattle.std.specs.List.{FoldsTo}
use Rattle.quick_cache_model.specs.declared.refusal.Refusal.{Refusal}
use Rattle.quick_cache_shard.specs.Alone.{IsDoneAlone}
use Rattle.quick_cache_shard.specs.Shard.{Shard, KeepsTerms, WorksAsWrite}
use Rattle.quick_cache_shard.specs.Steps.{Goes, InsertsBy}
use Rattle.quick_cache_unsync.specs.Touches.{no_touches}

module _ {K V We B L S : Type 0} (goes : Goes K V We B L S) (is_default : S → Type 0)
    (equal : K → K → Bool) where
  -- An insert of the pair with a request state of its own, and all that is told of one.
  pub record InsertsPair (old : Shard K V We B L) (pair : K × V)
      (answer : Result (Unit {0}) (K × V × Refusal)) (new : Shard K V We B L) : Type 0 where
    pub inserts : IsDoneAlone is_default
        (InsertsBy goes no_touches old equal pair.0 pair.1 answer new)
    pub room : old.room ≤ new.room + 1
    pub work : WorksAsWrite old new
    pub same : KeepsTerms old new

  -- the pair was taken
  abbrev pub TakesPair : Shard K V We B L → K × V → Shard K V We B L → Type 0
  TakesPair old pair new = InsertsPair old pair (Ok tt) new

  module _ {I : Type 0} (gives : I → Option (K × V) → I → Type 0) (pairs : I) where
    -- How it ended: the iterator gave no more, or one more pair, which was refused and comes back
    -- with the rest.
    abbrev pub EndsInTurn : (came : List (K × V)) → (old : Shard K V We B L)
        → Result (Unit {0}) (K × V × Refusal × I) → (new : Shard K V We B L) → Type 0
    EndsInTurn came old (Ok done) new = Drains gives pairs came × (new ≡ old)
    EndsInTurn came old (Err (key, value, refusal, rest)) new =
        YieldsThen gives pairs came (Some (key, value)) rest
        × InsertsPair old (key, value) (Err (key, value, refusal)) new

    -- The pairs that came were taken, one after another, and then it ended.
    pub record InsertsInTurn (old : Shard K V We B L)
        (answer : Result (Unit {0}) (K × V × Refusal × I)) (new : Shard K V We B L) : Type 0 where
      pub came : List (K × V)
      pub full : Shard K V We B L
      pub takes : FoldsTo TakesPair old came full
      pub ends : EndsInTurn came full answer new
