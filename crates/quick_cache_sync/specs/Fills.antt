-- A fill of the shared cache by the pairs that an iterator gives.
use Rattle.std.specs.Prelude.{List, Option, Some, Result, Ok, Err}
use Rattle.std.specs.Iterator.{Drains, Yields, YieldsThen}
use Rattle.std.specs.List.{AllByRecursion}
use Rattle.quick_cache_model.specs.declared.refusal.Refusal.{Refusal}

module _ {K V I : Type 0} (gives : I → Option (K × V) → I → Type 0) where
  -- whatever pair the iterator comes to give, its value fits its key
  abbrev pub GivesFitting : (fits : K → V → Type 0) → I → Type 0
  GivesFitting fits pairs = (came : List (K × V)) (mid rest : I) (pair : K × V)
      → Yields gives pairs came mid → gives mid (Some pair) rest → fits pair.0 pair.1

  module _ (answers : K → V → Result (Unit {0}) (K × V × Refusal) → Type 0) (pairs : I) where
    -- How it ended: the iterator gave no more, or one more pair, which was refused and comes back
    -- with the rest.
    abbrev pub EndsSo : (came : List (K × V)) → Result (Unit {0}) (K × V × Refusal × I) → Type 0
    EndsSo came (Ok done) = Drains gives pairs came
    EndsSo came (Err (key, value, refusal, rest)) =
        YieldsThen gives pairs came (Some (key, value)) rest
        × answers key value (Err (key, value, refusal))

    -- each pair that came was taken, and then it ended
    pub record FillsSo (answer : Result (Unit {0}) (K × V × Refusal × I)) : Type 0 where
      pub came : List (K × V)
      pub takes : AllByRecursion (λ pair. answers pair.0 pair.1 (Ok tt)) came
      pub ends : EndsSo came answer
