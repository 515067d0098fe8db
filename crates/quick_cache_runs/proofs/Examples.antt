-- What no book can follow: a pair that is lost, one that is told of twice, and one that was never
-- handed in.
use Rattle.std.proofs.Common.{◌≡◌, [], ◌∷◌, length, ap, arith}
use Rattle.quick_cache_model.specs.CacheState.{CacheState}
use Rattle.quick_cache_runs.specs.Books.{Book, Follows, IsBookOf}
use Rattle.quick_cache_model.specs.Fates.{Comes, Changes, Leaves, residents}
use Rattle.quick_cache_runs.proofs.Books.{Follows-counted}

module _ {K V : Type 0} (old new : CacheState K V) (first last : Book K V) (key : K) (value : V)
    (of_old : IsBookOf old first) (of_new : IsBookOf new last) (was_empty : residents old ≡ []) where
  -- the pair came and is not there
  lost : residents new ≡ [] → Follows first (Comes key value ∷ []) last → ⊥
  lost is_empty follows =
      omega (
        arith,
        Follows-counted old new first last _ of_old follows of_new,
        ap length was_empty,
        ap length is_empty,
      )

  -- it left twice
  told_twice : Follows first (Comes key value ∷ Leaves key value ∷ Leaves key value ∷ []) last → ⊥
  told_twice follows =
      omega (
        arith,
        Follows-counted old new first last _ of_old follows of_new,
        ap length was_empty,
      )

  -- it left, and never came
  never_came : (left : V) → Follows first (Changes key value left ∷ Leaves key left ∷ []) last → ⊥
  never_came left follows =
      omega (
        arith,
        Follows-counted old new first last _ of_old follows of_new,
        ap length was_empty,
      )

  -- it came and is there twice
  doubled : length (residents new) ≡ 2 → Follows first (Comes key value ∷ []) last → ⊥
  doubled twice follows =
      omega (
        arith,
        Follows-counted old new first last _ of_old follows of_new,
        ap length was_empty,
        twice,
      )
