-- Lists of keys, and of what was found and loaded of them.
use Rattle.std.proofs.Common.{◌≡◌, ◌<◌, ◌+◌, ℕ, zero, suc, true, false, List, [], ◌∷◌, ◌++◌, Option, Some, None, is_some, length, slice_index_or, take, ap, ◌∙◌, sym, subst, arith, add-one}
use Rattle.std.specs.Prelude.{IfSome}
use Rattle.std.specs.List.{AllZip}
use Rattle.std.proofs.lemmas.List.{append-nil, get_or_default}
use Rattle.std.proofs.lemmas.Slice.Zip.{all_zipped_more}
use Rattle.quick_cache_expiring.specs.declared.loaded.Loaded.{Loaded}
use Rattle.read_through.specs.Many.{missing, filled}

module _ {A B : Type 0} (R : A → B → Type 0) where
  -- what holds of each two holds of the two at an index
  pub AllZip-at : (xs : List A) (ys : List B) (index : ℕ) (x : A) (y : B) → index < length xs
      → x ≡ slice_index_or xs index x → y ≡ slice_index_or ys index y → AllZip R xs ys → R x y
  AllZip-at [] ys index x y inside first second each = absurd (omega (arith, inside))
  AllZip-at (a ∷ xs) [] index x y inside first second each = absurd each
  AllZip-at (a ∷ xs) (b ∷ ys) zero x y inside first second each =
      subst (λ a. R a y) (sym first) (subst (R a) (sym second) each.0)
  AllZip-at (a ∷ xs) (b ∷ ys) (suc index) x y inside first second each =
      AllZip-at xs ys index x y (omega (arith, inside)) first second each.1

  -- and what holds of the two at each index holds of each two
  pub AllZip-of : (xs : List A) (ys : List B) → length ys ≡ length xs
      → ((index : ℕ) (x : A) (y : B) → index < length xs → x ≡ slice_index_or xs index x
      → y ≡ slice_index_or ys index y → R x y) → AllZip R xs ys
  AllZip-of [] [] as_many each = tt
  AllZip-of [] (y ∷ ys) as_many each = absurd (omega (arith, as_many))
  AllZip-of (x ∷ xs) [] as_many each = absurd (omega (arith, as_many))
  AllZip-of (x ∷ xs) (y ∷ ys) as_many each = (
    each 0 x y (omega arith) (λ i. x) (λ i. y),
    AllZip-of xs ys (omega (arith, as_many))
        (λ index z w inside is as_is. each (suc index) z w (omega (arith, inside)) is as_is),
  )

-- the same of a list of what was found
pub AllZip-found : {A B : Type 0} (R : A → Option B → Type 0) (xs : List A) (ys : List (Option B))
    → length ys ≡ length xs
    → ((index : ℕ) (x : A) → index < length xs → x ≡ slice_index_or xs index x
    → R x (slice_index_or ys index None)) → AllZip R xs ys
AllZip-found R xs ys as_many each =
    AllZip-of R xs ys as_many (λ index x y inside is as_is.
    let within : index < length ys = omega (arith, inside, as_many) in
    subst (R x) (sym (as_is ∙ get_or_default ys index y None within)) (each index x inside is))

module _ {K T : Type 0} where
  -- one key more: it is missing where nothing was found of it
  missing-more : (keys : List K) (found : List (Option T)) (index : ℕ) (key : K) (it : Option T)
      → index < length keys → index < length found → key ≡ slice_index_or keys index key
      → it ≡ slice_index_or found index it
      → missing (take (suc index) keys) (take (suc index) found)
      ≡ missing (take index keys) (take index found) ++ missing (key ∷ []) (it ∷ [])
  missing-more [] found index key it inside within is as_found = absurd (omega (arith, inside))
  missing-more (k ∷ keys) [] index key it inside within is as_found = absurd (omega (arith, within))
  missing-more (k ∷ keys) (f ∷ found) zero key it inside within is as_found =
      λ i. missing ((sym is) i ∷ []) ((sym as_found) i ∷ [])
  missing-more (k ∷ keys) (Some value ∷ found) (suc index) key it inside within is as_found =
      missing-more keys found index key it (omega (arith, inside)) (omega (arith, within)) is as_found
  missing-more (k ∷ keys) (None ∷ found) (suc index) key it inside within is as_found =
      ap (λ list. k ∷ list)
      (missing-more keys found index key it (omega (arith, inside)) (omega (arith, within)) is as_found)

  module _ (R : K → K → Type 0) (keys : List K) (found : List (Option T)) (index : ℕ) (key : K)
      (it : Option T) (inside : index < length keys) (within : index < length found)
      (is : key ≡ slice_index_or keys index key) (as_found : it ≡ slice_index_or found index it)
      (asked : List K)
      (so_far : AllZip R (missing (take index keys) (take index found)) asked) where
    -- what was found is not asked for
    pub asked-found : is_some it ≡ true
        → AllZip R (missing (take (index + 1) keys) (take (index + 1) found)) asked
    asked-found some = rw (add-one, missing-more keys found index key it inside within is as_found)
        (by it some)
      where
        by : (it : Option T) → is_some it ≡ true
            → AllZip R (missing (take index keys) (take index found) ++ missing (key ∷ []) (it ∷ []))
            asked
        by (Some value) some = rw append-nil so_far
        by None some = absurd cc

    -- a copy of what was not is
    pub asked-missing : (copy : K) → R key copy → is_some it ≡ false
        → AllZip R (missing (take (index + 1) keys) (take (index + 1) found)) (asked ++ copy ∷ [])
    asked-missing copy copied none =
        rw (add-one, missing-more keys found index key it inside within is as_found) (by it none)
      where
        by : (it : Option T) → is_some it ≡ false
            → AllZip R (missing (take index keys) (take index found) ++ missing (key ∷ []) (it ∷ []))
            (asked ++ copy ∷ [])
        by (Some value) none = absurd cc
        by None none = all_zipped_more R _ asked key copy so_far copied

module _ {K V : Type 0} (is_clone : K → K → Type 0) (gives holds : K → V → Type 0)
    (copied : (key copy : K) (value : V) → is_clone key copy → gives copy value → holds key value)
  where
    -- what holds of what was found, and of what was loaded for a copy of a key, holds of all
    pub AllZip-filled : (keys : List K) (found : List (Option (Loaded V))) (asked : List K)
        (loaded : List V) → AllZip (λ key it. IfSome it (λ one. holds key one.value)) keys found
        → AllZip is_clone (missing keys found) asked → AllZip gives asked loaded
        → AllZip holds keys (filled found loaded)
    AllZip-filled [] [] asked loaded serve copies gave = tt
    AllZip-filled [] (it ∷ found) asked loaded serve copies gave = absurd serve
    AllZip-filled (key ∷ keys) [] asked loaded serve copies gave = absurd serve
    AllZip-filled (key ∷ keys) (Some one ∷ found) asked loaded serve copies gave =
        (serve.0, AllZip-filled keys found asked loaded serve.1 copies gave)
    AllZip-filled (key ∷ keys) (None ∷ found) [] loaded serve copies gave = absurd copies
    AllZip-filled (key ∷ keys) (None ∷ found) (copy ∷ asked) [] serve copies gave = absurd gave
    AllZip-filled (key ∷ keys) (None ∷ found) (copy ∷ asked) (value ∷ loaded) serve copies gave = (
      copied key copy value copies.0 gave.0,
      AllZip-filled keys found asked loaded serve.1 copies.1 gave.1,
    )
