-- Which value was last written under a key.
use Rattle.std.proofs.Common.{◌≡◌, ℕ, ◌+◌, ◌≤◌, Bool, true, false, cond, List, [], ◌∷◌, ◌++◌, map, if◌then◌else◌, Option, Some, None}
use Rattle.std.proofs.Common.{IsPermutation, refl, sym, ap, arith, ◌∙◌}
use Rattle.std.specs.Prelude.{count_by}
use Rattle.std.proofs.lemmas.List.Sums.{sum_by-cons}
use Rattle.std.proofs.lemmas.List.Sorted.{sum_by-IsPermutation}
use Rattle.quick_cache_model.specs.Hooks.{HookCall, BeforeEvict, EvictHot, EvictCold}
use Rattle.quick_cache_model.proofs.EachElement.{all-permutation}
use Rattle.quick_cache_model.proofs.KeyCounts.{one_if, one}
use Rattle.quick_cache_runs.specs.Conservation.{IsLastOf}
use Rattle.quick_cache_model.specs.Fates.{Fate, Comes, Changes, Leaves, leaving, fate_of}
use Rattle.quick_cache_runs.specs.Fates.{last_written}
use Rattle.quick_cache_model.specs.Leads.{Leads}

module _ {K V : Type 0} (test : K → Bool) where
  -- how many pairs have a key that passes
  abbrev pub counted : List (K × V) → ℕ
  counted pairs = count_by (λ pair. test pair.0) pairs

  pub counted-cons : (pair : K × V) (pairs : List (K × V))
      → counted (pair ∷ pairs) ≡ one test pair.0 + counted pairs
  counted-cons pair pairs = sum_by-cons (λ (x : K × V). cond (test x.0) 1 0) pair pairs

  pub counted-order : (pairs others : List (K × V)) → IsPermutation pairs others
      → counted others ≡ counted pairs
  counted-order pairs others order =
      sum_by-IsPermutation (λ (x : K × V). cond (test x.0) 1 0) pairs others order

  -- how many come with such a key
  abbrev pub comings : List (Fate K V) → ℕ
  comings [] = 0
  comings (Comes key value ∷ fates) = one test key + comings fates
  comings (Changes key value left ∷ fates) = comings fates
  comings (Leaves key value ∷ fates) = comings fates

  -- none by a hook
  pub comings-hooks : (calls : List (HookCall K V)) → comings (map fate_of calls) ≡ 0
  comings-hooks [] = refl
  comings-hooks (BeforeEvict key value left ∷ calls) = comings-hooks calls
  comings-hooks (EvictHot key value ∷ calls) = comings-hooks calls
  comings-hooks (EvictCold key value ∷ calls) = comings-hooks calls

  -- nor where pairs leave
  pub comings-leaving : (pairs : List (K × V)) → comings (map leaving pairs) ≡ 0
  comings-leaving [] = refl
  comings-leaving (pair ∷ pairs) = comings-leaving pairs

  pub comings-append : (fates more : List (Fate K V))
      → comings (fates ++ more) ≡ comings fates + comings more
  comings-append [] more = omega arith
  comings-append (Comes key value ∷ fates) more = omega (arith, comings-append fates more)
  comings-append (Changes key value left ∷ fates) more = comings-append fates more
  comings-append (Leaves key value ∷ fates) more = comings-append fates more

  -- the last of some fates and more
  pub last_written-append : (value : Option V) (fates more : List (Fate K V))
      → last_written test value (fates ++ more)
      ≡ last_written test (last_written test value fates) more
  last_written-append value [] more = refl
  last_written-append value (Comes key own ∷ fates) more =
      last_written-append (if test key then Some own else value) fates more
  last_written-append value (Changes key own left ∷ fates) more =
      last_written-append (if test key then Some left else value) fates more
  last_written-append value (Leaves key own ∷ fates) more = last_written-append value fates more

  -- a pair that leaves in between writes nothing
  pub last_written-leaving : (value : Option V) (pair : K × V) (front back : List (Fate K V))
      → last_written test value (front ++ leaving pair ∷ back)
      ≡ last_written test value (front ++ back)
  last_written-leaving value pair front back =
      last_written-append value front (leaving pair ∷ back)
      ∙ sym (last_written-append value front back)

  -- where no key passes, whatever was written is the value
  pub last-none : (value : Option V) (pairs : List (K × V)) → counted pairs ≡ 0
      → IsLastOf test value pairs
  last-none value [] none = tt
  last-none value (pair ∷ pairs) none = (
    λ passes. absurd (omega (arith, none, counted-cons pair pairs, ap one_if passes)),
    last-none value pairs (omega (arith, none, counted-cons pair pairs)),
  )

  -- a pair that is written beside others, none of which has such a key too
  last-written : (key : K) (written : V) (value : Option V) (pairs : List (K × V))
      → one test key + counted pairs ≤ 1 → IsLastOf test value pairs
      → IsLastOf test (if test key then Some written else value) ((key, written) ∷ pairs)
  last-written key written value pairs single last = go (test key) refl
    where
      go : (b : Bool) → test key ≡ b
          → IsLastOf test (if b then Some written else value) ((key, written) ∷ pairs)
      go true is = (
        λ passes. refl,
        last-none (Some written) pairs (omega (arith, single, ap one_if is)),
      )
      go false is = (λ passes. absurd cc, last)

  -- Where at most one pair in all has such a key, each has the value last written for it.
  pub Leads-last : {pairs others : List (K × V)} {fates : List (Fate K V)} (value : Option V)
      → Leads pairs fates others → comings fates + counted pairs ≤ 1
      → IsLastOf test value pairs → IsLastOf test (last_written test value fates) others
  Leads-last value (Leads.rests pairs others order) single last =
      all-permutation (λ pair. test pair.0 ≡ true → value ≡ Some pair.1) pairs others order last
  Leads-last value (Leads.comes key own pairs fates others leads) single last =
      Leads-last (if test key then Some own else value) leads
      (omega (arith, single, counted-cons (key, own) pairs))
      (last-written key own value pairs (omega (arith, single)) last)
  Leads-last value (Leads.changes key own left pairs rest fates others order leads) single last =
      let here = all-permutation (λ pair. test pair.0 ≡ true → value ≡ Some pair.1) pairs
      ((key, own) ∷ rest) order last in
      Leads-last (if test key then Some left else value) leads
      (omega (
        arith,
        single,
        counted-order pairs ((key, own) ∷ rest) order,
        counted-cons (key, own) rest,
        counted-cons (key, left) rest,
      ))
      (last-written key left value rest (omega (
        arith,
        single,
        counted-order pairs ((key, own) ∷ rest) order,
        counted-cons (key, own) rest,
      )) here.1)
  Leads-last value (Leads.leaves key own pairs rest fates others order leads) single last =
      let here = all-permutation (λ pair. test pair.0 ≡ true → value ≡ Some pair.1) pairs
      ((key, own) ∷ rest) order last in
      Leads-last value leads
      (omega (
        arith,
        single,
        counted-order pairs ((key, own) ∷ rest) order,
        counted-cons (key, own) rest,
      )) here.1

  -- where at most one pair has such a key, there is such a value, or none
  pub last_found : (pairs : List (K × V)) → counted pairs ≤ 1
      → (value : Option V) × IsLastOf test value pairs
  last_found [] single = (None, tt)
  last_found (pair ∷ pairs) single =
      go (test pair.0) refl
      (last_found pairs (omega (arith, single, counted-cons pair pairs)))
    where
      go : (b : Bool) → test pair.0 ≡ b → (value : Option V) × IsLastOf test value pairs
          → (value : Option V) × IsLastOf test value (pair ∷ pairs)
      go true is rest = (
        Some pair.1,
        (
          λ passes. refl,
          last-none (Some pair.1) pairs
              (omega (arith, single, counted-cons pair pairs, ap one_if is)),
        ),
      )
      go false is rest = (rest.0, (λ passes. absurd cc, rest.1))
