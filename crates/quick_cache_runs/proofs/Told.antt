-- What befalls pairs in a step from a valid state: it leads the residents to those of a valid state,
-- and keys have their last values.
use Rattle.std.proofs.Common.{◌≡◌, Bool, true, List, [], ◌++◌, Option, Some, IsPermutation, refl, sym, subst, arith}
use Rattle.std.proofs.lemmas.List.Sorted.{IsPermutation-refl}
use Rattle.quick_cache_model.specs.CacheState.{CacheState, IsValid, SameButOrder, UpToOrder}
use Rattle.quick_cache_model.proofs.EachElement.{all-permutation}
use Rattle.quick_cache_model.proofs.Valid.Orders.{SameButOrder-valid}
use Rattle.quick_cache_runs.specs.Conservation.{IsLastOf}
use Rattle.quick_cache_model.specs.Fates.{Fate, residents}
use Rattle.quick_cache_runs.specs.Fates.{last_written}
use Rattle.quick_cache_model.specs.Leads.{Leads}
use Rattle.quick_cache_model.proofs.Leads.{Leads-append, Leads-to}
use Rattle.quick_cache_model.proofs.Residents.{residents-ordered}
use Rattle.quick_cache_runs.proofs.Residents.{counted-residents}
use Rattle.quick_cache_runs.proofs.Values.{comings, Leads-last, last_written-append}

module _ {K V : Type 0} (equal : K → K → Bool) where
  -- each key has its last value
  abbrev pub KeepsLast : CacheState K V → List (Fate K V) → CacheState K V → Type 0
  KeepsLast old fates new = (key : K) (value : Option V)
      → IsLastOf (equal key) value (residents old)
      → IsLastOf (equal key) (last_written (equal key) value fates) (residents new)

  -- what is told of a step
  pub record Told (old : CacheState K V) (fates : List (Fate K V)) (new : CacheState K V)
      : Type 0 where
    pub leads : Leads (residents old) fates (residents new)
    pub valid : IsValid equal new
    pub last : KeepsLast old fates new

  -- a step in which no pair comes
  pub Told-quiet : (old : CacheState K V) (fates : List (Fate K V)) (new : CacheState K V)
      → IsValid equal old → IsValid equal new
      → ((key : K) → comings (equal key) fates ≡ 0)
      → Leads (residents old) fates (residents new) → Told old fates new
  Told-quiet old fates new was valid none leads = record {
    leads = leads;
    valid = valid;
    last = λ key value last. Leads-last (equal key) value leads
        (omega (arith, none key, counted-residents (equal key) old, was.one_entry_a_key key)) last;
  }

  -- a step in which nothing befalls pairs
  pub Told-same : (old new : CacheState K V) → IsValid equal old → IsValid equal new
      → IsPermutation (residents old) (residents new) → Told old [] new
  Told-same old new was valid same = Told-quiet old [] new was valid (λ key. refl)
      (Leads.rests (residents old) (residents new) same)

  pub Told-nothing : (old : CacheState K V) → IsValid equal old → Told old [] old
  Told-nothing old valid = Told-same old old valid valid (IsPermutation-refl (residents old))

  -- a step and another
  pub Told-append : (old mid new : CacheState K V) (fates more : List (Fate K V))
      → Told old fates mid → Told mid more new → Told old (fates ++ more) new
  Told-append old mid new fates more first rest = record {
    leads = Leads-append first.leads rest.leads;
    valid = rest.valid;
    last = λ key value last.
        subst (λ all. IsLastOf (equal key) all (residents new))
        (sym (last_written-append (equal key) value fates more))
        (rest.last key (last_written (equal key) value fates) (first.last key value last));
  }

  -- another order of what has none
  pub Told-reordered : (old : CacheState K V) (fates : List (Fate K V)) (mid new : CacheState K V)
      → SameButOrder mid new → Told old fates mid → Told old fates new
  Told-reordered old fates mid new same told =
      let order = residents-ordered mid new same in
      record {
        leads = Leads-to (residents mid) (residents new) order told.leads;
        valid = SameButOrder-valid equal mid new same told.valid;
        last = λ key value last. all-permutation (λ pair. equal key pair.0 ≡ true
            → last_written (equal key) value fates ≡ Some pair.1)
            (residents mid) (residents new) order (told.last key value last);
      }

  -- a step up to that order
  pub Told-ordered : (P : CacheState K V → Type 0) (old : CacheState K V)
      (fates : List (Fate K V)) (new : CacheState K V)
      → UpToOrder P new → ((state : CacheState K V) → P state → Told old fates state)
      → Told old fates new
  Told-ordered P old fates new up step =
      Told-reordered old fates up.ordered new up.same (step up.ordered up.holds)
