-- What looks with a test show, and leave.
use Rattle.std.proofs.Common.{◌≡◌, ◌≤◌, ℕ, Bool, true, false, Option, Some, None, IsSome, Result, Ok, Err, IfOk, OnErr, refl, subst, sym, ◌∙◌}
use Rattle.std.specs.Result.{result_map_both}
use denote.Ref.{Bor}
use Rattle.quick_cache_model.specs.CacheState.{CacheState, SameButOrder, keys_by}
use Rattle.quick_cache_model.specs.Lookups.{LooksUp, Sees, after_miss}
use Rattle.quick_cache_model.proofs.LookupLaws.{not_both}
use Rattle.quick_cache_model.proofs.OrderLaws.{SameButOrder-refl}
use Rattle.quick_cache_shard.specs.Predicates.{RemovesAsked}
use Rattle.quick_cache_shard.specs.Shard.{Shard}
use Rattle.quick_cache_shard.specs.Tests.{GetsOrDrops, GetsOrTakes, LooksUpIf, Miss, miss_of, ok_copied}

-- what is copied is what is shown
pub copied-ok : {V E : Type 0} (found : Result (Bor V) E)
    → result_map_both (λ (shown : Bor V). shown.now) (λ (other : E). other) found ≡ ok_copied found
copied-ok (Ok shown) = refl
copied-ok (Err other) = refl

module _ {K V : Type 0} (test : K → Bool) (answers : V → Bool → Type 0) (old : CacheState K V) where
  -- a value that is given passed the test
  pub LooksUpIf-passed : (P : V → Type 0) → ((value : V) → answers value true → P value)
      → (found : Result V Miss) (new : CacheState K V) → LooksUpIf test answers old found new
      → IfOk found P
  LooksUpIf-passed P says (Ok value) new passes = says value passes.said
  LooksUpIf-passed P says (Err miss) new misses = tt

  missed : (new : CacheState K V) → LooksUp test old (λ item. item.value) None new
      → new ≡ after_miss old
  missed _ (LooksUp.miss none) = refl

  -- where none is given, a miss is counted, and all else stays
  pub LooksUpIf-missed : (found : Result V Miss) (new : CacheState K V)
      → LooksUpIf test answers old found new → OnErr found (SameButOrder (after_miss old) new)
  LooksUpIf-missed (Ok value) new passes = tt
  LooksUpIf-missed (Err Miss.Failed) new fails =
      subst (SameButOrder (after_miss old)) (sym fails.counts) (SameButOrder-refl (after_miss old))
  LooksUpIf-missed (Err Miss.Absent) new absent =
      subst (λ (s : CacheState K V). SameButOrder s new) (missed absent.ordered absent.holds)
      absent.same

  module _ (single : keys_by test old ≤ 1) where
    -- what is taken out was shown
    shown-taken : (pair : K × V) (mid : CacheState K V) (told : V → Bool → Type 0)
        → RemovesAsked test old told (Some pair) mid → (shown : Option V)
        → Sees test old (λ item. item.value) shown → shown ≡ None → ⊥
    shown-taken _ _ told (RemovesAsked.goes place before item after at said) _
        (Sees.is_absent none) is = not_both test old single place before item after at none
    shown-taken _ _ told (RemovesAsked.goes place before item after at said) _
        (Sees.is_there other front it back there) is =
        let never : Some it.value ≡ None = is in absurd cc

    -- and where nothing is found, nothing was
    shown-missed : (new : CacheState K V) → LooksUp test old (λ item. item.value) None new
        → (shown : Option V) → Sees test old (λ item. item.value) shown → IsSome shown → ⊥
    shown-missed _ (LooksUp.miss none) _ (Sees.is_there place before item after at) is =
        not_both test old single place before item after at none
    shown-missed _ (LooksUp.miss none) _ (Sees.is_absent also) is = absurd cc

module _ {K V We B L : Type 0} (test : K → Bool) (answers : V → Bool → Type 0)
    (never : (value : V) → answers value true → ⊥) (old : Shard K V We B L)
    (single : keys_by test old.state ≤ 1) (shown : Option V)
    (sees : Sees test old.state (λ item. item.value) shown) where
  taken-as-shown : (taken : Option (K × V)) (new : Shard K V We B L)
      → GetsOrTakes test answers old (Err taken) new
      → (IsSome shown → miss_of taken ≡ Miss.Failed) × (shown ≡ None → miss_of taken ≡ Miss.Absent)
  taken-as-shown (Some pair) new gets = (
    λ is. refl,
    λ is. absurd (shown-taken test answers old.state single pair gets.looks_up.removes.ordered _
        gets.looks_up.removes.holds shown sees is),
  )
  taken-as-shown None new gets = (
    λ is. absurd (shown-missed test answers old.state single gets.looks_up.ordered
        gets.looks_up.holds shown sees is),
    λ is. refl,
  )

  -- what no test passes is told to have failed where it is shown
  pub GetsOrDrops-shown : (found : Result V Miss) (new : Shard K V We B L)
      → GetsOrDrops test answers old found new
      → (IsSome shown → found ≡ Err Miss.Failed) × (shown ≡ None → found ≡ Err Miss.Absent)
  GetsOrDrops-shown (Ok value) new gets = absurd (never value gets.looks_up.said)
  GetsOrDrops-shown (Err miss) new gets =
      let as_shown = taken-as-shown gets.0 new gets.1 in (
        λ is. λ i. Err ((gets.2 ∙ as_shown.0 is) i),
        λ is. λ i. Err ((gets.2 ∙ as_shown.1 is) i),
      )
