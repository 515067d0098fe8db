-- Single calls, each a step that its entry shows.
use Rattle.std.proofs.Common.{◌≡◌, ◌≤◌, ℕ, Bool, true, List, [], ◌∷◌, ◌++◌, Option, Some, None, refl, sym, ap, subst, arith}
use Rattle.std.specs.List.{count_by}
use Rattle.std.proofs.lemmas.List.Sums.{sum_by-append, sum_by-cons}
use Rattle.quick_cache_model.specs.CacheState.{CacheState, Item, Place, InHot, InCold, InStill, LoadingEntry, UpToOrder, keys_by}
use Rattle.quick_cache_model.specs.Hooks.{Rules, Hooks}
use Rattle.quick_cache_model.specs.Finding.{IsItemAt, IsLoadingAt}
use Rattle.quick_cache_model.specs.Lookups.{Sees, LooksUp}
use Rattle.quick_cache_model.specs.Removal.{Removes, pair_of}
use Rattle.quick_cache_model.specs.Writes.{Insert as insertion}
use Rattle.quick_cache_model.proofs.LookupLaws.{Sees-LooksUp, same_everywhere, at_least, not_both}
use Rattle.quick_cache_model.proofs.KeyCounts.{one_if}
use Rattle.quick_cache_model.specs.declared.calls.call.Call.{Call}
use Rattle.quick_cache_model.specs.declared.calls.reply.Reply.{Reply}
use Rattle.quick_cache_model.specs.CacheStep.{CacheStep}
use Rattle.quick_cache_model.specs.Shown.{IsShown}
use Rattle.quick_cache_shard.specs.Shard.{Wrote}
use Rattle.quick_cache_traced.specs.declared.call.TraceCall.{TraceCall}
use Rattle.quick_cache_traced.specs.Trace.{IsTraced, AreTold, ShowsCall}
use Rattle.quick_cache_traced.specs.Recorded.{SeesPair, ShowsPair}

-- a look-up shows what a look before it saw
pub LooksUp-seen : {K V X : Type 0} (stands_for : K → Bool) (old : CacheState K V)
    (of : Item K V → X) → keys_by stands_for old ≤ 1
    → {seen shown : Option X} {new : CacheState K V} → Sees stands_for old of seen
    → UpToOrder (LooksUp stands_for old of shown) new
    → UpToOrder (LooksUp stands_for old of seen) new
LooksUp-seen stands_for old of single {seen} {shown} {new} sees looks =
    subst (λ answer. UpToOrder (LooksUp stands_for old of answer) new)
    (sym (Sees-LooksUp stands_for old single of sees looks.holds)) looks

-- a key that is being loaded is counted
loading-counts : {K : Type 0} (test : K → Bool) (before : List (LoadingEntry K))
    (entry : LoadingEntry K) (after : List (LoadingEntry K)) → test entry.key ≡ true
    → 1 ≤ count_by (λ e. test e.key) (before ++ entry ∷ after)
loading-counts {K} test before entry after passes =
    let weight : LoadingEntry K → ℕ = λ e. one_if (test e.key) in
    let one : weight entry ≡ 1 = ap one_if passes in
    omega (
      arith,
      sum_by-append weight before (entry ∷ after),
      sum_by-cons weight entry after,
      one,
    )

module _ {K V : Type 0} (stands_for : K → Bool) (old : CacheState K V)
    (single : keys_by stands_for old ≤ 1) where
  loads-one : (front : List (LoadingEntry K)) (entry : LoadingEntry K)
      (back : List (LoadingEntry K)) → IsLoadingAt stands_for old front entry back
      → 1 ≤ count_by (λ e. stands_for e.key) old.loading
  loads-one front entry back loads =
      subst (λ list. 1 ≤ count_by (λ e. stands_for e.key) list) (sym loads.split)
      (loading-counts stands_for front entry back loads.passes)

  -- a key with an item is not being loaded
  not_loading : (place : Place) (before : List (Item K V)) (item : Item K V)
      (after : List (Item K V)) → IsItemAt stands_for old place before item after
      → (front : List (LoadingEntry K)) (entry : LoadingEntry K) (back : List (LoadingEntry K))
      → IsLoadingAt stands_for old front entry back → ⊥
  not_loading InHot before item after there front entry back loads = omega (
    arith,
    single,
    at_least stands_for old single InHot before item after there,
    loads-one front entry back loads,
  )
  not_loading InCold before item after there front entry back loads = omega (
    arith,
    single,
    at_least stands_for old single InCold before item after there,
    loads-one front entry back loads,
  )
  not_loading InStill before item after there front entry back loads = omega (
    arith,
    single,
    at_least stands_for old single InStill before item after there,
    loads-one front entry back loads,
  )

  -- what a removal takes out is what a look before it saw
  taken : {answer : Option (K × V)} {new : CacheState K V} (hash : ℕ) (found : Option (K × V))
      → Sees stands_for old pair_of found → Removes stands_for old hash answer new
      → found ≡ answer
  taken hash found (Sees.is_there place before item after there)
      (Removes.of_item other front w back also) =
      ap (λ (i : Item K V). Some (pair_of i))
      (same_everywhere stands_for old single place other before item after front w back there also)
  taken hash found (Sees.is_there place before item after there)
      (Removes.of_loading front entry back loads) =
      absurd (not_loading place before item after there front entry back loads)
  taken hash found (Sees.is_there place before item after there)
      (Removes.of_ghost front back ghost) =
      absurd (not_both stands_for old single place before item after there ghost.keys.items)
  taken hash found (Sees.is_there place before item after there) (Removes.of_nothing nothing) =
      absurd (not_both stands_for old single place before item after there nothing.keys.items)
  taken hash found (Sees.is_absent none) (Removes.of_item other front w back also) =
      absurd (not_both stands_for old single other front w back also none)
  taken hash found (Sees.is_absent none) (Removes.of_loading front entry back loads) = refl
  taken hash found (Sees.is_absent none) (Removes.of_ghost front back ghost) = refl
  taken hash found (Sees.is_absent none) (Removes.of_nothing nothing) = refl

  -- so what was shown of it is shown of what is taken out
  pub Removes-shown : (shows_key : K → K → Type 0) (shows : V → V → Type 0) (hash : ℕ)
      (pair shown : Option (K × V)) (new : CacheState K V)
      → SeesPair stands_for shows_key shows old shown
      → UpToOrder (Removes stands_for old hash pair) new → ShowsPair shows_key shows pair shown
  Removes-shown shows_key shows hash pair shown new sees removes =
      subst (λ found. ShowsPair shows_key shows found shown)
      (taken hash sees.found sees.sees removes.holds) sees.is_shown

module _ {K V M S : Type 0} (rules : Rules K V) (equal : K → K → Bool)
    (shows_key : K → K → Type 0) (shows : V → V → Type 0) (hooks : Hooks K V S)
    (is_default : S → Type 0) (old new : CacheState K V) where
  pub gets : (key kept : K) (found shown : Option V) → shows_key key kept
      → UpToOrder (LooksUp (equal key) old (λ item. item.value) found) new
      → IsShown shows found shown
      → IsTraced {M = M} rules equal shows_key shows hooks is_default old
      (TraceCall.Get kept, Reply.Value shown)
      new
  gets key kept found shown is_key looks is_shown = record {
    call = Call.Get key;
    calls = [];
    step = CacheStep.gets key found shown new looks is_shown;
    told = AreTold.none;
    shown = ShowsCall.got key kept is_key;
  }

  pub removes : (key kept : K) (pair : Option (K × V)) → shows_key key kept
      → UpToOrder (Removes (equal key) old (rules.hash key) pair) new
      → IsTraced {M = M} rules equal shows_key shows hooks is_default old
      (TraceCall.Remove kept, Reply.Pair pair)
      new
  removes key kept pair is_key step = record {
    call = Call.Remove key;
    calls = [];
    step = CacheStep.removes key pair new step;
    told = AreTold.none;
    shown = ShowsCall.removed key kept is_key;
  }

  pub inserts : (steady : Type 0) → steady → (key kept : K) (value copy : V) → shows_key key kept
      → shows value copy → (first last : S) → is_default first
      → Wrote steady hooks rules equal insertion old first key value None new last
      → IsTraced {M = M} rules equal shows_key shows hooks is_default old
      (TraceCall.Insert kept copy, Reply.Done)
      new
  inserts steady is_steady key kept value copy is_key is_value first last begins wrote = record {
    call = Call.Insert key value;
    calls = wrote.step.calls;
    step = CacheStep.inserts key value wrote.step.calls new wrote.provided
        (wrote.step.holds.0 is_steady);
    told = AreTold.some wrote.step.calls first last begins wrote.step.runs;
    shown = ShowsCall.inserted key kept value copy is_key is_value;
  }
