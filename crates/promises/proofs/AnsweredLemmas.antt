-- What loads answer of a key that is absent, and leave of it.
use Rattle.std.proofs.Common.{◌≡◌, ◌≢◌, ◌≤◌, ◌+◌, ℕ, Bool, false, true≢false, List, [], ◌∷◌, ◌++◌, length, length-append, Result, Ok, Err}
use Rattle.std.proofs.Common.{IfOk, Some, refl, ap, subst, sym, ◌∙◌, arith}
use Rattle.std.specs.List.{AllByRecursion}
use Rattle.quick_cache_model.specs.CacheState.{CacheState, Item, Place, InHot, InCold, InStill, LoadingEntry}
use Rattle.std.proofs.lemmas.List.Sorted.{length_permutation, IsPermutation-sym}
use Rattle.quick_cache_model.specs.Finding.{IsItemAt, HasNoItem, HasNoKey}
use Rattle.quick_cache_model.specs.Loads.{TakesPlaceholder, LoadsNothing}
use Rattle.quick_cache_model.specs.Placeholders.{HasNoTicket, MakesPlaceholder, MeetsPlaceholder, GivesUpPlaceholder}
use Rattle.quick_cache_model.specs.References.{TellsItem}
use Rattle.quick_cache_model.specs.declared.refusal.Refusal.{Refusal}
use Rattle.quick_cache_unsync.specs.Loads.{AnswersLoad}
use Rattle.quick_cache_model.specs.Hooks.{Rules, Hooks}
use Rattle.quick_cache_model.specs.Lookups.{LooksUp}
use Rattle.quick_cache_model.proofs.EachElement.{all-middle, all-permutation}
use Rattle.quick_cache_unsync.specs.Fetches.{EndsFetch, Fetches}
use Rattle.quick_cache_unsync.specs.declared.loading.not_loaded.LoadError.{LoadError}

module _ {K V : Type 0} (stands_for : K → Bool) (old : CacheState K V)
    (none : HasNoItem stands_for old) where
  -- no item is there
  pub no-item : (place : Place) (before : List (Item K V)) (item : Item K V) (after : List (Item K V))
      → IsItemAt stands_for old place before item after → ⊥
  no-item InHot before item after at =
      true≢false (sym at.passes
      ∙ all-middle (λ (i : Item K V). stands_for i.key ≡ false) before item after
      (subst (λ (l : List (Item K V)). AllByRecursion (λ i. stands_for i.key ≡ false) l) at.split
      none.hot))
  no-item InCold before item after at =
      true≢false (sym at.passes
      ∙ all-middle (λ (i : Item K V). stands_for i.key ≡ false) before item after
      (subst (λ (l : List (Item K V)). AllByRecursion (λ i. stands_for i.key ≡ false) l) at.split
      none.cold))
  no-item InStill before item after at =
      true≢false (sym at.passes
      ∙ all-middle (λ (i : Item K V). stands_for i.key ≡ false) before item after
      (subst (λ (l : List (Item K V)). AllByRecursion (λ i. stands_for i.key ≡ false) l) at.split
      none.still))

  -- so no look-up shows one
  no-hit : (value : V) (new : CacheState K V)
      → LooksUp stands_for old (λ item. item.value) (Some value) new → ⊥
  no-hit _ _ (LooksUp.hit place before item after at) = no-item place before item after at

  module _ {S E : Type 0} (steady : Type 0) (hooks : Hooks K V S) (rules : Rules K V)
      (is_default : S → Type 0) (is_clone : V → V → Type 0) (is_infallible : V → Type 0)
      (gives : K → Type 0) (hash : ℕ) (given : Result V E → Type 0) where
    ended : (ticket : ℕ) (mid new : CacheState K V) (answer : Result V (LoadError E))
        → EndsFetch steady hooks rules is_default is_clone is_infallible ticket given mid answer new
        → IfOk answer (λ value. given (Ok value))
    ended ticket mid new (Ok value) ends = ends.loaded
    ended ticket mid new (Err error) ends = tt

    -- what is answered is what the loader gave
    pub Fetches-absent : (answer : Result V (LoadError E)) (new : CacheState K V)
        → Fetches steady hooks rules is_default is_clone is_infallible stands_for gives hash given
        old answer new
        → IfOk answer (λ value. given (Ok value))
    Fetches-absent _ new (Fetches.found value copy _ up clone) =
        absurd (no-hit value up.ordered up.holds)
    Fetches-absent _ new (Fetches.not_cloned value _ up uncloned) = tt
    Fetches-absent _ new (Fetches.loads answer ticket mid _ takes ends) =
        ended ticket mid new answer ends
    Fetches-absent _ new (Fetches.refused refusal _ none) = tt

-- a key that is told to be absent is absent
told-absent : {K V E : Type 0} (stands_for : K → Bool) (new : CacheState K V) (there : Bool)
    → TellsItem stands_for new there → (ended : Result Bool E) → ended ≡ Ok there
    → ended ≡ Ok false → HasNoItem stands_for new
told-absent stands_for new _ (TellsItem.is_there place before item after at) ended told is =
    absurd cc
told-absent stands_for new _ (TellsItem.is_absent none) ended told is = none

module _ {K V S E : Type 0} (steady : Type 0) (hooks : Hooks K V S) (rules : Rules K V)
    (is_default : S → Type 0) (stands_for : K → Bool) (gives : K → Type 0) (hash : ℕ)
    (given : Result V E → Type 0) (old : CacheState K V) where
  -- where a load tells that nothing stays, nothing stands under the key
  pub AnswersLoad-absent : (answer : Result (Result Bool E) Refusal) (new : CacheState K V)
      → AnswersLoad steady hooks rules is_default stands_for gives hash given old answer new
      → IfOk answer (λ ended. ended ≡ Ok false → HasNoItem stands_for new)
  AnswersLoad-absent _ _ (AnswersLoad.found value new up) = λ is. absurd cc
  AnswersLoad-absent _ _ (AnswersLoad.loads there new loaded) =
      λ is. told-absent stands_for new there loaded.fills.resident (Ok there) refl is
  AnswersLoad-absent _ _ (AnswersLoad.fails error new failed) = λ is. absurd cc
  AnswersLoad-absent _ _ (AnswersLoad.refused refusal new none) = tt

module _ {K V : Type 0} (stands_for : K → Bool) (old : CacheState K V)
    (none : HasNoKey stands_for old) where
  -- no placeholder is there to be met
  none-met : (ticket : ℕ) (new : CacheState K V) → MeetsPlaceholder stands_for old ticket new → ⊥
  none-met _ _ (MeetsPlaceholder.is_there before entry after at) =
      true≢false (sym at.passes
      ∙ all-middle (λ (e : LoadingEntry K). stands_for e.key ≡ false) before entry after
      (subst (λ (l : List (LoadingEntry K)). AllByRecursion (λ e. stands_for e.key ≡ false) l)
      at.split none.loading))

  -- one that is made stands last, with the next ticket
  made-last : (hash : ℕ) (key : K) (new : CacheState K V)
      → MakesPlaceholder stands_for old hash key new
      → (entry : LoadingEntry K) × (entry.ticket ≡ old.next_ticket)
      × (new.loading ≡ old.loading ++ entry ∷ [])
  made-last hash key _ (MakesPlaceholder.on_nothing passes nothing) = (_, refl, refl)
  made-last hash key _ (MakesPlaceholder.on_ghost before after passes at) = (_, refl, refl)

  -- so one is made where a load begins
  taken-last : (hash ticket : ℕ) (new : CacheState K V)
      → TakesPlaceholder stands_for hash old ticket new
      → (entry : LoadingEntry K) × (entry.ticket ≡ ticket)
      × (new.loading ≡ old.loading ++ entry ∷ [])
  taken-last hash _ _ (TakesPlaceholder.makes key new provided makes) = made-last hash key new makes
  taken-last hash _ _ (TakesPlaceholder.meets ticket new meets) = absurd (none-met ticket new meets)

  -- where a placeholder is given up that is there, there is one less
  one-less : (ticket : ℕ) (mid new : CacheState K V) → (HasNoTicket ticket mid → ⊥)
      → GivesUpPlaceholder ticket mid new → length new.loading + 1 ≡ length mid.loading
  one-less ticket mid _ there (GivesUpPlaceholder.was_there before entry after at) =
      omega (
        arith,
        ap length at.split,
        length-append before (entry ∷ after),
        length-append before after,
      )
  one-less ticket mid _ there (GivesUpPlaceholder.was_gone gone) = absurd (there gone)

  -- a load that gives nothing leaves no more placeholders than there were
  LoadsNothing-none : (rules : Rules K V) (hash : ℕ) (new : CacheState K V)
      → LoadsNothing rules stands_for hash old new → length new.loading ≤ length old.loading
  LoadsNothing-none rules hash new nothing =
      let first = nothing.takes.ordered.loading in
      let last = taken-last hash nothing.ticket nothing.takes.ordered nothing.takes.holds in
      let differs : LoadingEntry K → Type 0 = λ e. e.ticket ≢ nothing.ticket in
      let there : HasNoTicket nothing.ticket nothing.mid → ⊥ = λ gone.
      all-middle differs old.loading last.0 []
      (subst (λ (l : List (LoadingEntry K)). AllByRecursion differs l) last.2
      (all-permutation differs nothing.mid.loading first
      (IsPermutation-sym first nothing.mid.loading nothing.takes.same.loading) gone)) last.1 in
      omega (
        arith,
        one-less nothing.ticket nothing.mid nothing.gives_up.ordered there nothing.gives_up.holds,
        ap length last.2,
        length-append old.loading (last.0 ∷ []),
        length_permutation first nothing.mid.loading nothing.takes.same.loading,
        length_permutation nothing.gives_up.ordered.loading new.loading
            nothing.gives_up.same.loading,
      )

  module _ {S E : Type 0} (steady : Type 0) (hooks : Hooks K V S) (rules : Rules K V)
      (is_default : S → Type 0) (gives : K → Type 0) (hash : ℕ) (given : Result V E → Type 0)
      (fails : (value : V) → given (Ok value) → ⊥) where
    -- nor does one whose loader fails
    pub AnswersLoad-none : (answer : Result (Result Bool E) Refusal) (new : CacheState K V)
        → AnswersLoad steady hooks rules is_default stands_for gives hash given old answer new
        → length new.loading ≤ length old.loading
    AnswersLoad-none _ _ (AnswersLoad.found value new up) =
        absurd (no-hit stands_for old none.items value up.ordered up.holds)
    AnswersLoad-none _ _ (AnswersLoad.loads there new loaded) =
        absurd (fails loaded.fills.value loaded.fills.loaded)
    AnswersLoad-none _ _ (AnswersLoad.fails error new failed) =
        LoadsNothing-none rules hash new failed.step
    AnswersLoad-none _ _ (AnswersLoad.refused refusal new refused) =
        omega (arith, ap (λ (s : CacheState K V). length s.loading) refused.unchanged)
