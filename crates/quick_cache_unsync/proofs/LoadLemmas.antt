-- A placeholder that was taken is there, and loads by the words of calls.
use Rattle.std.proofs.Common.{◌≡◌, ◌≢◌, ◌<◌, ℕ, cond, arith, Bool, true, false, List, Result, Ok, Err, Some, refl, sym, ap, subst}
use Rattle.std.specs.List.{AllByRecursion}
use Rattle.std.proofs.lemmas.List.Sorted.{IsPermutation-sym, sum_by-IsPermutation}
use Rattle.quick_cache_model.specs.CacheState.{CacheState, Item, Place, LoadingEntry, UpToOrder, InHot, InCold, InStill}
use Rattle.quick_cache_model.specs.Hooks.{Rules, Hooks, Calls}
use Rattle.quick_cache_model.specs.Lookups.{LooksUp, looked_up}
use Rattle.quick_cache_model.proofs.KeyCounts.{one_if, keys, keys-split}
use Rattle.quick_cache_shard.specs.References.{count_under}
use Rattle.quick_cache_model.specs.Placeholders.{MakesPlaceholder, MeetsPlaceholder, HasNoTicket, GivesUpPlaceholder}
use Rattle.quick_cache_model.proofs.EachElement.{all-middle, all-permutation}
use Rattle.quick_cache_model.proofs.OrderLaws.{UpToOrder-map, SameButOrder-keys}
use Rattle.quick_cache_model.specs.Loads.{TakesPlaceholder, LoadsNothing}
use Rattle.quick_cache_shard.specs.Filling.{AnswersFill, Fills}
use Rattle.quick_cache_shard.specs.Loading.{IsMadeOrMet}
use Rattle.quick_cache_model.specs.References.{TellsItem}
use Rattle.std.specs.Bool.{OnTrue, OnFalse}
use Rattle.std.specs.Prelude.{IfErr}
use Rattle.quick_cache_model.specs.Finding.{HasNoItem, IsItemAt}
use Rattle.quick_cache_shard.specs.Shard.{HasItem}
use Rattle.quick_cache_unsync.specs.Loads.{IsAwaited, Takes, EndsLoad, AnswersLoad, OnResident}
use Rattle.quick_cache_unsync.specs.Fetches.{EndsFetch, Fetches}
use Rattle.quick_cache_unsync.specs.declared.loading.not_loaded.LoadError.{LoadError}
use Rattle.quick_cache_model.specs.declared.refusal.Refusal.{Refusal}

module _ {K V : Type 0} (stands_for : K → Bool) (gives : K → Type 0) (hash : ℕ)
    (old : CacheState K V) where
  made-there : (key : K) (state : CacheState K V) → MakesPlaceholder stands_for old hash key state
      → HasNoTicket old.next_ticket state → ⊥
  made-there key _ (MakesPlaceholder.on_nothing stands nothing) none =
      all-middle (λ (e : LoadingEntry K). e.ticket ≢ old.next_ticket) old.loading _ _ none refl
  made-there key _ (MakesPlaceholder.on_ghost before after stands there) none =
      all-middle (λ (e : LoadingEntry K). e.ticket ≢ old.next_ticket) old.loading _ _ none refl

  met-there : (ticket : ℕ) (state : CacheState K V) → MeetsPlaceholder stands_for old ticket state
      → HasNoTicket ticket state → ⊥
  met-there _ _ (MeetsPlaceholder.is_there before entry after there) none =
      all-middle (λ (e : LoadingEntry K). e.ticket ≢ entry.ticket) before entry after
      (subst (λ (l : List (LoadingEntry K)). AllByRecursion (λ e. e.ticket ≢ entry.ticket) l)
      there.split none) refl

  -- the order does not matter to it
  unordered : (ticket : ℕ) (P : CacheState K V → Type 0) (new : CacheState K V)
      → UpToOrder P new
      → ((state : CacheState K V) → P state → HasNoTicket ticket state → ⊥)
      → HasNoTicket ticket new → ⊥
  unordered ticket P new up there none =
      there up.ordered up.holds
      (all-permutation (λ (e : LoadingEntry K). e.ticket ≢ ticket) new.loading up.ordered.loading
      (IsPermutation-sym _ _ up.same.loading) none)

  IsMadeOrMet-awaited : (made : Bool) (ticket : ℕ) (new : CacheState K V)
      → IsMadeOrMet stands_for gives hash old made ticket new → IsAwaited ticket new
  IsMadeOrMet-awaited true ticket new makes =
      subst (λ (n : ℕ). IsAwaited n new) (sym makes.next)
      (unordered old.next_ticket _ new makes.step (made-there makes.key))
  IsMadeOrMet-awaited false ticket new meets =
      unordered ticket _ new meets (met-there ticket)

  pub Takes-awaited : (ticket : ℕ) (new : CacheState K V)
      → Takes stands_for gives hash old ticket new → IsAwaited ticket new
  Takes-awaited ticket new takes = IsMadeOrMet-awaited takes.made ticket new takes.takes

  IsMadeOrMet-takes : (made : Bool) (ticket : ℕ) (new : CacheState K V)
      → IsMadeOrMet stands_for gives hash old made ticket new
      → UpToOrder (TakesPlaceholder stands_for hash old ticket) new
  IsMadeOrMet-takes true ticket new makes =
      subst (λ (n : ℕ). UpToOrder (TakesPlaceholder stands_for hash old n) new) (sym makes.next)
      (UpToOrder-map _ _ new (λ state. TakesPlaceholder.makes makes.key state makes.provided)
      makes.step)
  IsMadeOrMet-takes false ticket new meets =
      UpToOrder-map _ _ new (λ state. TakesPlaceholder.meets ticket state) meets

  -- by the words of calls
  pub Takes-takes : (ticket : ℕ) (new : CacheState K V)
      → Takes stands_for gives hash old ticket new
      → UpToOrder (TakesPlaceholder stands_for hash old ticket) new
  Takes-takes ticket new takes = IsMadeOrMet-takes takes.made ticket new takes.takes

  -- taken and given up
  pub Takes-nothing : (rules : Rules K V) (ticket : ℕ) (mid new : CacheState K V)
      → Takes stands_for gives hash old ticket mid → UpToOrder (GivesUpPlaceholder ticket mid) new
      → LoadsNothing rules stands_for hash old new
  Takes-nothing rules ticket mid new takes gone = record {
    ticket = ticket;
    mid = mid;
    takes = Takes-takes ticket mid takes;
    gives_up = gone;
  }

-- what fills a placeholder that is there does not come back
pub Fills-awaited : {K V S : Type 0} (steady : Type 0) (hooks : Hooks K V S) (rules : Rules K V)
    (ticket : ℕ) (marked : Bool) (value : V) (old new : CacheState K V) (first last : S)
    (answer : Result (Unit {0}) V) → IsAwaited ticket old
    → Calls hooks (AnswersFill steady ticket old rules marked value answer new) first last
    → Calls hooks (Fills steady ticket old rules marked value new) first last
Fills-awaited steady hooks rules ticket marked value old new first last (Ok done) awaited fills =
    fills
Fills-awaited steady hooks rules ticket marked value old new first last (Err back) awaited fills =
    absurd (awaited fills.holds.gone)

-- an item that was looked for is told of
pub tells-item : {K V : Type 0} (stands_for : K → Bool) (state : CacheState K V) (answer : Bool)
    → OnTrue answer (HasItem stands_for state) → OnFalse answer (HasNoItem stands_for state)
    → TellsItem stands_for state answer
tells-item stands_for state true there absent =
    TellsItem.is_there there.place there.before there.item there.after there.at
tells-item stands_for state false there absent = TellsItem.is_absent absent

-- what ends a load is its answer
pub ends-load : {K V S E : Type 0} (steady : Type 0) (hooks : Hooks K V S) (rules : Rules K V)
    (is_default : S → Type 0) (stands_for : K → Bool) (gives : K → Type 0) (hash : ℕ)
    (given : Result V E → Type 0) (old mid new : CacheState K V) (ticket : ℕ)
    (answer : Result Bool E) → Takes stands_for gives hash old ticket mid
    → EndsLoad steady hooks rules is_default stands_for ticket given mid answer new
    → AnswersLoad steady hooks rules is_default stands_for gives hash given old (Ok answer) new
ends-load steady hooks rules is_default stands_for gives hash given old mid new ticket (Ok there)
    takes ends =
    AnswersLoad.loads there new
    (record { ticket = ticket; mid = mid; takes = takes; fills = ends })
ends-load steady hooks rules is_default stands_for gives hash given old mid new ticket (Err error)
    takes ends =
    AnswersLoad.fails error new (record {
      failed = ends.failed;
      step = Takes-nothing stands_for gives hash old rules ticket mid new takes ends.gives_up;
    })

-- the same, where what the cache was made with stands in one value, which is the same as before
pub ends-load-by : {K V S E X : Type 0} (steady : X → Type 0) (hooks : X → Hooks K V S)
    (rules : X → Rules K V) (now before : X) → now ≡ before
    → (is_default : S → Type 0) (stands_for : K → Bool) (gives : K → Type 0) (hash : ℕ)
    (given : Result V E → Type 0) (old mid new : CacheState K V) (ticket : ℕ)
    (answer : Result Bool E) → Takes stands_for gives hash old ticket mid
    → EndsLoad (steady now) (hooks now) (rules now) is_default stands_for ticket given mid answer
    new
    → AnswersLoad (steady before) (hooks before) (rules before) is_default stands_for gives hash
    given old (Ok answer) new
ends-load-by steady hooks rules now before same is_default stands_for gives hash given old mid new
    ticket answer takes ends =
    ends-load (steady before) (hooks before) (rules before) is_default stands_for gives hash given
    old mid new ticket answer takes
    (subst (λ s. EndsLoad (steady s) (hooks s) (rules s) is_default stands_for ticket given mid
    answer new) same ends)

-- what ends a load is no refusal
pub ends-answered : {K V S E : Type 0} (steady : Type 0) (hooks : Hooks K V S) (rules : Rules K V)
    (is_default : S → Type 0) (is_clone : V → V → Type 0) (is_infallible : V → Type 0) (ticket : ℕ)
    (given : Result V E → Type 0) (old new : CacheState K V) (P : Type 0)
    (answer : Result V (LoadError E))
    → EndsFetch steady hooks rules is_default is_clone is_infallible ticket given old answer new
    → IfErr answer (λ error. error ≡ LoadError.Refused Refusal.Memory → P)
ends-answered steady hooks rules is_default is_clone is_infallible ticket given old new P
    (Ok value) ends = tt
ends-answered steady hooks rules is_default is_clone is_infallible ticket given old new P
    (Err (LoadError.Failed error)) ends = λ same. absurd cc
ends-answered steady hooks rules is_default is_clone is_infallible ticket given old new P
    (Err (LoadError.Refused refusal)) ends = absurd ends

-- a placeholder that was taken and ended, by what stood before it was taken
pub fetches-by : {K V S E X : Type 0} (steady : X → Type 0) (hooks : X → Hooks K V S)
    (rules : X → Rules K V) (now before : X) → now ≡ before
    → (is_default : S → Type 0) (is_clone : V → V → Type 0) (is_infallible : V → Type 0)
    (stands_for : K → Bool) (gives : K → Type 0) (hash : ℕ) (given : Result V E → Type 0)
    (old mid new : CacheState K V) (ticket : ℕ) (answer : Result V (LoadError E))
    → Takes stands_for gives hash old ticket mid
    → EndsFetch (steady now) (hooks now) (rules now) is_default is_clone is_infallible ticket given
    mid answer new
    → Fetches (steady before) (hooks before) (rules before) is_default is_clone is_infallible
    stands_for gives hash given old answer new
fetches-by steady hooks rules now before same is_default is_clone is_infallible stands_for gives
    hash given old mid new ticket answer takes ends =
    Fetches.loads answer ticket mid new takes
    (subst (λ s. EndsFetch (steady s) (hooks s) (rules s) is_default is_clone is_infallible ticket
    given mid answer new) same ends)

module _ {K V : Type 0} (stands_for : K → Bool) where
  -- an item that there is is counted
  counted-item : (state : CacheState K V) (place : Place) (before : List (Item K V))
      (item : Item K V) (after : List (Item K V))
      → IsItemAt stands_for state place before item after → 0 < count_under stands_for state
  counted-item state InHot before item after at = omega (
    arith,
    ap (keys stands_for) at.split,
    keys-split stands_for before item after,
    ap one_if at.passes,
  )
  counted-item state InCold before item after at = omega (
    arith,
    ap (keys stands_for) at.split,
    keys-split stands_for before item after,
    ap one_if at.passes,
  )
  counted-item state InStill before item after at = omega (
    arith,
    ap (keys stands_for) at.split,
    keys-split stands_for before item after,
    ap one_if at.passes,
  )

  counted-told : (state : CacheState K V) → TellsItem stands_for state true
      → 0 < count_under stands_for state
  counted-told state (TellsItem.is_there place before item after at) =
      counted-item state place before item after at

  -- one that was looked up is still there
  counted-hit : (old : CacheState K V) (value : V) (state : CacheState K V)
      → LooksUp stands_for old (λ item. item.value) (Some value) state
      → 0 < count_under stands_for state
  counted-hit old _ _ (LooksUp.hit InHot before item after at) = omega (
    arith,
    keys-split stands_for before (looked_up old.mark_cut item) after,
    ap one_if at.passes,
  )
  counted-hit old _ _ (LooksUp.hit InCold before item after at) = omega (
    arith,
    keys-split stands_for before (looked_up old.mark_cut item) after,
    ap one_if at.passes,
  )
  counted-hit old _ _ (LooksUp.hit InStill before item after at) = omega (
    arith,
    keys-split stands_for before (looked_up old.mark_cut item) after,
    ap one_if at.passes,
  )

  pub counted-found : (old : CacheState K V) (value : V) (new : CacheState K V)
      → UpToOrder (LooksUp stands_for old (λ item. item.value) (Some value)) new
      → 0 < count_under stands_for new
  counted-found old value new up = omega (
    arith,
    counted-hit old value up.ordered up.holds,
    SameButOrder-keys stands_for up.ordered new up.same,
    sum_by-IsPermutation (λ (entry : LoadingEntry K). cond (stands_for entry.key) 1 0)
        up.ordered.loading new.loading up.same.loading,
  )

  module _ {S E : Type 0} (steady : Type 0) (hooks : Hooks K V S) (rules : Rules K V)
      (is_default : S → Type 0) (ticket : ℕ) (given : Result V E → Type 0)
      (old new : CacheState K V) where
    -- a key that is told to be resident is
    pub counted-end : (answer : Result Bool E)
        → EndsLoad steady hooks rules is_default stands_for ticket given old answer new
        → OnResident {E = E} (Ok answer) (0 < count_under stands_for new)
    counted-end (Ok true) ends = counted-told new ends.resident
    counted-end (Ok false) ends = tt
    counted-end (Err error) ends = tt
