-- What a contract sees of a future that loads.
use Rattle.std.specs.Prelude.{◌≡◌, ◌⊎◌, ⊤, Bool, true, false, ℕ, Option, None, IsSome, Result, Ok, Err}
use Rattle.futures.specs.Poll.{IfReady, OnPending}
use Rattle.futures.specs.declared.task.Poll.{Poll}
use Rattle.futures.specs.declared.task.context.Context.{Context}
use Rattle.quick_cache_model.specs.declared.refusal.Refusal.{Refusal}
use Rattle.quick_cache_loading.specs.declared.waiting.waited.Waited.{Waited}
use Rattle.quick_cache_loading.specs.Fitting.{FitsQuery}
use Rattle.quick_cache_loading.specs.declared.waiting.waited.Wants.{Wants}
use Rattle.quick_cache_guard.specs.Answers.{IsGivenSo, IsRefusedAsLoad, IsRefusedSo, WasTold}
use Rattle.quick_cache_guard.specs.Futures.{AnswersOnce, IsSource, Joining, Registers}
use Rattle.quick_cache_guard.specs.declared.tasks.Loading.{Loading}

-- its query, the source that it waits for before it has the guard, the loader's future, and whether
-- it has the guard, and whether it has answered
pub record LoadState (Q F : Type 0) : Type 0 where
  pub query : Q
  pub source : Option ℕ
  pub loader : F
  pub has_guard : Bool
  pub is_finished : Bool

module _ {J G : Type 0} where
  -- of what it asks by this is true
  abbrev pub IfAsks : Loading J G → (J → Type 0) → Type 0
  IfAsks (Loading.Asks joining) P = P joining
  IfAsks (Loading.Loads guard) P = ⊤
  IfAsks Loading.Finished P = ⊤

  -- of its guard this is true
  abbrev pub IfLoads : Loading J G → (G → Type 0) → Type 0
  IfLoads (Loading.Asks joining) P = ⊤
  IfLoads (Loading.Loads guard) P = P guard
  IfLoads Loading.Finished P = ⊤

  -- it has the guard
  abbrev pub has_guard : Loading J G → Bool
  has_guard (Loading.Asks joining) = false
  has_guard (Loading.Loads guard) = true
  has_guard Loading.Finished = false

  -- it has answered
  abbrev pub has_answered : Loading J G → Bool
  has_answered (Loading.Asks joining) = false
  has_answered (Loading.Loads guard) = false
  has_answered Loading.Finished = true

-- the source by which it is woken before it has the guard
abbrev pub asked_source : {Q G : Type 0} → Loading (Joining Q) G → Option ℕ
asked_source (Loading.Asks joining) = joining.source
asked_source (Loading.Loads guard) = None
asked_source Loading.Finished = None

-- what it waits for: the placeholder's source, or what the loader's future waits for
abbrev pub NeedsOf : {F : Type 0} → (F → ℕ → Type 0) → (has_guard : Bool) → Option ℕ → F → ℕ
    → Type 0
NeedsOf needs true source loader s = needs loader s
NeedsOf needs false source loader s = IsSource source s

-- it has its place among those who wait, or the guard
abbrev pub HasPlace : {Q F : Type 0} → LoadState Q F → Type 0
HasPlace state = (state.has_guard ≡ true) ⊎ IsSome state.source

module _ {F K V E : Type 0} (can_poll : F → Type 0) (gives : F → Result V E → Type 0)
    (fits : K → V → Type 0) (becomes : K → Type 0) where
  -- the loader's future may be polled, and what it gives fits each key that the query becomes
  abbrev pub MayLoad : F → Type 0
  MayLoad loader = can_poll loader × ((value : V) → gives loader (Ok value) → (key : K)
      → becomes key → fits key value)

-- of a value that is given the one is true, and of an error of the loader's the other
abbrev pub IfLoaded : {V E : Type 0} → (V → Type 0) → (E → Type 0)
    → Result (Result V E) Refusal → Type 0
IfLoaded P R (Ok (Ok value)) = P value
IfLoaded P R (Ok (Err error)) = R error
IfLoaded P R (Err refusal) = ⊤

-- A value was found, or came to one who waits, or the loader gave it; and a refusal has its cause.
abbrev pub LoadsSo : {V S E : Type 0} → (WasTold : Waited V → Type 0) → (shows : V → S → Type 0)
    → (refuses : Refusal → S → Type 0) → (IsLoaded : V → Type 0)
    → Result (Result V E) Refusal → Type 0
LoadsSo WasTold shows refuses IsLoaded (Ok (Ok value)) =
    IsGivenSo WasTold shows value ⊎ IsLoaded value
LoadsSo WasTold shows refuses IsLoaded (Ok (Err error)) = ⊤
LoadsSo WasTold shows refuses IsLoaded (Err refusal) = IsRefusedSo WasTold refuses refusal

-- What a poll does that comes to an answer, or waits: what it gives, with its cause; that it answers
-- once; where it is woken; and that the loader's future gives afterwards only what it gave before.
pub record PollsLoad {Q F K V E S : Type 0} (fits : K → V → Type 0) (is_clone : V → V → Type 0)
    (stands_for : K → Bool) (shows : V → S → Type 0) (refuses : Refusal → S → Type 0)
    (loads : F → Result V E → Type 0) (needs : F → ℕ → Type 0) (old : LoadState Q F)
    (polled : Poll (Result (Result V E) Refusal)) (new : LoadState Q F) (before after : Context)
    : Type 0 where
  pub gives : IfReady polled (IfLoaded (λ value. FitsQuery fits stands_for value)
      (λ error. loads old.loader (Err error)))
  pub cause : IfReady polled (LoadsSo (WasTold is_clone stands_for Wants.Value false) shows refuses
      (λ value. loads old.loader (Ok value)))
  pub once : AnswersOnce IsRefusedAsLoad (Err Refusal.Finished) false polled new.is_finished
  pub registers : Registers (HasPlace new)
      (NeedsOf needs new.has_guard new.source new.loader) polled before after
  pub query : new.query ≡ old.query
  pub loader : OnPending polled ((x : Result V E) → loads new.loader x → loads old.loader x)
