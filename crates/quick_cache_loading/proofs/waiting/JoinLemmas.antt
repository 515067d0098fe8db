-- One who comes to a life that has begun, or to one that goes on.
use Rattle.std.proofs.Common.{◌≡◌, ◌==◌, ◌⊎◌, ◌&&◌, ◌||◌, not, inl, inr, ℕ, Bool, true, false, true≢false, refl, Result, Ok, Err, None, Some}
use Rattle.std.proofs.Common.{MatchBool, ap}
use Rattle.std.specs.Prelude.{IfErr, Option, is_some, ⊤}
use Rattle.quick_cache_model.specs.declared.refusal.Refusal.{Refusal}
use Rattle.quick_cache_loading.specs.Core.{Life, Loading, Filled, GivenUp, CoreState, core_state, is_filled, is_given_up, is_handed_to}
use Rattle.quick_cache_loading.specs.LoadingStep.{Adds, Creates, Joins, LoadingStep, NotNowOf, Receives, TimesOut, Withdraws}
use Rattle.quick_cache_loading.specs.LoadingLaws.{shown_by}
use Rattle.quick_cache_loading.specs.declared.protocol.events.Event.{Event}
use Rattle.quick_cache_loading.specs.declared.protocol.events.Answer.{Answer}
use Rattle.quick_cache_loading.specs.declared.waiting.waited.Waited.{Waited}
use Rattle.quick_cache_loading.specs.declared.waiting.waited.Wants.{Wants}
use Rattle.quick_cache_loading.specs.Turns.{none_left}
use Rattle.quick_cache_loading.specs.Joining.{BeginsOrJoins, TellsJoiner, TellsOnce}
use Rattle.quick_cache_loading.specs.Waiters.{IsGuard, IsTold, IsWanted, by_number, has_ended}
use Rattle.quick_cache_loading.specs.Waiting.{has, without_waiter}
use Rattle.quick_cache_loading.specs.declared.waiting.tokens.Place.{Place}

module _ {V : Type 0} (old new : CoreState V) where
  -- a life begins exactly where the last one was given up
  pub begun : (a : Answer V) (life : Life V) → Creates life old a new → a ≡ Answer.Created
      → is_given_up life ≡ true
  begun a (Loading h ws) step is = absurd (cc)
  begun a (Filled v) step is = absurd (cc)
  begun a GivenUp step is = refl

  pub not-begun : (a : Answer V) (life : Life V) → Creates life old a new
      → (a ≡ Answer.Created → ⊥) → (a ≡ Answer.NotNow) × (is_given_up life ≡ false)
  not-begun a (Loading h ws) step other = (step.0, refl)
  not-begun a (Filled v) step other = (step.0, refl)
  not-begun a GivenUp step other = absurd (other step.0)

  -- where none begins, nothing changes
  pub went_on : (life : Life V) → Creates life old Answer.NotNow new → new ≡ old
  went_on (Loading h ws) step = step.1
  went_on (Filled v) step = step.1
  went_on GivenUp step = absurd (cc)

module _ {V : Type 0} (shows : V → V → Type 0) (stands : Bool) (n : ℕ) (is_over : Bool)
    (old : CoreState V) where
  -- one who comes to a life that goes on joins, or there is no room for its waker
  pub came : (a : Answer V) (told : Result ℕ (Waited V)) (mid new : CoreState V)
      → is_over ≡ false → LoadingStep shows old Event.Create Answer.NotNow old → mid ≡ old
      → LoadingStep shows mid (Event.Join n) a new
      ⊎ ((a ≡ Answer.Refused Refusal.Memory) × (new ≡ mid))
      → TellsJoiner stands n a told → BeginsOrJoins shows stands n is_over old told new
  came a told mid new over create same (inl step) tells =
      BeginsOrJoins.joins a told new over create (rw same at step) tells
  came a told mid new over create same (inr refused) tells =
      let is : told ≡ Err (Waited.Refused Refusal.Memory) = rw refused.0 at tells in
      rw (is, refused.1, same) (BeginsOrJoins.lacks_room over create)

-- ---- one who comes to a life that is not filled is shown no value

-- one is told of no value
abbrev pub IsUnshown : {V : Type 0} → Waited V → Type 0
IsUnshown (Waited.Value v) = ⊥
IsUnshown _ = ⊤

abbrev pub ShowsNone : {V : Type 0} → Result ℕ (Waited V) → Type 0
ShowsNone told = IfErr told IsUnshown

guard-unshown : {V : Type 0} (told : Waited V) → IsGuard (Some told) → IsUnshown told
guard-unshown (Waited.Guard share) is = tt
guard-unshown (Waited.Value v) is = absurd is
guard-unshown Waited.Timeout is = tt
guard-unshown Waited.Again is = tt
guard-unshown (Waited.Refused why) is = tt

module _ {V : Type 0} (shows : V → V → Type 0) (stands : Bool) (n : ℕ) where
  newcomer-unshown : (a : Answer V) (told : Result ℕ (Waited V)) → shown_by a ≡ None
      → TellsJoiner stands n a told → ShowsNone told
  newcomer-unshown Answer.Joined told none tells = rw tells tt
  newcomer-unshown (Answer.Value v) told none tells = absurd (cc)
  newcomer-unshown (Answer.Refused why) told none tells = rw tells tt
  newcomer-unshown Answer.Created told none tells = rw tells tt
  newcomer-unshown Answer.Guard told none tells = rw tells tt
  newcomer-unshown Answer.Waiting told none tells = rw tells tt
  newcomer-unshown Answer.TimedOut told none tells = rw tells tt
  newcomer-unshown (Answer.HandedTo m) told none tells = rw tells tt
  newcomer-unshown Answer.GivenUp told none tells = rw tells tt
  newcomer-unshown Answer.Done told none tells = rw tells tt
  newcomer-unshown Answer.NotNow told none tells = rw tells tt

  once-unshown : (a : Answer V) (told : Waited V) → shown_by a ≡ None
      → TellsOnce stands a told → IsUnshown told
  once-unshown Answer.Joined told none tells = rw tells tt
  once-unshown (Answer.Value v) told none tells = absurd (cc)
  once-unshown (Answer.Refused why) told none tells = rw tells tt
  once-unshown Answer.Created told none tells = guard-unshown told tells
  once-unshown Answer.Guard told none tells = guard-unshown told tells
  once-unshown Answer.Waiting told none tells = rw tells tt
  once-unshown Answer.TimedOut told none tells = rw tells tt
  once-unshown (Answer.HandedTo m) told none tells = rw tells tt
  once-unshown Answer.GivenUp told none tells = rw tells tt
  once-unshown Answer.Done told none tells = rw tells tt
  once-unshown Answer.NotNow told none tells = rw tells tt

  joined-unshown : (life : Life V) (old : CoreState V) (a : Answer V) (new : CoreState V)
      → is_filled life ≡ false → Joins shows life n old a new → shown_by a ≡ None
  joined-unshown (Loading holder waiters) old a new unfilled step =
      go (old.in_shard && not (is_handed_to holder n || has n waiters)) step
    where
      go : (b : Bool) → MatchBool b (Adds holder waiters n old a new) (NotNowOf old a new)
          → shown_by a ≡ None
      go true (inl joined) = ap shown_by joined.0
      go true (inr refused) = ap shown_by refused.0
      go false later = ap shown_by later.0
  joined-unshown (Filled v) old a new unfilled step = absurd (true≢false unfilled)
  joined-unshown GivenUp old a new unfilled step = ap shown_by step.0

  looked-unshown : (life : Life V) (old : CoreState V) (a : Answer V) (new : CoreState V)
      → is_filled life ≡ false → TimesOut shows life n old a new → shown_by a ≡ None
  looked-unshown (Loading holder waiters) old a new unfilled step =
      handed (is_handed_to holder n) step
    where
      waited : (b : Bool) → MatchBool b ((a ≡ Answer.TimedOut)
          × (new ≡ core_state (Loading holder (without_waiter n waiters)) old.in_shard))
          (NotNowOf old a new) → shown_by a ≡ None
      waited true out = ap shown_by out.0
      waited false later = ap shown_by later.0

      handed : (b : Bool) → MatchBool b (Receives waiters old a new)
          (Withdraws Answer.TimedOut holder waiters n old a new) → shown_by a ≡ None
      handed true comes = ap shown_by comes.0
      handed false leaves = waited (has n waiters) leaves
  looked-unshown (Filled v) old a new unfilled step = absurd (true≢false unfilled)
  looked-unshown GivenUp old a new unfilled step = ap shown_by step.0

  BeginsOrJoins-unshown : (is_over : Bool) (old : CoreState V) (told : Result ℕ (Waited V))
      (new : CoreState V) → is_filled old.life ≡ false → BeginsOrJoins shows stands n is_over old told new
      → ShowsNone told
  BeginsOrJoins-unshown _ old _ _ unfilled (BeginsOrJoins.begins share new step) = tt
  BeginsOrJoins-unshown _ old _ _ unfilled (BeginsOrJoins.joins a told new over create join tells) =
      newcomer-unshown a told (joined-unshown old.life old a new unfilled join) tells
  BeginsOrJoins-unshown _ old _ _ unfilled (BeginsOrJoins.polls_at_once told new over create looks) =
      once-unshown looks.answer told
      (looked-unshown old.life old looks.answer new unfilled looks.step) looks.tells
  BeginsOrJoins-unshown _ old _ _ unfilled (BeginsOrJoins.lacks_room over create) = tt
  BeginsOrJoins-unshown _ old _ _ unfilled (BeginsOrJoins.all_spent spent over create) = tt

-- so what one is told is no value
told-unshown : {V : Type 0} (P : V → Type 0) (ticket : ℕ) (told : Result Place (Waited V))
    → ShowsNone (by_number told) → IfErr told (IsTold ticket P)
    → IfErr told (IsTold ticket (λ v. ⊥))
told-unshown P ticket (Ok place) none told = tt
told-unshown P ticket (Err (Waited.Value v)) none told = absurd none
told-unshown P ticket (Err (Waited.Guard share)) none told = told
told-unshown P ticket (Err (Waited.Refused why)) none told = told
told-unshown P ticket (Err Waited.Timeout) none told = tt
told-unshown P ticket (Err Waited.Again) none told = tt

-- nor is one told of a value that comes and wants none
pub came-wanted : {V : Type 0} (shows : V → V → Type 0) (stands : Bool) (P : V → Type 0)
    (ticket n : ℕ) (is_over : Bool) (old : CoreState V) (wants : Wants)
    (told : Result Place (Waited V)) (new : CoreState V) → has_ended wants old.life ≡ false
    → BeginsOrJoins shows stands n is_over old (by_number told) new
    → IfErr told (IsTold ticket P) → IfErr told (IsTold ticket (IsWanted wants P))
came-wanted shows stands P ticket n is_over old Wants.Value told new goes_on enters is = is
came-wanted shows stands P ticket n is_over old Wants.End told new goes_on enters is =
    told-unshown P ticket told
    (BeginsOrJoins-unshown shows stands n is_over old (by_number told) new goes_on enters) is

-- turns that are not counted are never over
pub uncounted : (limit : Option ℕ) (ended : ℕ) → is_some limit ≡ false → none_left limit ended ≡ false
uncounted (Some limit) ended none = absurd (true≢false none)
uncounted None ended none = refl
