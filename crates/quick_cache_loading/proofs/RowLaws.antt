-- What each row of the table keeps: guards, values, ends of lives, and waiters.
use Rattle.std.proofs.Common.{◌≡◌, ℕ, ◌+◌, ◌≤◌, Bool, true, false, ◌==◌, ◌||◌, ◌↔◌, ◌++◌, ◌∷◌, [], min, arith, refl, sym, ◌∙◌, ap, not}
use Rattle.std.proofs.Common.{◌&&◌, Option, IfSome, lit≤, if◌then◌else◌}
use Rattle.quick_cache_loading.proofs.BoolLemmas.{both, not-true, not-false}
use Rattle.quick_cache_loading.specs.Core.{Life, Loading, Filled, GivenUp, CoreState, new_core, held_by, held_in, held_count, handed_by}
use Rattle.quick_cache_loading.specs.Core.{handed_in, handed_count, value_of, is_given_up, is_loading, waits, waiters_of, concerns}
use Rattle.quick_cache_loading.specs.LoadingLaws.{is_not_now, only_tells, given_by, taken_by, most_given, most_taken, done_by, shown_by}
use Rattle.quick_cache_loading.specs.LoadingLaws.{MayShow, value_after, given_up_after, lets_go, joins_as, waits_after}
use Rattle.quick_cache_loading.specs.LoadingRow.{LoadingRow, ActingRow, NoRowApplies, AsksForValue, by_joining, by_taking, by_timing_out}
use Rattle.quick_cache_loading.specs.LoadingRow.{acts, no_row_applies, creates, joins, lacks_room, shows_the_value, lacks_a_clone, fills}
use Rattle.quick_cache_loading.specs.LoadingRow.{hands_on, gives_up, receives, waits_on, withdraws, cancels_in_vain, leaves, abandoning}
use Rattle.quick_cache_loading.specs.LoadingRow.{cancelling, taking, timing_out, by_time, by_cancel}
use Rattle.std.proofs.lemmas.Bool.Decides.{nat_tests}
use Rattle.quick_cache_loading.proofs.WhenRowsApply.{applies, can_join, acting-applies, NoRowApplies-from, applies-from_none}
use Rattle.quick_cache_loading.proofs.WaiterLists.{has-handed, has-left, has-joined, has-added}
use Rattle.quick_cache_model.specs.declared.refusal.Refusal.{Refusal}
use Rattle.quick_cache_loading.specs.declared.protocol.life.Holder.{Holder}
use Rattle.quick_cache_loading.specs.declared.protocol.events.Event.{Event}
use Rattle.quick_cache_loading.specs.declared.protocol.events.Answer.{Answer}

module _ {V : Type 0} where
  -- a core's guard is held or on its way while its life is loading, and there is none else
  pub one_guard : (core : CoreState V)
      → held_count core + handed_count core ≡ (if is_loading core.life then 1 else 0)
  one_guard core = by_life core.life where
    by_holder : (h : Holder) → held_by h + handed_by h ≡ 1
    by_holder Holder.Held = refl
    by_holder (Holder.HandedTo m) = refl

    by_life : (l : Life V) → held_in l + handed_in l ≡ (if is_loading l then 1 else 0)
    by_life (Loading h ws) = by_holder h
    by_life (Filled v) = refl
    by_life GivenUp = refl

  pub at_most_one : (core : CoreState V) → held_count core ≤ 1
  at_most_one core = by_life core.life where
    by_life : (l : Life V) → held_in l ≤ 1
    by_life (Loading Holder.Held ws) = lit≤ tt
    by_life (Loading (Holder.HandedTo m) ws) = lit≤ tt
    by_life (Filled v) = lit≤ tt
    by_life GivenUp = lit≤ tt

  -- where no case applies no guard comes or goes, and no value
  none-guards : (e : Event V) (old : CoreState V)
      → held_count old + taken_by e Answer.NotNow ≡ held_count old + 0
  none-guards Event.Create old = refl
  none-guards (Event.Join n) old = refl
  none-guards (Event.Fill v) old = refl
  none-guards Event.Abandon old = refl
  none-guards (Event.Take n) old = refl
  none-guards (Event.TimeOut n) old = refl
  none-guards (Event.Cancel n) old = refl
  none-guards Event.Leave old = refl

  -- an event that is shown the value takes no guard back
  shown-guards : {e : Event V} {old : CoreState V} (a : Answer V) → AsksForValue e old
      → held_count old + taken_by e a ≡ held_count old + 0
  shown-guards a (by_joining n old inside) = refl
  shown-guards a (by_taking n old) = refl
  shown-guards a (by_timing_out n old) = refl

  -- what is held afterwards and was taken back is what was held and is given
  pub row-guards : {shows : V → V → Type 0} {e : Event V} {old : CoreState V} {a : Answer V}
      {new : CoreState V} → LoadingRow shows e old a new
      → held_count new + taken_by e a ≡ held_count old + given_by a
  row-guards (no_row_applies e old none) = none-guards e old
  row-guards (acts (creates old is)) = rw is
  row-guards (acts (joins old h ws n is inside other absent)) = rw is
  row-guards (acts (lacks_room old h ws n is inside other absent)) = refl
  row-guards (acts (shows_the_value e old v w is asks same)) = shown-guards (Answer.Value w) asks
  row-guards (acts (lacks_a_clone e old v is asks)) =
      shown-guards (Answer.Refused Refusal.Memory) asks
  row-guards (acts (fills old ws v is)) = rw is
  row-guards (acts (hands_on _ old _ others m abandoning is)) = rw is
  row-guards (acts (hands_on _ old _ others m (cancelling n) is)) = rw is
  row-guards (acts (gives_up _ old _ abandoning is)) = rw is
  row-guards (acts (gives_up _ old _ (cancelling n) is)) = rw is
  row-guards (acts (receives _ old _ ws (taking n) is)) = rw is
  row-guards (acts (receives _ old _ ws (timing_out n) is)) = rw is
  row-guards (acts (waits_on old h ws n is other waiting)) = refl
  row-guards (acts (withdraws _ old h ws _ _ (by_time n) is other waiting)) = rw is
  row-guards (acts (withdraws _ old h ws _ _ (by_cancel n) is other waiting)) = rw is
  row-guards (acts (cancels_in_vain old v n is)) = refl
  row-guards (acts (leaves old inside)) = refl

  -- the answers to Join, Fill, Abandon, Cancel and Leave give no guard
  some-given : (e : Event V) → 0 ≤ most_given e
  some-given Event.Create = lit≤ tt
  some-given (Event.Join n) = lit≤ tt
  some-given (Event.Fill v) = lit≤ tt
  some-given Event.Abandon = lit≤ tt
  some-given (Event.Take n) = lit≤ tt
  some-given (Event.TimeOut n) = lit≤ tt
  some-given (Event.Cancel n) = lit≤ tt
  some-given Event.Leave = lit≤ tt

  pub row-most_given : {shows : V → V → Type 0} {e : Event V} {old : CoreState V} {a : Answer V}
      {new : CoreState V} → LoadingRow shows e old a new → given_by a ≤ most_given e
  row-most_given (no_row_applies e old none) = some-given e
  row-most_given (acts (creates old is)) = lit≤ tt
  row-most_given (acts (joins old h ws n is inside other absent)) = lit≤ tt
  row-most_given (acts (lacks_room old h ws n is inside other absent)) = lit≤ tt
  row-most_given (acts (shows_the_value e old v w is asks same)) = some-given e
  row-most_given (acts (lacks_a_clone e old v is asks)) = some-given e
  row-most_given (acts (fills old ws v is)) = lit≤ tt
  row-most_given (acts (hands_on e old _ others m by is)) = some-given e
  row-most_given (acts (gives_up e old _ by is)) = some-given e
  row-most_given (acts (receives _ old _ ws (taking n) is)) = lit≤ tt
  row-most_given (acts (receives _ old _ ws (timing_out n) is)) = lit≤ tt
  row-most_given (acts (waits_on old h ws n is other waiting)) = lit≤ tt
  row-most_given (acts (withdraws _ old h ws _ _ (by_time n) is other waiting)) = lit≤ tt
  row-most_given (acts (withdraws _ old h ws _ _ (by_cancel n) is other waiting)) = lit≤ tt
  row-most_given (acts (cancels_in_vain old v n is)) = lit≤ tt
  row-most_given (acts (leaves old inside)) = lit≤ tt

  -- no row that acts is answered `NotNow`
  acting-answers : {shows : V → V → Type 0} {e : Event V} {old : CoreState V} {a : Answer V}
      {new : CoreState V} → ActingRow shows e old a new
      → is_not_now a ≡ false
  acting-answers (withdraws _ old h ws _ _ (by_time n) is other waiting) = refl
  acting-answers (withdraws _ old h ws _ _ (by_cancel n) is other waiting) = refl
  acting-answers _ = refl

  -- `NotNow` is answered exactly where the test of the event fails
  pub row-applies : {shows : V → V → Type 0} {e : Event V} {old : CoreState V} {a : Answer V}
      {new : CoreState V} → LoadingRow shows e old a new
      → applies e old ≡ not (is_not_now a)
  row-applies {shows} (no_row_applies e old none) = applies-from_none shows e old none
  row-applies (acts row) = acting-applies row ∙ sym (ap not (acting-answers row))

  only-not_now : (x : Answer V) → not (is_not_now x) ≡ false → x ≡ Answer.NotNow
  only-not_now Answer.NotNow t = refl
  only-not_now _ t = absurd (cc)

  -- and exactly where no row applies
  pub row-not_now : {shows : V → V → Type 0} {e : Event V} {old : CoreState V} {a : Answer V}
      {new : CoreState V} → LoadingRow shows e old a new
      → (a ≡ Answer.NotNow) ↔ NoRowApplies shows e old
  row-not_now {shows} {e} {old} {a} row = (
    λ is. NoRowApplies-from shows e old (row-applies row ∙ ap (λ x. not (is_not_now x)) is),
    λ none. only-not_now a (sym (row-applies row) ∙ applies-from_none shows e old none),
  )

  done-by_test : (a : Answer V) → done_by a ≡ (if not (is_not_now a) then 1 else 0)
  done-by_test Answer.NotNow = refl
  done-by_test _ = refl

  held-by_test : (core : CoreState V) → held_count core ≡ (if held_count core == 1 then 1 else 0)
  held-by_test core = by_life core.life where
    by_life : (l : Life V) → held_in l ≡ (if held_in l == 1 then 1 else 0)
    by_life (Loading Holder.Held ws) = refl
    by_life (Loading (Holder.HandedTo m) ws) = refl
    by_life (Filled v) = refl
    by_life GivenUp = refl

  -- a fill and an abandon are done where the guard is held
  done-held : (old : CoreState V) (a : Answer V) → (held_count old == 1) ≡ not (is_not_now a)
      → done_by a ≡ min 1 (held_count old)
  done-held old a told =
      let same : done_by a ≡ held_count old =
      done-by_test a ∙ ap (λ b. if b then 1 else 0) (sym told) ∙ sym (held-by_test old) in
      omega (arith, same, at_most_one old)

  -- what an event takes back is the guard that is held, where the event is one that takes it
  pub row-taken : {shows : V → V → Type 0} {e : Event V} {old : CoreState V} {a : Answer V}
      {new : CoreState V} → LoadingRow shows e old a new
      → taken_by e a ≡ min (most_taken e) (held_count old)
  row-taken {shows} {e} {old} {a} row = by_event e (row-applies row) where
    by_event : (d : Event V) → applies d old ≡ not (is_not_now a)
        → taken_by d a ≡ min (most_taken d) (held_count old)
    by_event (Event.Fill v) told = done-held old a told
    by_event Event.Abandon told = done-held old a told
    by_event Event.Create told = omega arith
    by_event (Event.Join n) told = omega arith
    by_event (Event.Take n) told = omega arith
    by_event (Event.TimeOut n) told = omega arith
    by_event (Event.Cancel n) told = omega arith
    by_event Event.Leave told = omega arith

  -- an abandon is `NotNow` where no guard is held
  pub row-abandon : {shows : V → V → Type 0} {old : CoreState V} {a : Answer V} {new : CoreState V}
      → LoadingRow shows Event.Abandon old a new
      → is_not_now a ≡ (held_count old == 0)
  row-abandon {shows} {old} {a} row = by_life old.life (row-applies row) where
    by_life : (l : Life V) → (held_in l == 1) ≡ not (is_not_now a) → is_not_now a ≡ (held_in l == 0)
    by_life (Loading Holder.Held ws) told = not-true (is_not_now a) (sym told)
    by_life (Loading (Holder.HandedTo m) ws) told = not-false (is_not_now a) (sym told)
    by_life (Filled v) told = not-false (is_not_now a) (sym told)
    by_life GivenUp told = not-false (is_not_now a) (sym told)

  -- a cancel is `NotNow` where the life does not concern the waiter
  pub row-cancel : {shows : V → V → Type 0} {n : ℕ} {old : CoreState V} {a : Answer V}
      {new : CoreState V} → LoadingRow shows (Event.Cancel n) old a new
      → is_not_now a ≡ not (concerns n old.life)
  row-cancel {shows} {n} {old} {a} row =
      turned (concerns n old.life) (is_not_now a) (row-applies row) where
        turned : (x y : Bool) → x ≡ not y → y ≡ not x
        turned x true e = sym (ap not e)
        turned x false e = sym (ap not e)

  -- an answer that only tells changes nothing
  pub row-only_tells : {shows : V → V → Type 0} {e : Event V} {old : CoreState V} {a : Answer V}
      {new : CoreState V} → LoadingRow shows e old a new → only_tells a ≡ true → new ≡ old
  row-only_tells (no_row_applies e old none) tells = refl
  row-only_tells (acts (lacks_room old h ws n is inside other absent)) tells = refl
  row-only_tells (acts (shows_the_value e old v w is asks same)) tells = refl
  row-only_tells (acts (lacks_a_clone e old v is asks)) tells = refl
  row-only_tells (acts (waits_on old h ws n is other waiting)) tells = refl
  row-only_tells (acts (withdraws _ old h ws _ _ (by_time n) is other waiting)) tells = absurd (cc)
  row-only_tells (acts (withdraws _ old h ws _ _ (by_cancel n) is other waiting)) tells =
      absurd (cc)
  row-only_tells _ tells = absurd (cc)

  -- only memory is refused
  pub row-refused : {shows : V → V → Type 0} {e : Event V} {old : CoreState V} {a : Answer V}
      {new : CoreState V} → LoadingRow shows e old a new
      → (why : Refusal) → a ≡ Answer.Refused why → why ≡ Refusal.Memory
  row-refused (acts (lacks_room old h ws n is inside other absent)) why eq = cc
  row-refused (acts (lacks_a_clone e old v is asks)) why eq = cc
  row-refused (acts (withdraws _ old h ws _ _ (by_time n) is other waiting)) why eq = cc
  row-refused (acts (withdraws _ old h ws _ _ (by_cancel n) is other waiting)) why eq = cc
  row-refused _ why eq = cc

  -- a value that is shown stands for the one that the life is filled with
  pub row-shown : {shows : V → V → Type 0} {e : Event V} {old : CoreState V} {a : Answer V}
      {new : CoreState V} → LoadingRow shows e old a new
      → IfSome (shown_by a) (MayShow shows (value_of old.life))
  row-shown (acts (shows_the_value e old v w is asks same)) = rw is same
  row-shown (acts (withdraws _ old h ws _ _ (by_time n) is other waiting)) = tt
  row-shown (acts (withdraws _ old h ws _ _ (by_cancel n) is other waiting)) = tt
  row-shown _ = tt

  none-value : (e : Event V) (known : Option V) → known ≡ value_after known e Answer.NotNow
  none-value Event.Create known = refl
  none-value (Event.Join n) known = refl
  none-value (Event.Fill v) known = refl
  none-value Event.Abandon known = refl
  none-value (Event.Take n) known = refl
  none-value (Event.TimeOut n) known = refl
  none-value (Event.Cancel n) known = refl
  none-value Event.Leave known = refl

  shown-value : {e : Event V} {old : CoreState V} (known : Option V) (v : V) → AsksForValue e old
      → known ≡ value_after known e (Answer.Value v)
  shown-value known v (by_joining n old inside) = refl
  shown-value known v (by_taking n old) = refl
  shown-value known v (by_timing_out n old) = refl

  refused-value : {e : Event V} {old : CoreState V} (known : Option V) → AsksForValue e old
      → known ≡ value_after known e (Answer.Refused Refusal.Memory)
  refused-value known (by_joining n old inside) = refl
  refused-value known (by_taking n old) = refl
  refused-value known (by_timing_out n old) = refl

  -- a fill gives the value, a new life has none, and nothing else changes it
  pub row-value : {shows : V → V → Type 0} {e : Event V} {old : CoreState V} {a : Answer V}
      {new : CoreState V} → LoadingRow shows e old a new
      → value_of new.life ≡ value_after (value_of old.life) e a
  row-value (no_row_applies e old none) = none-value e _
  row-value (acts (creates old is)) = refl
  row-value (acts (joins old h ws n is inside other absent)) = rw is
  row-value (acts (lacks_room old h ws n is inside other absent)) = refl
  row-value (acts (shows_the_value e old v w is asks same)) = shown-value _ w asks
  row-value (acts (lacks_a_clone e old v is asks)) = refused-value _ asks
  row-value (acts (fills old ws v is)) = refl
  row-value (acts (hands_on _ old _ others m abandoning is)) = rw is
  row-value (acts (hands_on _ old _ others m (cancelling n) is)) = rw is
  row-value (acts (gives_up _ old _ abandoning is)) = rw is
  row-value (acts (gives_up _ old _ (cancelling n) is)) = rw is
  row-value (acts (receives _ old _ ws (taking n) is)) = rw is
  row-value (acts (receives _ old _ ws (timing_out n) is)) = rw is
  row-value (acts (waits_on old h ws n is other waiting)) = refl
  row-value (acts (withdraws _ old h ws _ _ (by_time n) is other waiting)) = rw is
  row-value (acts (withdraws _ old h ws _ _ (by_cancel n) is other waiting)) = rw is
  row-value (acts (cancels_in_vain old v n is)) = refl
  row-value (acts (leaves old inside)) = refl

  -- a life is given up by the answer `GivenUp` alone, until a new one is created
  pub row-given_up : {shows : V → V → Type 0} {e : Event V} {old : CoreState V} {a : Answer V}
      {new : CoreState V} → LoadingRow shows e old a new
      → is_given_up new.life ≡ given_up_after (is_given_up old.life) a
  row-given_up (no_row_applies e old none) = refl
  row-given_up (acts (creates old is)) = refl
  row-given_up (acts (joins old h ws n is inside other absent)) = rw is
  row-given_up (acts (lacks_room old h ws n is inside other absent)) = refl
  row-given_up (acts (shows_the_value e old v w is asks same)) = refl
  row-given_up (acts (lacks_a_clone e old v is asks)) = refl
  row-given_up (acts (fills old ws v is)) = rw is
  row-given_up (acts (hands_on e old _ others m by is)) = rw is
  row-given_up (acts (gives_up e old _ by is)) = refl
  row-given_up (acts (receives e old _ ws by is)) = rw is
  row-given_up (acts (waits_on old h ws n is other waiting)) = refl
  row-given_up (acts (withdraws _ old h ws _ _ (by_time n) is other waiting)) = rw is
  row-given_up (acts (withdraws _ old h ws _ _ (by_cancel n) is other waiting)) = rw is
  row-given_up (acts (cancels_in_vain old v n is)) = refl
  row-given_up (acts (leaves old inside)) = refl

  -- a life is given up only where nobody waits, and the core is then as a new one
  pub row-alone : {shows : V → V → Type 0} {e : Event V} {old : CoreState V} {a : Answer V}
      {new : CoreState V} → LoadingRow shows e old a new
      → a ≡ Answer.GivenUp → waiters_of old.life ≡ []
  row-alone (acts (gives_up e old h by is)) eq = rw is
  row-alone (acts (withdraws _ old h ws _ _ (by_time n) is other waiting)) eq = absurd (cc)
  row-alone (acts (withdraws _ old h ws _ _ (by_cancel n) is other waiting)) eq = absurd (cc)
  row-alone _ eq = absurd (cc)

  pub row-new_core : {shows : V → V → Type 0} {e : Event V} {old : CoreState V} {a : Answer V}
      {new : CoreState V} → LoadingRow shows e old a new
      → a ≡ Answer.GivenUp → new ≡ new_core
  row-new_core (acts (gives_up e old h by is)) eq = refl
  row-new_core (acts (withdraws _ old h ws _ _ (by_time n) is other waiting)) eq = absurd (cc)
  row-new_core (acts (withdraws _ old h ws _ _ (by_cancel n) is other waiting)) eq = absurd (cc)
  row-new_core _ eq = absurd (cc)

  -- a waiter joins a loading life alone
  pub row-joined : {shows : V → V → Type 0} {e : Event V} {old : CoreState V} {a : Answer V}
      {new : CoreState V} → LoadingRow shows e old a new
      → a ≡ Answer.Joined → is_given_up old.life ≡ false
  row-joined (acts (joins old h ws n is inside other absent)) eq = rw is
  row-joined (acts (withdraws _ old h ws _ _ (by_time n) is other waiting)) eq = absurd (cc)
  row-joined (acts (withdraws _ old h ws _ _ (by_cancel n) is other waiting)) eq = absurd (cc)
  row-joined _ eq = absurd (cc)

  -- who waits goes on waiting until it is let go
  pub row-stays : {shows : V → V → Type 0} {e : Event V} {old : CoreState V} {a : Answer V}
      {new : CoreState V} → LoadingRow shows e old a new
      → (n : ℕ) → waits n old ≡ true → lets_go n e a ≡ false → waits n new ≡ true
  row-stays (no_row_applies e old none) k waiting kept = waiting
  row-stays (acts (creates old is)) k waiting kept =
      let none : false ≡ true = rw is at waiting in absurd (cc)
  row-stays (acts (joins old h ws n is inside other absent)) k waiting kept =
      has-joined k n ws (rw is at waiting)
  row-stays (acts (lacks_room old h ws n is inside other absent)) k waiting kept = waiting
  row-stays (acts (shows_the_value e old v w is asks same)) k waiting kept = waiting
  row-stays (acts (lacks_a_clone e old v is asks)) k waiting kept = waiting
  row-stays (acts (fills old ws v is)) k waiting kept = absurd (cc)
  row-stays (acts (hands_on _ old _ others m abandoning is)) k waiting kept =
      has-handed k m others (rw is at waiting) kept
  row-stays (acts (hands_on _ old _ others m (cancelling n) is)) k waiting kept =
      has-handed k m others (rw is at waiting) kept
  row-stays (acts (gives_up e old _ by is)) k waiting kept =
      let none : false ≡ true = rw is at waiting in absurd (cc)
  row-stays (acts (receives e old _ ws by is)) k waiting kept = rw is at waiting
  row-stays (acts (waits_on old h ws n is other waits)) k waiting kept = waiting
  row-stays (acts (withdraws _ old h ws _ _ (by_time n) is other waits)) k waiting kept =
      has-left k n ws (rw is at waiting) kept
  row-stays (acts (withdraws _ old h ws _ _ (by_cancel n) is other waits)) k waiting kept =
      has-left k n ws (rw is at waiting) kept
  row-stays (acts (cancels_in_vain old v n is)) k waiting kept = waiting
  row-stays (acts (leaves old inside)) k waiting kept = waiting

  -- the guard goes to the waiter that was added last
  pub row-last : {shows : V → V → Type 0} {e : Event V} {old : CoreState V} {a : Answer V}
      {new : CoreState V} → LoadingRow shows e old a new
      → (m : ℕ) → a ≡ Answer.HandedTo m → waiters_of old.life ≡ waiters_of new.life ++ m ∷ []
  row-last (acts (hands_on e old h others k by is)) m eq =
      let same : k ≡ m = cc in rw (is, same) refl
  row-last (acts (withdraws _ old h ws _ _ (by_time n) is other waiting)) m eq = absurd (cc)
  row-last (acts (withdraws _ old h ws _ _ (by_cancel n) is other waiting)) m eq = absurd (cc)
  row-last _ m eq = absurd (cc)

  -- who joins waits afterwards
  pub row-joins : {shows : V → V → Type 0} {e : Event V} {old : CoreState V} {a : Answer V}
      {new : CoreState V} → LoadingRow shows e old a new
      → (n : ℕ) → e ≡ Event.Join n → a ≡ Answer.Joined → waits n new ≡ true
  row-joins (acts (joins old h ws m is inside other absent)) n at eq =
      let same : m ≡ n = cc in rw same (has-added n ws)
  row-joins (acts (withdraws _ old h ws _ _ (by_time m) is other waiting)) n at eq = absurd (cc)
  row-joins (acts (withdraws _ old h ws _ _ (by_cancel m) is other waiting)) n at eq = absurd (cc)
  row-joins _ n at eq = absurd (cc)

  -- an event by which the waiter joins
  joins_as-parts : (n : ℕ) (e : Event V) (a : Answer V) → joins_as n e a ≡ true
      → (e ≡ Event.Join n) × (a ≡ Answer.Joined)
  joins_as-parts n (Event.Join m) Answer.Joined t =
      let same : m ≡ n = grind (arith, nat_tests) in (rw same refl, refl)
  joins_as-parts n (Event.Join m) _ t = absurd (cc)
  joins_as-parts n _ a t = absurd (cc)

  -- who waits after an event, by what it did before, the event and its answer, does wait
  pub row-waits : {shows : V → V → Type 0} {e : Event V} {old : CoreState V} {a : Answer V}
      {new : CoreState V} → LoadingRow shows e old a new
      → (n : ℕ) (before : Bool) → (before ≡ true → waits n old ≡ true)
      → waits_after n before e a ≡ true → waits n new ≡ true
  row-waits {shows} {e} {old} {a} {new} row n before did still =
      by_before before did (both (before || joins_as n e a) (not (lets_go n e a)) still) where
        by_before : (b : Bool) → (b ≡ true → waits n old ≡ true)
            → ((b || joins_as n e a) ≡ true) × (not (lets_go n e a) ≡ true) → waits n new ≡ true
        by_before true did parts = row-stays row n (did refl) (not-true (lets_go n e a) parts.1)
        by_before false did parts =
            let joined = joins_as-parts n e a parts.0 in row-joins row n joined.0 joined.1

  -- who would join a life that was given up is answered `NotNow`
  pub row-none_joins : {shows : V → V → Type 0} {e : Event V} {old : CoreState V} {a : Answer V}
      {new : CoreState V} → LoadingRow shows e old a new
      → (n : ℕ) → e ≡ Event.Join n → is_given_up old.life ≡ true → a ≡ Answer.NotNow
  row-none_joins {shows} {e} {old} {a} row n is ended =
      let cannot : applies (Event.Join n) old ≡ false = closed old.life ended old.in_shard in
      let told : not (is_not_now a) ≡ false =
      sym (row-applies row) ∙ ap (λ d. applies d old) is ∙ cannot in
      only-not_now a told where
        closed : (l : Life V) → is_given_up l ≡ true → (b : Bool) → (b && can_join n l) ≡ false
        closed GivenUp up true = refl
        closed GivenUp up false = refl
        closed (Loading h ws) up b = absurd (cc)
        closed (Filled v) up b = absurd (cc)
