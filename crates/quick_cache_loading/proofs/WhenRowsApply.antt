-- When some row of the table is about an event, as a test: what the laws of the rows go by.
use Rattle.std.proofs.Common.{◌≡◌, ◌⊎◌, ℕ, ◌==◌, Bool, true, false, inl, inr, List, [], ◌∷◌, ◌++◌, refl, sym, ◌∙◌, ap, not, ◌&&◌, ◌||◌}
use Rattle.std.proofs.Common.{true≢false, arith}
use Rattle.std.proofs.lemmas.Bool.{cases_Bool}
use Rattle.std.proofs.lemmas.Bool.Decides.{nat_tests}
use Rattle.quick_cache_loading.proofs.BoolLemmas.{both, not-true, or-false, or-left, both-false, same-number}
use Rattle.quick_cache_loading.proofs.WaiterLists.{last-waiter}
use Rattle.quick_cache_loading.specs.Waiting.{has}
use Rattle.quick_cache_loading.specs.Core.{Life, Loading, Filled, GivenUp, CoreState, is_handed_to, is_given_up, held_in, held_count}
use Rattle.quick_cache_loading.specs.Core.{concerns}
use Rattle.quick_cache_loading.specs.LoadingRow.{ActingRow, NoRowApplies, AsksForValue, by_joining, by_taking, by_timing_out, creates}
use Rattle.quick_cache_loading.specs.LoadingRow.{joins, lacks_room, shows_the_value, lacks_a_clone, fills, hands_on, gives_up, receives}
use Rattle.quick_cache_loading.specs.LoadingRow.{waits_on, withdraws, cancels_in_vain, leaves, Releases, abandoning, cancelling, taking}
use Rattle.quick_cache_loading.specs.LoadingRow.{timing_out, by_time, by_cancel}
use Rattle.quick_cache_loading.specs.declared.protocol.life.Holder.{Holder}
use Rattle.quick_cache_loading.specs.declared.protocol.events.Event.{Event}
use Rattle.quick_cache_loading.specs.declared.protocol.events.Answer.{Answer}

-- the life is filled, or loads and has no such waiter yet
abbrev pub can_join : {V : Type 0} → ℕ → Life V → Bool
can_join n (Loading holder waiters) = not (is_handed_to holder n || has n waiters)
can_join n (Filled v) = true
can_join n GivenUp = false

-- some row is about the event
abbrev pub applies : {V : Type 0} → Event V → CoreState V → Bool
applies Event.Create core = is_given_up core.life
applies (Event.Join n) core = core.in_shard && can_join n core.life
applies (Event.Fill v) core = held_count core == 1
applies Event.Abandon core = held_count core == 1
applies (Event.Take n) core = concerns n core.life
applies (Event.TimeOut n) core = concerns n core.life
applies (Event.Cancel n) core = concerns n core.life
applies Event.Leave core = core.in_shard

module _ {V : Type 0} where
  asks-applies : {e : Event V} {old : CoreState V} (v : V) → old.life ≡ Filled v
      → AsksForValue e old → applies e old ≡ true
  asks-applies v is (by_joining n old inside) = rw (is, inside) refl
  asks-applies v is (by_taking n old) = rw is refl
  asks-applies v is (by_timing_out n old) = rw is refl

  -- a row that acts is about its event
  pub acting-applies : {shows : V → V → Type 0} {e : Event V} {old : CoreState V} {a : Answer V}
      {new : CoreState V} → ActingRow shows e old a new → applies e old ≡ true
  acting-applies (creates old is) = rw is refl
  acting-applies (joins old h ws n is inside other absent) = rw (is, inside, other, absent) refl
  acting-applies (lacks_room old h ws n is inside other absent) =
      rw (is, inside, other, absent) refl
  acting-applies (shows_the_value e old v w is asks same) = asks-applies v is asks
  acting-applies (lacks_a_clone e old v is asks) = asks-applies v is asks
  acting-applies (fills old ws v is) = rw is refl
  acting-applies (hands_on _ old _ others m abandoning is) = rw is refl
  acting-applies (hands_on _ old _ others m (cancelling n) is) = rw (is, same-number n) refl
  acting-applies (gives_up _ old _ abandoning is) = rw is refl
  acting-applies (gives_up _ old _ (cancelling n) is) = rw (is, same-number n) refl
  acting-applies (receives _ old _ ws (taking n) is) = rw (is, same-number n) refl
  acting-applies (receives _ old _ ws (timing_out n) is) = rw (is, same-number n) refl
  acting-applies (waits_on old h ws n is other waiting) = rw is (or-false _ _ other waiting)
  acting-applies (withdraws _ old h ws _ _ (by_time n) is other waiting) =
      rw is (or-false _ _ other waiting)
  acting-applies (withdraws _ old h ws _ _ (by_cancel n) is other waiting) =
      rw is (or-false _ _ other waiting)
  acting-applies (cancels_in_vain old v n is) = rw is refl
  acting-applies (leaves old inside) = inside

module _ {V : Type 0} (shows : V → V → Type 0) where
  -- some row is about an event in a core
  abbrev SomeRow : Event V → CoreState V → Type 0
  SomeRow e old = (a : Answer V) × (new : CoreState V) × ActingRow shows e old a new

  passed_on : (e : Event V) (old : CoreState V) (h : Holder) (ws : List ℕ) → Releases e h
      → old.life ≡ Loading h ws → SomeRow e old
  passed_on e old h ws by is = by_list ws is (last-waiter ws) where
    by_list : (xs : List ℕ) → old.life ≡ Loading h xs
        → (xs ≡ []) ⊎ ((others : List ℕ) × (m : ℕ) × (xs ≡ others ++ m ∷ [])) → SomeRow e old
    by_list xs at (inl none) = (_, _, gives_up e old h by (at ∙ ap (Loading h) none))
    by_list xs at (inr p) = (_, _, hands_on e old h p.0 p.1 by (at ∙ ap (Loading h) p.2))

  some_create : (l : Life V) (old : CoreState V) → old.life ≡ l → is_given_up l ≡ true
      → SomeRow Event.Create old
  some_create GivenUp old is up = (_, _, creates old is)
  some_create (Loading h ws) old is up = absurd (cc)
  some_create (Filled v) old is up = absurd (cc)

  some_join : (l : Life V) (n : ℕ) (old : CoreState V) → old.life ≡ l → old.in_shard ≡ true
      → can_join n l ≡ true → SomeRow (Event.Join n) old
  some_join (Loading h ws) n old is inside free =
      let apart = both-false (is_handed_to h n) (has n ws) (not-true _ free) in
      (_, _, joins old h ws n is inside apart.0 apart.1)
  some_join (Filled v) n old is inside free =
      (_, _, lacks_a_clone (Event.Join n) old v is (by_joining n old inside))
  some_join GivenUp n old is inside free = absurd (cc)

  some_fill : (l : Life V) (v : V) (old : CoreState V) → old.life ≡ l → (held_in l == 1) ≡ true
      → SomeRow (Event.Fill v) old
  some_fill (Loading Holder.Held ws) v old is held = (_, _, fills old ws v is)
  some_fill (Loading (Holder.HandedTo m) ws) v old is held = absurd (cc)
  some_fill (Filled w) v old is held = absurd (cc)
  some_fill GivenUp v old is held = absurd (cc)

  some_abandon : (l : Life V) (old : CoreState V) → old.life ≡ l → (held_in l == 1) ≡ true
      → SomeRow Event.Abandon old
  some_abandon (Loading Holder.Held ws) old is held =
      passed_on Event.Abandon old Holder.Held ws abandoning is
  some_abandon (Loading (Holder.HandedTo m) ws) old is held = absurd (cc)
  some_abandon (Filled w) old is held = absurd (cc)
  some_abandon GivenUp old is held = absurd (cc)

  -- the guard is on its way to the waiter, or it waits
  some_waiter : (e : Event V) (h : Holder) (ws : List ℕ) (n : ℕ) (old : CoreState V)
      → (is_handed_to h n || has n ws) ≡ true → old.life ≡ Loading h ws
      → ((old.life ≡ Loading (Holder.HandedTo n) ws) → SomeRow e old)
      → (is_handed_to h n ≡ false → has n ws ≡ true → SomeRow e old) → SomeRow e old
  some_waiter e Holder.Held ws n old there is handed waits = waits refl there
  some_waiter e (Holder.HandedTo m) ws n old there is handed waits = elim (cases_Bool (m == n)) [
    | inl same ↦ handed (let eq : m ≡ n = grind (arith, nat_tests) in rw (← eq) is)
    | inr other ↦ waits other (or-left (m == n) (has n ws) other there)
  ]

  some_take : (l : Life V) (n : ℕ) (old : CoreState V) → old.life ≡ l → concerns n l ≡ true
      → SomeRow (Event.Take n) old
  some_take (Loading h ws) n old is there =
      some_waiter (Event.Take n) h ws n old there is
      (λ at. (_, _, receives (Event.Take n) old n ws (taking n) at))
      (λ other waiting. (_, _, waits_on old h ws n is other waiting))
  some_take (Filled v) n old is there =
      (_, _, lacks_a_clone (Event.Take n) old v is (by_taking n old))
  some_take GivenUp n old is there = absurd (cc)

  some_time_out : (l : Life V) (n : ℕ) (old : CoreState V) → old.life ≡ l → concerns n l ≡ true
      → SomeRow (Event.TimeOut n) old
  some_time_out (Loading h ws) n old is there =
      some_waiter (Event.TimeOut n) h ws n old there is
      (λ at. (_, _, receives (Event.TimeOut n) old n ws (timing_out n) at))
      (λ other waiting. (
        _,
        _,
        withdraws (Event.TimeOut n) old h ws n _ (by_time n) is other
            waiting,
      ))
  some_time_out (Filled v) n old is there =
      (_, _, lacks_a_clone (Event.TimeOut n) old v is (by_timing_out n old))
  some_time_out GivenUp n old is there = absurd (cc)

  some_cancel : (l : Life V) (n : ℕ) (old : CoreState V) → old.life ≡ l → concerns n l ≡ true
      → SomeRow (Event.Cancel n) old
  some_cancel (Loading h ws) n old is there =
      some_waiter (Event.Cancel n) h ws n old there is
      (λ at. passed_on (Event.Cancel n) old (Holder.HandedTo n) ws (cancelling n) at)
      (λ other waiting. (
        _,
        _,
        withdraws (Event.Cancel n) old h ws n _ (by_cancel n) is other
            waiting,
      ))
  some_cancel (Filled v) n old is there = (_, _, cancels_in_vain old v n is)
  some_cancel GivenUp n old is there = absurd (cc)

  -- where the test holds some row is about the event
  some_row : (e : Event V) (old : CoreState V) → applies e old ≡ true → SomeRow e old
  some_row Event.Create old holds = some_create old.life old refl holds
  some_row (Event.Join n) old holds =
      let parts = both old.in_shard (can_join n old.life) holds in
      some_join old.life n old refl parts.0 parts.1
  some_row (Event.Fill v) old holds = some_fill old.life v old refl holds
  some_row Event.Abandon old holds = some_abandon old.life old refl holds
  some_row (Event.Take n) old holds = some_take old.life n old refl holds
  some_row (Event.TimeOut n) old holds = some_time_out old.life n old refl holds
  some_row (Event.Cancel n) old holds = some_cancel old.life n old refl holds
  some_row Event.Leave old holds = (_, _, leaves old holds)

  -- where the test fails no row is
  pub NoRowApplies-from : (e : Event V) (old : CoreState V) → applies e old ≡ false
      → NoRowApplies shows e old
  NoRowApplies-from e old fails = λ a new row. true≢false (sym (acting-applies row) ∙ fails)

  -- and where no row is the test fails
  pub applies-from_none : (e : Event V) (old : CoreState V) → NoRowApplies shows e old
      → applies e old ≡ false
  applies-from_none e old none = elim (cases_Bool (applies e old)) [
    | inl test ↦ let row = some_row e old test in absurd (none row.0 row.1 row.2)
    | inr fails ↦ fails
  ]
