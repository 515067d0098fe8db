-- A step by cases is a row of the table.
use Rattle.std.proofs.Common.{◌≡◌, ℕ, ◌==◌, Bool, true, false, inl, inr, List, [], ◌∷◌, ◌++◌, refl, ◌∙◌, ap, not, ◌&&◌, ◌||◌, arith}
use Rattle.std.proofs.lemmas.Bool.Decides.{nat_tests}
use Rattle.quick_cache_loading.proofs.BoolLemmas.{match_bool, neither}
use Rattle.quick_cache_loading.specs.Waiting.{has, without_waiter}
use Rattle.quick_cache_loading.specs.Core.{Life, Loading, Filled, GivenUp, CoreState, core_state, new_core, is_handed_to}
use Rattle.quick_cache_loading.specs.LoadingStep.{LoadingStep, NotNowOf, Shows, Creates, Adds, Joins, Fills, PassesOn, Abandons, Receives}
use Rattle.quick_cache_loading.specs.LoadingStep.{Remains, Takes, Withdraws, TimesOut, Cancels, Leaves}
use Rattle.quick_cache_loading.proofs.WhenRowsApply.{applies, NoRowApplies-from}
use Rattle.quick_cache_loading.specs.LoadingRow.{LoadingRow, ActingRow, AsksForValue, by_joining, by_taking, by_timing_out, acts}
use Rattle.quick_cache_loading.specs.LoadingRow.{no_row_applies, creates, joins, lacks_room, shows_the_value, lacks_a_clone, fills}
use Rattle.quick_cache_loading.specs.LoadingRow.{hands_on, gives_up, receives, waits_on, withdraws, cancels_in_vain, leaves, Releases}
use Rattle.quick_cache_loading.specs.LoadingRow.{abandoning, cancelling, Collects, taking, timing_out, Retires, by_time, by_cancel}
use Rattle.quick_cache_model.specs.declared.refusal.Refusal.{Refusal}
use Rattle.quick_cache_loading.specs.declared.protocol.life.Holder.{Holder}
use Rattle.quick_cache_loading.specs.declared.protocol.events.Event.{Event}
use Rattle.quick_cache_loading.specs.declared.protocol.events.Answer.{Answer}

-- what the test of a joining waiter says
may_join : (a b c : Bool) → (a && not (b || c)) ≡ true → (a ≡ true) × (b ≡ false) × (c ≡ false)
may_join true false false e = (refl, refl, refl)
may_join true false true e = absurd (cc)
may_join true true c e = absurd (cc)
may_join false b c e = absurd (cc)

module _ {V : Type 0} (shows : V → V → Type 0) where
  -- a row with another name for what it answers and leaves
  named : {e : Event V} {old : CoreState V} (b : Answer V) (mid : CoreState V) {a : Answer V}
      {new : CoreState V} → ActingRow shows e old b mid
      → (a ≡ b) × (new ≡ mid) → LoadingRow shows e old a new
  named b mid row (p, q) = rw (p, q) (acts row)

  idle : (e : Event V) (old : CoreState V) (a : Answer V) (new : CoreState V)
      → applies e old ≡ false → NotNowOf old a new → LoadingRow shows e old a new
  idle e old a new none (p, q) =
      rw (p, q) (no_row_applies e old (NoRowApplies-from shows e old none))

  shown : (e : Event V) (v : V) (old : CoreState V) (a : Answer V) (new : CoreState V)
      → AsksForValue e old → old.life ≡ Filled v
      → Shows shows v old a new → LoadingRow shows e old a new
  shown e v old a new can is (inl p, q) =
      named (Answer.Value p.0) old (shows_the_value e old v p.0 is can p.1) (p.2, q)
  shown e v old a new can is (inr p, q) =
      named (Answer.Refused Refusal.Memory) old (lacks_a_clone e old v is can) (p, q)

  of_create : (l : Life V) (old : CoreState V) (a : Answer V) (new : CoreState V) → old.life ≡ l
      → Creates l old a new → LoadingRow shows Event.Create old a new
  of_create (Loading h ws) old a new is step = idle Event.Create old a new (rw is) step
  of_create (Filled v) old a new is step = idle Event.Create old a new (rw is) step
  of_create GivenUp old a new is step =
      named Answer.Created (core_state (Loading Holder.Held []) true) (creates old is) step

  adds : (h : Holder) (ws : List ℕ) (n : ℕ) (old : CoreState V) (a : Answer V) (new : CoreState V)
      → old.life ≡ Loading h ws
      → (old.in_shard ≡ true) × (is_handed_to h n ≡ false) × (has n ws ≡ false)
      → Adds h ws n old a new → LoadingRow shows (Event.Join n) old a new
  adds h ws n old a new is free (inl p) =
      named Answer.Joined (core_state (Loading h (ws ++ n ∷ [])) old.in_shard)
      (joins old h ws n is free.0 free.1 free.2) p
  adds h ws n old a new is free (inr p) =
      named (Answer.Refused Refusal.Memory) old (lacks_room old h ws n is free.0 free.1 free.2) p

  of_join : (l : Life V) (n : ℕ) (old : CoreState V) (a : Answer V) (new : CoreState V)
      → old.life ≡ l → Joins shows l n old a new → LoadingRow shows (Event.Join n) old a new
  of_join (Loading h ws) n old a new is step =
      match_bool _
      (λ b. adds h ws n old a new is (may_join old.in_shard (is_handed_to h n) (has n ws) b))
      (λ b. idle (Event.Join n) old a new (rw is b)) step
  of_join (Filled v) n old a new is step =
      match_bool old.in_shard (λ b. shown (Event.Join n) v old a new (by_joining n old b) is)
      (λ b. idle (Event.Join n) old a new (rw (is, b))) step
  of_join GivenUp n old a new is step =
      idle (Event.Join n) old a new (rw is (never old.in_shard)) step where
        never : (b : Bool) → (b && false) ≡ false
        never true = refl
        never false = refl

  of_fill : (l : Life V) (v : V) (old : CoreState V) (a : Answer V) (new : CoreState V)
      → old.life ≡ l → Fills l v old a new → LoadingRow shows (Event.Fill v) old a new
  of_fill (Loading Holder.Held ws) v old a new is step =
      named Answer.Done (core_state (Filled v) old.in_shard) (fills old ws v is) step
  of_fill (Loading (Holder.HandedTo m) ws) v old a new is step =
      idle (Event.Fill v) old a new (rw is) step
  of_fill (Filled w) v old a new is step = idle (Event.Fill v) old a new (rw is) step
  of_fill GivenUp v old a new is step = idle (Event.Fill v) old a new (rw is) step

  passed : (e : Event V) (h : Holder) (ws : List ℕ) (old : CoreState V) (a : Answer V)
      (new : CoreState V) → Releases e h → old.life ≡ Loading h ws
      → PassesOn ws old a new → LoadingRow shows e old a new
  passed e h ws old a new by is (inl p) =
      named Answer.GivenUp new_core (gives_up e old h by (is ∙ ap (Loading h) p.0)) (p.1, p.2)
  passed e h ws old a new by is (inr p) =
      named (Answer.HandedTo p.1) (core_state (Loading (Holder.HandedTo p.1) p.0) old.in_shard)
      (hands_on e old h p.0 p.1 by (is ∙ ap (Loading h) p.2)) (p.3, p.4)

  of_abandon : (l : Life V) (old : CoreState V) (a : Answer V) (new : CoreState V) → old.life ≡ l
      → Abandons l old a new → LoadingRow shows Event.Abandon old a new
  of_abandon (Loading Holder.Held ws) old a new is step =
      passed Event.Abandon Holder.Held ws old a new abandoning is step
  of_abandon (Loading (Holder.HandedTo m) ws) old a new is step =
      idle Event.Abandon old a new (rw is) step
  of_abandon (Filled v) old a new is step = idle Event.Abandon old a new (rw is) step
  of_abandon GivenUp old a new is step = idle Event.Abandon old a new (rw is) step

  -- the guard is on its way to the one that the event names
  handed : (m n : ℕ) (ws : List ℕ) (old : CoreState V) → (m == n) ≡ true
      → old.life ≡ Loading (Holder.HandedTo m) ws → old.life ≡ Loading (Holder.HandedTo n) ws
  handed m n ws old same is = let eq : m ≡ n = grind (arith, nat_tests) in rw (← eq) is

  received : (e : Event V) (n : ℕ) (ws : List ℕ) (old : CoreState V) (a : Answer V)
      (new : CoreState V) → Collects e n
      → old.life ≡ Loading (Holder.HandedTo n) ws → Receives ws old a new
      → LoadingRow shows e old a new
  received e n ws old a new by is step =
      named Answer.Guard (core_state (Loading Holder.Held ws) old.in_shard)
      (receives e old n ws by is)
      step

  remained : (h : Holder) (ws : List ℕ) (n : ℕ) (old : CoreState V) (a : Answer V)
      (new : CoreState V) → old.life ≡ Loading h ws
      → is_handed_to h n ≡ false → Remains ws n old a new
      → LoadingRow shows (Event.Take n) old a new
  remained h ws n old a new is other step =
      match_bool (has n ws) (λ b. named Answer.Waiting old (waits_on old h ws n is other b))
      (λ b. idle (Event.Take n) old a new (rw is (neither _ _ other b))) step

  of_take : (l : Life V) (n : ℕ) (old : CoreState V) (a : Answer V) (new : CoreState V)
      → old.life ≡ l → Takes shows l n old a new → LoadingRow shows (Event.Take n) old a new
  of_take (Loading Holder.Held ws) n old a new is step =
      remained Holder.Held ws n old a new is refl step
  of_take (Loading (Holder.HandedTo m) ws) n old a new is step =
      match_bool (m == n)
      (λ b. received (Event.Take n) n ws old a new (taking n) (handed m n ws old b is))
      (λ b. remained (Holder.HandedTo m) ws n old a new is b) step
  of_take (Filled v) n old a new is step =
      shown (Event.Take n) v old a new (by_taking n old) is step
  of_take GivenUp n old a new is step = idle (Event.Take n) old a new (rw is) step

  withdrawn : (e : Event V) (given : Answer V) (h : Holder) (ws : List ℕ) (n : ℕ)
      (old : CoreState V) (a : Answer V) (new : CoreState V)
      → Retires e n given → old.life ≡ Loading h ws → is_handed_to h n ≡ false
      → (has n ws ≡ false → applies e old ≡ false)
      → Withdraws given h ws n old a new → LoadingRow shows e old a new
  withdrawn e given h ws n old a new by is other none step =
      match_bool (has n ws) (λ b. named given
      (core_state (Loading h (without_waiter n ws)) old.in_shard)
      (withdraws e old h ws n given by is other b))
      (λ b. idle e old a new (none b)) step

  of_time_out : (l : Life V) (n : ℕ) (old : CoreState V) (a : Answer V) (new : CoreState V)
      → old.life ≡ l → TimesOut shows l n old a new → LoadingRow shows (Event.TimeOut n) old a new
  of_time_out (Loading Holder.Held ws) n old a new is step =
      withdrawn (Event.TimeOut n) Answer.TimedOut Holder.Held ws n old a new (by_time n) is refl
      (λ b. rw is (neither _ _ refl b)) step
  of_time_out (Loading (Holder.HandedTo m) ws) n old a new is step =
      match_bool (m == n)
      (λ b. received (Event.TimeOut n) n ws old a new (timing_out n) (handed m n ws old b is))
      (λ other. withdrawn (Event.TimeOut n) Answer.TimedOut (Holder.HandedTo m) ws n old a new
      (by_time n) is
      other (λ b. rw is (neither _ _ other b))) step
  of_time_out (Filled v) n old a new is step =
      shown (Event.TimeOut n) v old a new (by_timing_out n old) is step
  of_time_out GivenUp n old a new is step = idle (Event.TimeOut n) old a new (rw is) step

  of_cancel : (l : Life V) (n : ℕ) (old : CoreState V) (a : Answer V) (new : CoreState V)
      → old.life ≡ l → Cancels l n old a new → LoadingRow shows (Event.Cancel n) old a new
  of_cancel (Loading Holder.Held ws) n old a new is step =
      withdrawn (Event.Cancel n) Answer.Done Holder.Held ws n old a new (by_cancel n) is refl
      (λ b. rw is (neither _ _ refl b)) step
  of_cancel (Loading (Holder.HandedTo m) ws) n old a new is step =
      match_bool (m == n)
      (λ b. passed (Event.Cancel n) (Holder.HandedTo n) ws old a new (cancelling n)
      (handed m n ws old b is))
      (λ other. withdrawn (Event.Cancel n) Answer.Done (Holder.HandedTo m) ws n old a new
      (by_cancel n) is other
      (λ b. rw is (neither _ _ other b))) step
  of_cancel (Filled v) n old a new is step = named Answer.Done old (cancels_in_vain old v n is) step
  of_cancel GivenUp n old a new is step = idle (Event.Cancel n) old a new (rw is) step

  of_leave : (old : CoreState V) (a : Answer V) (new : CoreState V) → Leaves old a new
      → LoadingRow shows Event.Leave old a new
  of_leave old a new step =
      match_bool old.in_shard (λ b. named Answer.Done (core_state old.life false) (leaves old b))
      (λ b. idle Event.Leave old a new b) step

  -- a step is a row of the table
  pub row_of_step : (e : Event V) (old : CoreState V) (a : Answer V) (new : CoreState V)
      → LoadingStep shows old e a new → LoadingRow shows e old a new
  row_of_step Event.Create old a new step = of_create old.life old a new refl step
  row_of_step (Event.Join n) old a new step = of_join old.life n old a new refl step
  row_of_step (Event.Fill v) old a new step = of_fill old.life v old a new refl step
  row_of_step Event.Abandon old a new step = of_abandon old.life old a new refl step
  row_of_step (Event.Take n) old a new step = of_take old.life n old a new refl step
  row_of_step (Event.TimeOut n) old a new step = of_time_out old.life n old a new refl step
  row_of_step (Event.Cancel n) old a new step = of_cancel old.life n old a new refl step
  row_of_step Event.Leave old a new step = of_leave old a new step
