-- Each who waits has a slot, whatever happens, and all numbers are below the next one's.
use Rattle.std.proofs.Common.{◌≡◌, ◌==◌, ◌<◌, ◌+◌, ◌&&◌, ◌||◌, ◌⊎◌, not, inl, inr, ℕ, Bool, true, false, List, [], ◌∷◌, ◌++◌, None, Some}
use Rattle.std.proofs.Common.{MatchBool, All, refl, sym, ◌∙◌, ap, cond, arith}
use Rattle.std.proofs.lemmas.Bool.Decides.{nat_tests}
use Rattle.std.proofs.lemmas.List.{map-append}
use Rattle.std.proofs.lemmas.List.Elements.{All-nil, All-cons, All-head, All-tail, All-push, All-pop, All-filter, All-weaker}
use Rattle.std.proofs.lemmas.List.Folds.{list_any_none}
use Rattle.std.proofs.lemmas.Iterator.Adapters.{position_from-zero}
use Rattle.std.specs.List.{position, position_from}
use Rattle.quick_cache_loading.proofs.BoolLemmas.{both, not-true, same-number}
use Rattle.quick_cache_loading.proofs.WaiterLists.{is_distinct-push}
use Rattle.quick_cache_loading.proofs.waiting.WithdrawalLemmas.{handed-absent}
use Rattle.quick_cache_model.specs.declared.refusal.Refusal.{Refusal}
use Rattle.quick_cache_loading.specs.Waiting.{has, without_waiter, is_distinct}
use Rattle.quick_cache_loading.specs.Core.{Life, Loading, Filled, GivenUp, CoreState, core_state, is_handed_to, is_sound, numbers_in}
use Rattle.quick_cache_loading.specs.Core.{waiters_of}
use Rattle.quick_cache_loading.specs.LoadingStep.{Abandons, Adds, Cancels, Joins, NotNowOf, PassesOn, Receives, Remains, Shows, Takes}
use Rattle.quick_cache_loading.specs.LoadingStep.{TimesOut, Withdraws}
use Rattle.quick_cache_loading.specs.Tasks.{has_slot, numbers_of, slots_after, slots_of_others, with_slot}
use Rattle.quick_cache_loading.specs.Waiters.{HaveSlots}
use Rattle.quick_cache_loading.specs.declared.waiting.tasks.Slot.{Slot}
use Rattle.quick_cache_loading.specs.declared.protocol.life.Holder.{Holder}
use Rattle.quick_cache_loading.specs.declared.protocol.events.Answer.{Answer}

-- ---- lists of numbers and of slots

-- the numbers, once one's slot is taken out
numbers-others : (n : ℕ) (slots : List Slot)
    → numbers_of (slots_of_others n slots) ≡ without_waiter n (numbers_of slots)
numbers-others n [] = refl
numbers-others n (s ∷ slots) = by_cases (s.waiter == n) (numbers-others n slots) where
  by_cases : (b : Bool) → numbers_of (slots_of_others n slots) ≡ without_waiter n (numbers_of slots)
      → numbers_of (cond (not b) (s ∷ slots_of_others n slots) (slots_of_others n slots))
      ≡ cond (not b) (s.waiter ∷ without_waiter n (numbers_of slots))
      (without_waiter n (numbers_of slots))
  by_cases true rest = rest
  by_cases false rest = ap (λ xs. s.waiter ∷ xs) rest

-- one that is not in a list need not be taken out
without-absent : (n : ℕ) (ws : List ℕ) → has n ws ≡ false → without_waiter n ws ≡ ws
without-absent n [] absent = refl
without-absent n (w ∷ ws) absent = by_cases (w == n) absent (without-absent n ws) where
  by_cases : (b : Bool) → (b || has n ws) ≡ false
      → (has n ws ≡ false → without_waiter n ws ≡ ws)
      → cond (not b) (w ∷ without_waiter n ws) (without_waiter n ws) ≡ w ∷ ws
  by_cases true absent rest = absurd (cc)
  by_cases false absent rest = ap (λ xs. w ∷ xs) (rest absent)

-- one that was added last is taken out again
without-last : (n : ℕ) (ws : List ℕ) → has n ws ≡ false → without_waiter n (ws ++ n ∷ []) ≡ ws
without-last n [] absent = rw (same-number n) refl
without-last n (w ∷ ws) absent = by_cases (w == n) absent (without-last n ws) where
  by_cases : (b : Bool) → (b || has n ws) ≡ false
      → (has n ws ≡ false → without_waiter n (ws ++ n ∷ []) ≡ ws)
      → cond (not b) (w ∷ without_waiter n (ws ++ n ∷ [])) (without_waiter n (ws ++ n ∷ []))
      ≡ w ∷ ws
  by_cases true absent rest = absurd (cc)
  by_cases false absent rest = ap (λ xs. w ∷ xs) (rest absent)

-- one without a slot loses none
gone : (n : ℕ) (slots : List Slot) (ws : List ℕ) → numbers_of slots ≡ ws → has n ws ≡ false
    → numbers_of (slots_of_others n slots) ≡ ws
gone n slots ws each absent =
    numbers-others n slots ∙ ap (λ xs. without_waiter n xs) each ∙ without-absent n ws absent

-- a slot that was added last is taken out again
pub others-last : (n : ℕ) (slots : List Slot) → has_slot n slots ≡ false
    → slots_of_others n (with_slot n slots) ≡ slots
others-last n [] absent = rw (same-number n) refl
others-last n (s ∷ slots) absent = by_cases (s.waiter == n) absent (others-last n slots) where
  by_cases : (b : Bool) → (b || has_slot n slots) ≡ false
      → (has_slot n slots ≡ false → slots_of_others n (with_slot n slots) ≡ slots)
      → cond (not b) (s ∷ slots_of_others n (with_slot n slots))
      (slots_of_others n (with_slot n slots)) ≡ s ∷ slots
  by_cases true absent rest = absurd (cc)
  by_cases false absent rest = ap (λ xs. s ∷ xs) (rest absent)

-- one whose slot is not found has none
pub no-slot : (n : ℕ) (slots : List Slot) → position (λ slot. slot.waiter == n) slots ≡ None
    → has_slot n slots ≡ false
no-slot n slots none =
    from 0 slots (sym (position_from-zero (λ slot. slot.waiter == n) slots) ∙ none)
  where
    from : (i : ℕ) (slots : List Slot) → position_from (λ slot. slot.waiter == n) i slots ≡ None
        → has_slot n slots ≡ false
    from i [] none = refl
    from i (s ∷ slots) none = by_cases (s.waiter == n) none (from (i + 1) slots) where
      by_cases : (b : Bool)
          → cond b (Some i) (position_from (λ slot. slot.waiter == n) (i + 1) slots) ≡ None
          → (position_from (λ slot. slot.waiter == n) (i + 1) slots ≡ None
          → has_slot n slots ≡ false) → (b || has_slot n slots) ≡ false
      by_cases true none rest = absurd (cc)
      by_cases false none rest = rest none

-- ---- answers that differ

module _ {V : Type 0} where
  no-refused : (a : Answer V) → a ≡ Answer.Joined → a ≡ Answer.Refused Refusal.Memory → ⊥
  no-refused a did e = absurd (cc)

  no-join : (a : Answer V) → a ≡ Answer.Joined → a ≡ Answer.NotNow → ⊥
  no-join a did e = absurd (cc)

  -- one that is shown a value does not join
  shows-no_join : (shows : V → V → Type 0) (v : V) (old : CoreState V) (a : Answer V)
      (new : CoreState V) → Shows shows v old a new → a ≡ Answer.Joined → ⊥
  shows-no_join shows v old a new step did = by_cases step.0 where
    by_cases : ((w : V) × shows v w × (a ≡ Answer.Value w)) ⊎ (a ≡ Answer.Refused Refusal.Memory)
        → ⊥
    by_cases (inl shown) = let is = shown.2 in absurd (cc)
    by_cases (inr is) = absurd (cc)

-- ---- what becomes of the slots at each event

module _ (V : Type 0) (next : ℕ) where
  waiters-below : (h : Holder) (ws : List ℕ)
      → All (λ n. n < next) (numbers_in {V = V} (Loading h ws)) → All (λ n. n < next) ws
  waiters-below Holder.Held ws below = below
  waiters-below (Holder.HandedTo m) ws below = All-tail (λ n. n < next) m ws below

  -- those who are left are below it, too
  left-below : (h : Holder) (n : ℕ) (ws : List ℕ)
      → All (λ n. n < next) (numbers_in {V = V} (Loading h ws))
      → All (λ n. n < next) (numbers_in {V = V} (Loading h (without_waiter n ws)))
  left-below Holder.Held n ws below = All-filter (λ m. not (m == n)) (λ n. n < next) ws below
  left-below (Holder.HandedTo m) n ws below =
      All-cons (λ n. n < next) m _ (All-head (λ n. n < next) m ws below)
      (All-filter (λ m. not (m == n)) (λ n. n < next) ws
      (All-tail (λ n. n < next) m ws below))

module _ {V : Type 0} (next : ℕ) where
  -- one who comes has a number that nobody has who waits
  pub fresh : (slots : List Slot) (life : Life V) → HaveSlots slots next life
      → has_slot next slots ≡ false
  fresh slots life have = rw have.each (absent life have.below) where
    absent : (life : Life V) → All (λ n. n < next) (numbers_in life)
        → has next (waiters_of life) ≡ false
    absent (Loading h ws) below =
        list_any_none (λ m. m == next) ws (All-weaker (λ n. n < next) (λ m. (m == next) ≡ false)
        (λ m less. grind (arith, nat_tests)) ws (waiters-below V next h ws below))
    absent (Filled v) below = refl
    absent GivenUp below = refl

  -- one who gets a slot and loses it again leaves the others as they were
  pub slot-back : (slots : List Slot) (life : Life V) (added woken : List Slot)
      → added ≡ with_slot next slots → woken ≡ slots_of_others next added
      → HaveSlots slots next life → woken ≡ slots
  slot-back slots life added woken is_added is_woken have =
      is_woken ∙ ap (λ s. slots_of_others next s) is_added
      ∙ others-last next slots (fresh slots life have)

  module _ (slots : List Slot) (old : CoreState V) (a : Answer V) (new : CoreState V) where
    -- who joins has the last slot
    pub joined : (shows : V → V → Type 0) (life : Life V) → a ≡ Answer.Joined
        → Joins shows life next old a new → HaveSlots slots next life
        → HaveSlots (with_slot next slots) (next + 1) new.life
    joined shows (Loading h ws) did step have =
        go (old.in_shard && not (is_handed_to h next || has next ws)) step
      where
        below : (h : Holder) → All (λ n. n < next) (numbers_in {V = V} (Loading h ws))
            → All (λ n. n < next + 1) (numbers_in {V = V} (Loading h (ws ++ next ∷ [])))
        below Holder.Held all =
            All-push (λ n. n < next + 1) ws next (All-weaker (λ n. n < next) (λ n. n < next + 1)
            (λ n less. omega arith) ws all) (omega arith)
        below (Holder.HandedTo m) all =
            All-push (λ n. n < next + 1) (m ∷ ws) next
            (All-weaker (λ n. n < next) (λ n. n < next + 1) (λ n less. omega arith) (m ∷ ws) all)
            (omega arith)

        go : (b : Bool) → MatchBool b (Adds h ws next old a new) (NotNowOf old a new)
            → HaveSlots (with_slot next slots) (next + 1) new.life
        go true (inl added) = rw added.1 (record {
          each =
              map-append (λ slot. slot.waiter) slots _ ∙ ap (λ xs. xs ++ next ∷ []) have.each;
          below = below h have.below;
        })
        go true (inr refused) = absurd (no-refused a did refused.0)
        go false later = absurd (no-join a did later.0)
    joined shows (Filled v) did step have = go old.in_shard step where
      go : (b : Bool) → MatchBool b (Shows shows v old a new) (NotNowOf old a new)
          → HaveSlots (with_slot next slots) (next + 1) new.life
      go true shown = absurd (shows-no_join shows v old a new shown did)
      go false later = absurd (no-join a did later.0)
    joined shows GivenUp did step have = absurd (no-join a did step.0)

    -- who does not join changes nothing
    pub not-joined : (shows : V → V → Type 0) (life : Life V) → (a ≡ Answer.Joined → ⊥)
        → Joins shows life next old a new → new ≡ old
    not-joined shows (Loading h ws) other step =
        go (old.in_shard && not (is_handed_to h next || has next ws)) step
      where
        go : (b : Bool) → MatchBool b (Adds h ws next old a new) (NotNowOf old a new) → new ≡ old
        go true (inl added) = absurd (other added.0)
        go true (inr refused) = refused.1
        go false later = later.1
    not-joined shows (Filled v) other step = go old.in_shard step where
      go : (b : Bool) → MatchBool b (Shows shows v old a new) (NotNowOf old a new) → new ≡ old
      go true shown = shown.1
      go false later = later.1
    not-joined shows GivenUp other step = step.1

    -- who takes what came changes no slot
    pub taken : (shows : V → V → Type 0) (n : ℕ) (life : Life V) → old.life ≡ life
        → Takes shows life n old a new → HaveSlots slots next life → HaveSlots slots next new.life
    taken shows n (Loading h ws) is step have = go (is_handed_to h n) step where
      waits : (b : Bool) → MatchBool b ((a ≡ Answer.Waiting) × (new ≡ old)) (NotNowOf old a new)
          → HaveSlots slots next new.life
      waits true on = rw (on.1, is) have
      waits false later = rw (later.1, is) have

      go : (b : Bool) → MatchBool b (Receives ws old a new) (Remains ws n old a new)
          → HaveSlots slots next new.life
      go true gets =
          rw gets.1 (record { each = have.each; below = waiters-below V next h ws have.below })
      go false on = waits (has n ws) on
    taken shows n (Filled v) is step have = rw (step.1, is) have
    taken shows n GivenUp is step have = rw (step.1, is) have

    -- one that was handed the guard, or is in no list, has no slot
    unseated : (n : ℕ) (life : Life V) → has n (waiters_of life) ≡ false
        → HaveSlots slots next life → HaveSlots (slots_of_others n slots) next life
    unseated n life absent have =
        record { each = gone n slots _ have.each absent; below = have.below }

    -- one whose time is over has none
    pub timed_out : (shows : V → V → Type 0) (n : ℕ) (life : Life V) → old.life ≡ life
        → is_sound life ≡ true → TimesOut shows life n old a new → HaveSlots slots next life
        → HaveSlots (slots_of_others n slots) next new.life
    timed_out shows n (Loading h ws) is sound step have = go (is_handed_to h n) refl step where
      left : (b : Bool) → has n ws ≡ b → MatchBool b
          ((a ≡ Answer.TimedOut)
          × (new ≡ core_state (Loading h (without_waiter n ws)) old.in_shard))
          (NotNowOf old a new) → HaveSlots (slots_of_others n slots) next new.life
      left true there out = rw out.1 (record {
        each = numbers-others n slots ∙ ap (λ xs. without_waiter n xs) have.each;
        below = left-below V next h n ws have.below;
      })
      left false absent later = rw (later.1, is) (unseated n _ absent have)

      go : (b : Bool) → is_handed_to h n ≡ b → MatchBool b (Receives ws old a new)
          (Withdraws Answer.TimedOut h ws n old a new)
          → HaveSlots (slots_of_others n slots) next new.life
      go true handed gets = rw gets.1 (record {
        each = gone n slots ws have.each (handed-absent h ws n sound handed);
        below = waiters-below V next h ws have.below;
      })
      go false other out = left (has n ws) refl out
    timed_out shows n (Filled v) is sound step have = rw (step.1, is) (unseated n _ refl have)
    timed_out shows n GivenUp is sound step have = rw (step.1, is) (unseated n _ refl have)

    -- one to whom the guard is handed has none any more
    passed : (h : Holder) (ws : List ℕ) → is_distinct ws ≡ true → PassesOn ws old a new
        → HaveSlots {V = V} slots next (Loading h ws)
        → HaveSlots (slots_after a slots) next new.life
    passed h ws distinct (inl ended) have = rw (ended.1, ended.2) (record {
      each = have.each ∙ ended.0;
      below = All-nil (λ n. n < next);
    })
    passed h ws distinct (inr on) have =
        let last = sym (is_distinct-push on.0 on.1) ∙ rw on.2 at distinct in
        let absent = not-true (has on.1 on.0) (both _ _ last).0 in
        let parts =
        All-pop (λ n. n < next) ws on.0 (Some on.1) on.2 (waiters-below V next h ws have.below) in
        rw (on.3, on.4) (record {
          each = numbers-others on.1 slots ∙ ap (λ xs. without_waiter on.1 xs) (have.each ∙ on.2)
              ∙ without-last on.1 on.0 absent;
          below = All-cons (λ n. n < next) on.1 on.0 parts.1 parts.0;
        })

    -- no number is twice in the list of a life that can be
    distinct : (h : Holder) (ws : List ℕ) → is_sound {V = V} (Loading h ws) ≡ true
        → is_distinct ws ≡ true
    distinct Holder.Held ws sound = sound
    distinct (Holder.HandedTo m) ws sound = (both (not (has m ws)) (is_distinct ws) sound).1

    pub abandoned : (life : Life V) → old.life ≡ life → is_sound life ≡ true
        → Abandons life old a new → HaveSlots slots next life
        → HaveSlots (slots_after a slots) next new.life
    abandoned (Loading Holder.Held ws) is sound step have = passed Holder.Held ws sound step have
    abandoned (Loading (Holder.HandedTo m) ws) is sound step have = rw (step.0, step.1, is) have
    abandoned (Filled v) is sound step have = rw (step.0, step.1, is) have
    abandoned GivenUp is sound step have = rw (step.0, step.1, is) have

  module _ (slots : List Slot) (old : CoreState V) (a : Answer V) (new : CoreState V) where
    -- who withdraws has none, nor has one to whom its guard is handed
    pub cancelled : (n : ℕ) (life : Life V) → old.life ≡ life → is_sound life ≡ true
        → Cancels life n old a new → HaveSlots slots next life
        → HaveSlots (slots_after a (slots_of_others n slots)) next new.life
    cancelled n (Loading h ws) is sound step have = go (is_handed_to h n) refl step where
      left : (b : Bool) → has n ws ≡ b → MatchBool b
          ((a ≡ Answer.Done) × (new ≡ core_state (Loading h (without_waiter n ws)) old.in_shard))
          (NotNowOf old a new) → HaveSlots (slots_after a (slots_of_others n slots)) next new.life
      left true there out = rw (out.0, out.1) (record {
        each = numbers-others n slots ∙ ap (λ xs. without_waiter n xs) have.each;
        below = left-below V next h n ws have.below;
      })
      left false absent later =
          rw (later.0, later.1, is) (unseated slots old a new n _ absent have)

      go : (b : Bool) → is_handed_to h n ≡ b → MatchBool b (PassesOn ws old a new)
          (Withdraws Answer.Done h ws n old a new)
          → HaveSlots (slots_after a (slots_of_others n slots)) next new.life
      go true handed on =
          let absent = handed-absent h ws n sound handed in
          passed (slots_of_others n slots) old a new h ws (distinct slots old a new h ws sound) on
          (unseated slots old a new n _ absent have)
      go false other out = left (has n ws) refl out
    cancelled n (Filled v) is sound step have =
        rw (step.0, step.1, is) (unseated slots old a new n _ refl have)
    cancelled n GivenUp is sound step have =
        rw (step.0, step.1, is) (unseated slots old a new n _ refl have)
