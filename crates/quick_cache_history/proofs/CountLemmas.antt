-- Histories that grow, and the words that count their calls.
use Rattle.std.proofs.Common.{cond, ◌≡◌, ◌≢◌, ◌≤◌, ◌<◌, ◌+◌, ◌==◌, ◌⊎◌, ℕ, Bool, true, false, List, [], ◌∷◌, ◌++◌, Option, length, filter, refl, ap, sym, subst, ◌∙◌, arith, inl, inr, slice_set, length-append}
use Rattle.std.proofs.lemmas.List.{append-nil, length-set, get_or-set_same, get_or-set_other, get_or_past, get_or_append_left}
use Rattle.std.proofs.lemmas.List.Elements.{filter-append}
use Rattle.std.proofs.lemmas.Bool.{cases_eq, cases_lt, true≢false}
use Rattle.std.proofs.lemmas.Bool.Decides.{nat_tests}
use mathlib.Core.List.{IsPrefix}
use mathlib.Core.Logic.{⊎_elim}
use prog.Atomic.{either}
use Rattle.logbook.specs.Pages.{Cell, Nib, cell, keeps, gives, adds, no_nib, may_write, step, Moves, Goes, Away}
use Rattle.quick_cache_history.specs.declared.entry.Entry.{Entry}
use Rattle.quick_cache_history.specs.Histories.{shards_in, first_in, is_of, is_in, calls_of, calls_in}
use Rattle.quick_cache_history.specs.Laws.{IsCounted, FindsCount, TakesTurn, AddsCall}
use Rattle.quick_cache_history.proofs.PrefixLemmas.{prefix-whole}

-- a cell at home
abbrev counted_to : ℕ → Cell
counted_to n = (n, true)

-- a cell at home is one of the cells
at_home : (words : List Cell) (k : ℕ) → (cell words k).1 ≡ true → k < length words
at_home words k home = ⊎_elim (λ lt. lt)
    (λ le. absurd (true≢false (sym home ∙ ap (λ c. c.1) (get_or_past words k (0, false) le))))
    (cases_lt k (length words))

-- an exchange of 0 for 0 changes nothing
either-same : (n : ℕ) (b : Bool) → (n == 0) ≡ b → either b 0 n ≡ n
either-same n true is = grind (arith, nat_tests)
either-same n false is = refl

module _ {K V : Type 0} where
  -- how many shards there are is told at the beginning
  pub shards_in-longer : (shard : ℕ) (old new : List (Entry K V)) → IsPrefix old new
      → shard < shards_in old → shards_in new ≡ shards_in old
  shards_in-longer shard [] new p within = absurd (omega arith)
  shards_in-longer shard (Entry.Opened options sizes ∷ old) new p within = sym (ap shards_in p.1)
  shards_in-longer shard (Entry.Made turn next own call reply ∷ old) new p within =
      absurd (omega arith)

  -- and so is how each began
  pub first_in-longer : (shard : ℕ) (old new : List (Entry K V)) → IsPrefix old new
      → shard < shards_in old → first_in new ≡ first_in old
  first_in-longer shard [] new p within = absurd (omega arith)
  first_in-longer shard (Entry.Opened options sizes ∷ old) new p within = sym (ap first_in p.1)
  first_in-longer shard (Entry.Made turn next own call reply ∷ old) new p within =
      absurd (omega arith)

  -- a longer history has the calls of the shorter one first
  pub calls_of-longer : (shard : ℕ) (old new : List (Entry K V)) → IsPrefix old new
      → IsPrefix (calls_of shard old) (calls_of shard new)
  calls_of-longer shard old new p = (
    calls_of shard p.0,
    sym (filter-append (is_of shard) old p.0) ∙ ap (calls_of shard) p.1,
  )

  -- and where it has no more of them, the same
  pub calls_of-same : (shard : ℕ) (old new : List (Entry K V)) → IsPrefix old new
      → length (calls_of shard new) ≤ length (calls_of shard old)
      → calls_of shard new ≡ calls_of shard old
  calls_of-same shard old new p le = sym
      (prefix-whole (calls_of shard old) (calls_of shard new) (calls_of-longer shard old new p) le)

  -- what passes a test is one more of those that pass, and what does not is none more
  push-yes : (test : Entry K V → Bool) (log : List (Entry K V)) (entry : Entry K V)
      → test entry ≡ true → filter test (log ++ entry ∷ []) ≡ filter test log ++ entry ∷ []
  push-yes test log entry passes = filter-append test log (entry ∷ [])
      ∙ ap (λ b. filter test log ++ cond b (entry ∷ []) []) passes

  push-no : (test : Entry K V → Bool) (log : List (Entry K V)) (entry : Entry K V)
      → test entry ≡ false → filter test (log ++ entry ∷ []) ≡ filter test log
  push-no test log entry fails =
      filter-append test log (entry ∷ [])
      ∙ ap (λ b. filter test log ++ cond b (entry ∷ []) []) fails
      ∙ append-nil (filter test log)

  pub calls_of-push : (shard : ℕ) (log : List (Entry K V)) (entry : Entry K V)
      → is_of shard entry ≡ true
      → calls_of shard (log ++ entry ∷ []) ≡ calls_of shard log ++ entry ∷ []
  calls_of-push shard log entry own = push-yes (is_of shard) log entry own

  -- a call is of one shard, and of one turn
  is_of-other : (shard other : ℕ) (entry : Entry K V) → is_of shard entry ≡ true → other ≢ shard
      → is_of other entry ≡ false
  is_of-other shard other (Entry.Opened options sizes) own apart = refl
  is_of-other shard other (Entry.Made turn next number call reply) own apart =
      grind (arith, nat_tests)

  is_in-other : (turn other : ℕ) (entry : Entry K V) → is_in turn entry ≡ true → other ≢ turn
      → is_in other entry ≡ false
  is_in-other turn other (Entry.Opened options sizes) own apart = refl
  is_in-other turn other (Entry.Made own' next number call reply) own apart =
      grind (arith, nat_tests)

  -- the words count on where one was set to what its shard then has, and nothing came of another
  pub IsCounted-set : (words : List Cell) (log new : List (Entry K V)) (shard count : ℕ)
      → IsCounted words log → shard < length words → shards_in new ≡ shards_in log
      → count ≡ length (calls_of shard new)
      → ((other : ℕ) → other ≢ shard → calls_of other new ≡ calls_of other log)
      → ((turn : ℕ) → calls_in turn new ≡ calls_in turn log)
      → IsCounted (slice_set words shard (count, true)) new
  IsCounted-set words log new shard count counted within same is others turns = record {
    row = omega (arith, length-set words shard (count, true), counted.row, same);
    counts = λ other lt. at other (omega (arith, lt, same)) (cases_eq other shard);
    turns = λ turn. ⊎_elim (λ none. inl (turns turn ∙ none)) (λ home. inr (stays turn home))
        (counted.turns turn);
  }
    where
      stays : (k : ℕ) → (cell words k).1 ≡ true
          → (cell (slice_set words shard (count, true)) k).1 ≡ true
      stays k home =
          ⊎_elim
          (λ e. subst (λ n. (cell (slice_set words shard (count, true)) n).1 ≡ true) (sym e)
          (ap (λ c. c.1) (get_or-set_same words shard (count, true) (0, false) within)))
          (λ apart. ap (λ c. c.1)
          (get_or-set_other words shard k (count, true) (0, false) apart) ∙ home)
          (cases_eq k shard)

      at : (other : ℕ) → other < shards_in log → (other ≡ shard) ⊎ (other ≢ shard)
          → cell (slice_set words shard (count, true)) other ≡ (length (calls_of other new), true)
      at other lt (inl e) = subst
          (λ n. cell (slice_set words shard (count, true)) n ≡ (length (calls_of n new), true))
          (sym e)
          (get_or-set_same words shard (count, true) (0, false) within ∙ ap (λ n. (n, true)) is)
      at other lt (inr apart) =
          get_or-set_other words shard other (count, true) (0, false) apart
          ∙ counted.counts other lt
          ∙ ap (λ calls. (length calls, true)) (sym (others other apart))

  -- and where a cell was added
  pub IsCounted-wider : (words : List Cell) (log : List (Entry K V)) → IsCounted words log
      → IsCounted (words ++ (0, false) ∷ []) log
  IsCounted-wider words log counted =
      let more : List Cell = (0, false) ∷ [] in
      record {
        row = omega (arith, length-append words more, counted.row);
        counts = λ shard lt.
            get_or_append_left words more (0, false) shard (omega (arith, lt, counted.row))
            ∙ counted.counts shard lt;
        turns = λ turn. ⊎_elim (λ none. inl none)
            (λ home. inr (ap (λ c. c.1)
            (get_or_append_left words more (0, false) turn (at_home words turn home)) ∙ home))
            (counted.turns turn);
      }

  -- Clients see nothing of a history, and trade nothing.
  abbrev pub shown : List (Entry K V) → List (Entry K V)
  shown log = []

  abbrev pub moved : List (Entry K V) → List (Entry K V) → ℕ → Type 0
  moved xs ys n = Unit {0}

  module _ (shard : ℕ) (old : List (Entry K V)) (state : Option ℕ) (entry : Entry K V)
      (within : shard < shards_in old) where
    module _ (words : List Cell) (log : List (Entry K V)) (counted : IsCounted words log)
        (longer : IsPrefix old log) where
      here : shard < shards_in log
      here = omega (arith, within, shards_in-longer shard old log longer within)

      has_word : shard < length words
      has_word = omega (arith, counted.row, here)

      count : cell words shard ≡ (length (calls_of shard log), true)
      count = counted.counts shard here

      -- a history that is not empty tells its shards, also where it goes on
      same_shards : (more : List (Entry K V)) → shards_in (log ++ more) ≡ shards_in log
      same_shards more = shards_in-longer shard log (log ++ more) (more, refl) here

      nothing_more : IsCounted (slice_set words shard ((cell words shard).0, true)) (log ++ [])
      nothing_more = IsCounted-set words log (log ++ []) shard (cell words shard).0 counted has_word
          (same_shards [])
          (ap (λ c. c.0) count ∙ ap (λ l. length (calls_of shard l)) (sym (append-nil log)))
          (λ other apart. ap (calls_of other) (append-nil log))
          (λ turn. ap (calls_in turn) (append-nil log))

      -- no call is in the turn of a cell that is to come
      to_come : calls_in (length words) (log ++ []) ≡ []
      to_come =
          ⊎_elim (λ none. ap (calls_in (length words)) (append-nil log) ∙ none)
          (λ home. absurd (true≢false (sym home
          ∙ ap (λ c. c.1) (get_or_past words (length words) (0, false) (omega arith)))))
          (counted.turns (length words))

    -- a look finds how many calls of the shard there are
    pub look_moves : Moves IsCounted shown moved shard (old, (no_nib, state)) (λ n. n)
        (FindsCount (step shard 0 0 entry) (old, (no_nib, state)))
    look_moves words log counted longer away = (
      has_word words log counted longer,
      ap (λ c. c.1) (count words log counted longer),
      (
        keeps,
        [],
        state,
        tt,
        nothing_more words log counted longer,
        inl (refl, refl),
        ap (λ c. c.0) (count words log counted longer)
            ∙ ap (λ l. length (calls_of shard l)) (sym (append-nil log)),
      ),
    )

    -- an exchange that changes nothing takes a turn
    pub take_moves : Moves IsCounted shown moved shard (old, (no_nib, state))
        (λ n. either (n == 0) 0 n)
        (TakesTurn (step shard 0 0 entry) (old, (no_nib, state)))
    take_moves words log counted longer away = (
      has_word words log counted longer,
      ap (λ c. c.1) (count words log counted longer),
      (
        adds,
        [],
        state,
        tt,
        subst (λ n. IsCounted (slice_set words shard (n, true) ++ (0, false) ∷ []) (log ++ []))
            (sym (either-same (cell words shard).0 ((cell words shard).0 == 0) refl))
            (IsCounted-wider (slice_set words shard ((cell words shard).0, true)) (log ++ [])
            (nothing_more words log counted longer)),
        inl (refl, refl),
        (refl, to_come words log counted longer),
      ),
    )

    module _ (calls : ℕ) (own : is_of shard entry ≡ true) (pen : Nib)
        (right : pen.right ≡ may_write) (turn : is_in pen.key entry ≡ true) where
      abbrev after : ℕ → ℕ
      after n = either (n == calls) (calls + 1) n

      module _ (words : List Cell) (log : List (Entry K V)) (counted : IsCounted words log)
          (longer : IsPrefix old log) (away : Away pen words) where
        -- the turn's cell is not that of a shard
        apart : (other : ℕ) → other < shards_in log → other ≢ pen.key
        apart other lt e = true≢false
            (sym (ap (λ c. c.1) (counted.counts other lt)) ∙ ap (λ k. (cell words k).1) e
            ∙ (away right).1)

        unused : calls_in pen.key log ≡ []
        unused = ⊎_elim (λ none. none)
            (λ home. absurd (true≢false (sym home ∙ (away right).1))) (counted.turns pen.key)

        abbrev all : List (Entry K V)
        all = log ++ entry ∷ []

        -- the turn's cell comes home, and then the word counts the call
        one_more : (cell words shard).0 ≡ calls
            → IsCounted (slice_set (slice_set words shard (calls + 1, true)) pen.key
            (pen.value, true)) all
        one_more same = record {
          row = omega (
            arith,
            counted.row,
            same_shards words log counted longer (entry ∷ []),
            length-set words shard (counted_to (calls + 1)),
            length-set (slice_set words shard (calls + 1, true)) pen.key (counted_to pen.value),
          );
          counts = λ other lt.
              let lt' : other < shards_in log =
              omega (arith, lt, same_shards words log counted longer (entry ∷ [])) in
              get_or-set_other (slice_set words shard (calls + 1, true)) pen.key other
              (pen.value, true) (0, false) (apart other lt')
              ∙ at other lt' (cases_eq other shard);
          turns = λ other. turns other (cases_eq other pen.key);
        }
          where
            at : (other : ℕ) → other < shards_in log → (other ≡ shard) ⊎ (other ≢ shard)
                → cell (slice_set words shard (calls + 1, true)) other
                ≡ (length (calls_of other all), true)
            at other lt (inl e) = subst
                (λ n. cell (slice_set words shard (calls + 1, true)) n
                ≡ (length (calls_of n all), true)) (sym e)
                (get_or-set_same words shard (calls + 1, true) (0, false)
                (has_word words log counted longer)
                ∙ ap (λ n. (n, true)) (omega (
                  arith,
                  same,
                  ap (λ c. c.0) (count words log counted longer),
                  ap length (calls_of-push shard log entry own),
                  length-append (calls_of shard log) (entry ∷ []),
                )))
            at other lt (inr other') =
                get_or-set_other words shard other (calls + 1, true) (0, false) other'
                ∙ counted.counts other lt
                ∙ ap (λ l. (length l, true))
                (sym (push-no (is_of other) log entry (is_of-other shard other entry own other')))

            stays : (k : ℕ) → (cell words k).1 ≡ true
                → (cell (slice_set words shard (calls + 1, true)) k).1 ≡ true
            stays k home =
                ⊎_elim
                (λ e. subst (λ n. (cell (slice_set words shard (calls + 1, true)) n).1 ≡ true)
                (sym e) (ap (λ c. c.1) (get_or-set_same words shard (calls + 1, true) (0, false)
                (has_word words log counted longer))))
                (λ other. ap (λ c. c.1)
                (get_or-set_other words shard k (calls + 1, true) (0, false) other) ∙ home)
                (cases_eq k shard)

            turns : (other : ℕ) → (other ≡ pen.key) ⊎ (other ≢ pen.key)
                → (calls_in other all ≡ []) ⊎ ((cell (slice_set
                (slice_set words shard (calls + 1, true)) pen.key (pen.value, true)) other).1 ≡ true)
            turns other (inl e) = inr (subst (λ n. (cell (slice_set
                (slice_set words shard (calls + 1, true)) pen.key (pen.value, true)) n).1 ≡ true)
                (sym e) (ap (λ c. c.1) (get_or-set_same
                (slice_set words shard (calls + 1, true)) pen.key (pen.value, true) (0, false)
                (omega (arith, (away right).0, length-set words shard (counted_to (calls + 1)))))))
            turns other (inr other') = ⊎_elim
                (λ none. inl (push-no (is_in other) log entry
                (is_in-other pen.key other entry turn other') ∙ none))
                (λ home. inr (ap (λ c. c.1) (get_or-set_other
                (slice_set words shard (calls + 1, true)) pen.key other (pen.value, true) (0, false)
                other') ∙ stays other home))
                (counted.turns other)

        add_goes : (b : Bool) → ((cell words shard).0 == calls) ≡ b
            → Goes IsCounted shown moved shard (old, (pen, state)) after
            (AddsCall (step shard calls (calls + 1) entry) (old, (pen, state))) words log
        add_goes true is =
            let same : (cell words shard).0 ≡ calls = grind (arith, nat_tests) in (
              gives,
              entry ∷ [],
              state,
              right,
              rw is (one_more same),
              inl (refl, refl),
              rw is (record {
                before = log;
                longer = longer;
                count = sym (ap (λ c. c.0) (count words log counted longer)) ∙ same;
                unused = unused;
                ends = refl;
              }),
            )
        add_goes false is = (
          keeps,
          [],
          state,
          tt,
          rw is (nothing_more words log counted longer),
          inl (refl, refl),
          rw is tt,
        )

      -- an exchange adds the call, or finds that there are more
      pub add_moves : Moves IsCounted shown moved shard (old, (pen, state)) after
          (AddsCall (step shard calls (calls + 1) entry) (old, (pen, state)))
      add_moves words log counted longer away = (
        has_word words log counted longer,
        ap (λ c. c.1) (count words log counted longer),
        add_goes words log counted longer away ((cell words shard).0 == calls) refl,
      )
