-- Tickets of loading entries: they differ, and each is below the next one.
use Rattle.std.proofs.Common.{◌≡◌, ℕ, ◌+◌, ◌<◌, ◌≤◌, ◌==◌, Bool, true, false, cond, List, [], ◌∷◌, ◌++◌, refl, ap, ◌∙◌, arith}
use Rattle.std.specs.List.{AllByRecursion, count_by}
use Rattle.std.proofs.lemmas.List.Sums.{sum_by-append, sum_by-cons}
use Rattle.std.proofs.lemmas.Bool.{eqb-true}
use Rattle.quick_cache_model.specs.CacheState.{LoadingEntry}
use Rattle.quick_cache_model.proofs.EachElement.{all-append, all-without, all-weaker}
use Rattle.quick_cache_model.proofs.KeyCounts.{one_if}

module _ {K : Type 0} where
  -- how many entries have this ticket
  abbrev pub tickets : ℕ → List (LoadingEntry K) → ℕ
  tickets n entries = count_by (λ entry. entry.ticket == n) entries

  -- each ticket has one entry, and is below the next one
  pub record AreTickets (next : ℕ) (loading : List (LoadingEntry K)) : Type 0 where
    pub one_entry : (n : ℕ) → tickets n loading ≤ 1
    pub given : AllByRecursion (λ entry. entry.ticket < next) loading

  -- the first entry counts where it has the ticket
  pub tickets-cons : (n : ℕ) (entry : LoadingEntry K) (entries : List (LoadingEntry K))
      → tickets n (entry ∷ entries) ≡ one_if (entry.ticket == n) + tickets n entries
  tickets-cons n entry entries = sum_by-cons (λ (x : LoadingEntry K). cond (x.ticket == n) 1 0)
      entry entries

  -- two lists, one behind the other
  pub tickets-append : (n : ℕ) (xs ys : List (LoadingEntry K))
      → tickets n (xs ++ ys) ≡ tickets n xs + tickets n ys
  tickets-append n xs ys = sum_by-append (λ (x : LoadingEntry K). cond (x.ticket == n) 1 0) xs ys

  -- the next ticket is nobody's
  pub tickets-next : (n : ℕ) (entries : List (LoadingEntry K))
      → AllByRecursion (λ entry. entry.ticket < n) entries → tickets n entries ≡ 0
  tickets-next n [] given = refl
  tickets-next n (x ∷ xs) given = omega (
    arith,
    tickets-cons n x xs,
    tickets-next n xs given.1,
    ap
        one_if (differs (x.ticket == n) refl),
  )
    where
      differs : (b : Bool) → (x.ticket == n) ≡ b → (x.ticket == n) ≡ false
      differs true is = absurd (omega (arith, given.0, eqb-true x.ticket n is))
      differs false is = is

  -- a placeholder that goes takes its ticket with it
  pub AreTickets-without : (next : ℕ) (before : List (LoadingEntry K)) (entry : LoadingEntry K)
      (after : List (LoadingEntry K))
      → AreTickets next (before ++ entry ∷ after) → AreTickets next (before ++ after)
  AreTickets-without next before entry after were = record {
    one_entry = λ n. let was = were.one_entry n in
        omega (
          arith,
          was,
          tickets-append n before
              (entry ∷ after),
          tickets-cons n entry after,
          tickets-append n before after,
        );
    given = all-without (λ x. x.ticket < next) before entry after were.given;
  }

  -- one that is made takes the next ticket
  pub AreTickets-push : (next : ℕ) (loading : List (LoadingEntry K)) (entry : LoadingEntry K)
      → entry.ticket ≡ next
      → AreTickets next loading → AreTickets (next + 1) (loading ++ entry ∷ [])
  AreTickets-push next loading entry is were = record {
    one_entry = single;
    given = all-append (λ x. x.ticket < next + 1) loading (entry ∷ [])
        (all-weaker (λ x. x.ticket < next) (λ x. x.ticket < next + 1)
        (λ x less. omega (arith, less)) loading were.given)
        (omega (arith, is), tt);
  }
    where
      single : (n : ℕ) → tickets n (loading ++ entry ∷ []) ≤ 1
      single n = go (entry.ticket == n) refl
        where
          go : (b : Bool) → (entry.ticket == n) ≡ b → tickets n (loading ++ entry ∷ []) ≤ 1
          go true same =
              let next_is : n ≡ next = omega (arith, is, eqb-true entry.ticket n same) in
              let none : tickets n loading ≡ 0 =
              ap (λ m. tickets m loading) next_is ∙ tickets-next next loading were.given in
              omega (
                arith,
                none,
                tickets-append n loading
                    (entry ∷ []),
                tickets-cons n entry [],
                ap one_if same,
              )
          go false same =
              omega (
                arith,
                were.one_entry n,
                tickets-append n loading
                    (entry ∷ []),
                tickets-cons n entry [],
                ap one_if same,
              )
