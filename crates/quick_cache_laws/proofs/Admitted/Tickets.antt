-- In a valid state a ticket has one placeholder.
use Rattle.std.proofs.Common.{◌≡◌, ℕ, ◌+◌, ◌≤◌, ◌==◌, Bool, true, false, cond, List, [], ◌∷◌, ◌++◌, refl, sym, ap, subst, ◌∙◌, arith}
use Rattle.std.specs.List.{count_by}
use Rattle.std.proofs.lemmas.List.Sums.{sum_by-append, sum_by-cons}
use Rattle.std.proofs.lemmas.Bool.{eqb-false}
use Rattle.quick_cache_model.specs.CacheState.{CacheState, LoadingEntry, IsValid}
use Rattle.quick_cache_model.specs.Placeholders.{IsLoadingTicket}
use Rattle.quick_cache_model.proofs.KeyCounts.{one_if}
use Rattle.quick_cache_laws.proofs.Eviction.OneVictim.{first_or, rest_of}

module _ {X : Type 0} (test : X → Bool) where
  -- the first element counts where it passes
  count-cons : (x : X) (xs : List X) → count_by test (x ∷ xs) ≡ one_if (test x) + count_by test xs
  count-cons x xs = sum_by-cons (λ y. cond (test y) 1 0) x xs

  -- an element that passes counts
  count-some : (xs : List X) (x : X) (ys : List X) → test x ≡ true
      → 1 ≤ count_by test (xs ++ x ∷ ys)
  count-some xs x ys passes = omega (
    arith,
    sum_by-append (λ y. cond (test y) 1 0) xs (x ∷ ys),
    count-cons x ys,
    ap one_if passes,
  )

  -- where at most one element passes, two that pass are one
  pub the_one_that_passes_is_one : (xs : List X) (x : X) (ys us : List X) (u : X) (vs : List X)
      → xs ++ x ∷ ys ≡ us ++ u ∷ vs → test x ≡ true → test u ≡ true
      → count_by test (xs ++ x ∷ ys) ≤ 1 → x ≡ u
  the_one_that_passes_is_one [] x ys [] u vs same passes passes' one = ap (first_or x) same
  the_one_that_passes_is_one [] x ys (w ∷ us) u vs same passes passes' one =
      absurd (omega (
        arith,
        one,
        count-cons x ys,
        ap one_if passes,
        ap (count_by test) (ap rest_of same),
        count-some us u vs passes',
      ))
  the_one_that_passes_is_one (w ∷ xs) x ys [] u vs same passes passes' one =
      absurd (omega (
        arith,
        one,
        count-cons w (xs ++ x ∷ ys),
        ap one_if (ap test (ap (first_or w) same) ∙ passes'),
        count-some xs x ys passes,
      ))
  the_one_that_passes_is_one (w ∷ xs) x ys (w' ∷ us) u vs same passes passes' one =
      the_one_that_passes_is_one xs x ys us u vs (ap rest_of same) passes passes'
      (omega (arith, one, count-cons w (xs ++ x ∷ ys)))

-- the placeholder of a ticket is one
pub one_of_ticket : {K V : Type 0} (equal : K → K → Bool) (ticket : ℕ) (state : CacheState K V)
    (before : List (LoadingEntry K)) (entry : LoadingEntry K) (after : List (LoadingEntry K))
    (before' : List (LoadingEntry K)) (entry' : LoadingEntry K) (after' : List (LoadingEntry K))
    → IsValid equal state → IsLoadingTicket ticket state before entry after
    → IsLoadingTicket ticket state before' entry' after' → entry ≡ entry'
one_of_ticket {K} equal ticket state before entry after before' entry' after' valid there there' =
    the_one_that_passes_is_one (λ e. e.ticket == ticket) before entry after before' entry' after'
    (sym there.split ∙ there'.split) (is entry there.is_of_ticket) (is entry' there'.is_of_ticket)
    (subst (λ entries. count_by (λ e. e.ticket == ticket) entries ≤ 1) there.split
    (valid.one_entry_a_ticket ticket))
  where
    is : (e : LoadingEntry K) → e.ticket ≡ ticket → (e.ticket == ticket) ≡ true
    is e same = go (e.ticket == ticket) refl
      where
        go : (b : Bool) → (e.ticket == ticket) ≡ b → (e.ticket == ticket) ≡ true
        go true was = was
        go false was = absurd (eqb-false e.ticket ticket was same)
