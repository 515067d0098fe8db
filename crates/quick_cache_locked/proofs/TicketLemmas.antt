-- A ticket has one placeholder, so what holds of its key holds of each key that it awaits.
use Rattle.std.proofs.Common.{◌≡◌, ◌≢◌, ℕ, ◌+◌, ◌≤◌, ◌==◌, Bool, false, List, [], ◌∷◌, ◌++◌, sym, ap, subst, arith}
use Rattle.std.specs.List.{AllByRecursion}
use Rattle.std.proofs.lemmas.Bool.{eq-eqb}
use Rattle.quick_cache_model.specs.CacheState.{CacheState, LoadingEntry, IsValid}
use Rattle.quick_cache_model.specs.Placeholders.{IsLoadingTicket, HasNoTicket}
use Rattle.quick_cache_model.proofs.EachElement.{all-append, all-middle}
use Rattle.quick_cache_model.proofs.KeyCounts.{one_if}
use Rattle.quick_cache_model.proofs.Valid.Tickets.{tickets, tickets-cons, tickets-append}
use Rattle.quick_cache_shard.specs.Filling.{AwaitsKey}
use Rattle.quick_cache_locked.specs.Loads.{AwaitsNoEqual}

module _ {K : Type 0} (ticket : ℕ) (P : K → Type 0) where
  -- an entry of the ticket has a key of which this holds
  abbrev pub IsOf : LoadingEntry K → Type 0
  IsOf entry = entry.ticket ≡ ticket → P entry.key

  -- entries none of which has the ticket
  pub no_ticket : (entries : List (LoadingEntry K)) → tickets ticket entries ≡ 0
      → AllByRecursion IsOf entries
  no_ticket [] none = tt
  no_ticket (entry ∷ entries) none = (
    λ same. absurd (omega (
      arith,
      none,
      tickets-cons ticket entry entries,
      ap one_if (eq-eqb entry.ticket ticket same),
    )),
    no_ticket entries (omega (arith, none, tickets-cons ticket entry entries)),
  )

  module _ {V : Type 0} (equal : K → K → Bool) (old : CacheState K V) (valid : IsValid equal old)
    where
      -- each entry of the ticket has such a key, where the one that it awaits is such
      pub each_of_ticket : (own : K) → AwaitsKey ticket old own → P own
          → AllByRecursion IsOf old.loading
      each_of_ticket own awaits holds =
          let before = awaits.before in
          let entry = awaits.entry in
          let after = awaits.after in
          let has : one_if (entry.ticket == ticket) ≡ 1 =
          ap one_if (eq-eqb entry.ticket ticket awaits.there.is_of_ticket) in
          let counts : tickets ticket (before ++ entry ∷ after) ≤ 1 =
          subst (λ entries. tickets ticket entries ≤ 1) awaits.there.split
          (valid.one_entry_a_ticket ticket) in
          let first : tickets ticket before ≡ 0 =
          omega (
            arith,
            counts,
            has,
            tickets-append ticket before (entry ∷ after),
            tickets-cons ticket entry after,
          ) in
          let last : tickets ticket after ≡ 0 =
          omega (
            arith,
            counts,
            has,
            tickets-append ticket before (entry ∷ after),
            tickets-cons ticket entry after,
          ) in
          subst (λ entries. AllByRecursion IsOf entries) (sym awaits.there.split)
          (all-append IsOf before (entry ∷ after) (no_ticket before first)
          (λ same. subst P (sym awaits.of_key) holds, no_ticket after last))

      -- so it holds of the key of any entry of the ticket
      pub of_ticket : (own : K) → AwaitsKey ticket old own → P own
          → (before : List (LoadingEntry K)) (entry : LoadingEntry K) (after : List (LoadingEntry K))
          → IsLoadingTicket ticket old before entry after → P entry.key
      of_ticket own awaits holds before entry after there =
          all-middle IsOf before entry after
          (subst (λ entries. AllByRecursion IsOf entries) there.split
          (each_of_ticket own awaits holds)) there.is_of_ticket

module _ {K V : Type 0} (equal : K → K → Bool) (ticket : ℕ) (key : K) (old : CacheState K V) where
  -- the one key that is awaited is another
  pub awaits_other : IsValid equal old → (own : K) → AwaitsKey ticket old own
      → equal key own ≡ false → AwaitsNoEqual equal ticket key old
  awaits_other valid own awaits other any there =
      subst (λ k. equal key k ≡ false) there.of_key
      (of_ticket ticket (λ k. equal key k ≡ false) equal old valid own awaits other there.before
      there.entry there.after there.there)

  -- no key is awaited
  pub awaits_none : HasNoTicket ticket old → AwaitsNoEqual equal ticket key old
  awaits_none none any there =
      absurd (all-middle (λ (entry : LoadingEntry K). entry.ticket ≡ ticket → ⊥) there.before
      there.entry there.after
      (subst (λ entries. AllByRecursion (λ (entry : LoadingEntry K). entry.ticket ≡ ticket → ⊥)
      entries) there.there.split none) there.there.is_of_ticket)

-- none but that entry has the ticket
pub alone : {K V : Type 0} (ticket : ℕ) (equal : K → K → Bool) (old : CacheState K V)
    → IsValid equal old → (before : List (LoadingEntry K)) (entry : LoadingEntry K)
    (after : List (LoadingEntry K)) → IsLoadingTicket ticket old before entry after
    → AllByRecursion (λ (e : LoadingEntry K). e.ticket ≢ ticket) (before ++ after)
alone {K} ticket equal old valid before entry after there =
    let has : one_if (entry.ticket == ticket) ≡ 1 =
    ap one_if (eq-eqb entry.ticket ticket there.is_of_ticket) in
    let counts : tickets ticket (before ++ entry ∷ after) ≤ 1 =
    subst (λ entries. tickets ticket entries ≤ 1) there.split (valid.one_entry_a_ticket ticket) in
    let both : tickets ticket before + tickets ticket after ≡ 0 =
    omega (
      arith,
      counts,
      has,
      tickets-append ticket before (entry ∷ after),
      tickets-cons ticket entry after,
    ) in
    all-append (λ (e : LoadingEntry K). e.ticket ≢ ticket) before after
    (no_ticket ticket (λ (k : K). ⊥) before (omega (arith, both)))
    (no_ticket ticket (λ (k : K). ⊥) after (omega (arith, both)))
