-- For the crates above: the placeholder that a call takes has a key that is equal to the call's.
use Rattle.std.proofs.Common.{◌≡◌, ℕ, ◌≤◌, ◌<◌, ◌==◌, Bool, true, List, [], ◌∷◌, ◌++◌, refl, sym, ap, subst, arith}
use Rattle.std.specs.List.{AllByRecursion}
use Rattle.std.proofs.lemmas.Bool.{eq-eqb}
use Rattle.quick_cache_model.specs.declared.queue.Queue.{Queue}
use Rattle.quick_cache_model.specs.CacheState.{CacheState, LoadingEntry, IsValid, UpToOrder}
use Rattle.quick_cache_model.specs.Placeholders.{MakesPlaceholder, MeetsPlaceholder}
use Rattle.quick_cache_model.proofs.EachElement.{all-append, all-permutation, all-weaker}
use Rattle.quick_cache_model.proofs.KeyCounts.{one_if}
use Rattle.quick_cache_model.proofs.Valid.Tickets.{tickets, tickets-cons, tickets-append}
use Rattle.quick_cache_model.specs.Loads.{TakesPlaceholder}

-- the entries of a ticket, if any, have keys that the test passes
abbrev pub IsTicketOf : {K : Type 0} → (K → Bool) → ℕ → LoadingEntry K → Type 0
IsTicketOf test ticket entry = entry.ticket ≡ ticket → test entry.key ≡ true

-- entries none of which has a ticket
no_ticket : {K : Type 0} (test : K → Bool) (ticket : ℕ) (entries : List (LoadingEntry K))
    → tickets ticket entries ≡ 0 → AllByRecursion (IsTicketOf test ticket) entries
no_ticket test ticket [] none = tt
no_ticket test ticket (entry ∷ entries) none = (
  λ same. absurd (omega (
    arith,
    none,
    tickets-cons ticket entry entries,
    ap one_if (eq-eqb entry.ticket ticket same),
  )),
  no_ticket test ticket entries (omega (arith, none, tickets-cons ticket entry entries)),
)

-- the next ticket is new
new_ticket : {K : Type 0} (test : K → Bool) (next : ℕ) (entries : List (LoadingEntry K))
    → AllByRecursion (λ entry. entry.ticket < next) entries
    → AllByRecursion (IsTicketOf test next) entries
new_ticket test next entries given =
    all-weaker (λ entry. entry.ticket < next) (IsTicketOf test next)
    (λ entry below same. absurd (omega (arith, below, same))) entries given

module _ {K V : Type 0} (equal : K → K → Bool) (key : K) (hash : ℕ) (old : CacheState K V) where
  -- a placeholder that is made has an equal key
  pub stands_for : (own : K) (new : CacheState K V) → MakesPlaceholder (equal key) old hash own new
      → equal key own ≡ true
  stands_for own _ (MakesPlaceholder.on_nothing stands nothing) = stands
  stands_for own _ (MakesPlaceholder.on_ghost before after stands there) = stands

  module _ (valid : IsValid equal old) where
    -- the placeholder that is made has an equal key
    made_key : (own : K) (new : CacheState K V) → MakesPlaceholder (equal key) old hash own new
        → AllByRecursion (IsTicketOf (equal key) old.next_ticket) new.loading
    made_key own _ (MakesPlaceholder.on_nothing stands nothing) =
        all-append (IsTicketOf (equal key) old.next_ticket) old.loading
        (record { key = own; queue = Queue.Cold; ticket = old.next_ticket } ∷ [])
        (new_ticket (equal key) old.next_ticket old.loading valid.tickets_given)
        (λ same. stands, tt)
    made_key own _ (MakesPlaceholder.on_ghost before after stands there) =
        all-append (IsTicketOf (equal key) old.next_ticket) old.loading
        (record { key = own; queue = Queue.Hot; ticket = old.next_ticket } ∷ [])
        (new_ticket (equal key) old.next_ticket old.loading valid.tickets_given)
        (λ same. stands, tt)

    -- and so has one that is met
    met_key : (ticket : ℕ) (new : CacheState K V) → MeetsPlaceholder (equal key) old ticket new
        → AllByRecursion (IsTicketOf (equal key) ticket) new.loading
    met_key _ _ (MeetsPlaceholder.is_there before entry after there) =
        let has : one_if (entry.ticket == entry.ticket) ≡ 1 =
        ap one_if (eq-eqb entry.ticket entry.ticket refl) in
        let counts : tickets entry.ticket (before ++ entry ∷ after) ≤ 1 =
        subst (λ entries. tickets entry.ticket entries ≤ 1) there.split
        (valid.one_entry_a_ticket entry.ticket) in
        let first : tickets entry.ticket before ≡ 0 =
        omega (
          arith,
          counts,
          has,
          tickets-append entry.ticket before (entry ∷ after),
          tickets-cons entry.ticket entry after,
        ) in
        let last : tickets entry.ticket after ≡ 0 =
        omega (
          arith,
          counts,
          has,
          tickets-append entry.ticket before (entry ∷ after),
          tickets-cons entry.ticket entry after,
        ) in
        subst (λ entries. AllByRecursion (IsTicketOf (equal key) entry.ticket) entries)
        (sym there.split)
        (all-append (IsTicketOf (equal key) entry.ticket) before (entry ∷ after)
        (no_ticket (equal key) entry.ticket before first)
        (λ same. there.passes, no_ticket (equal key) entry.ticket after last))

    taken_key : (ticket : ℕ) (new : CacheState K V)
        → TakesPlaceholder (equal key) hash old ticket new
        → AllByRecursion (IsTicketOf (equal key) ticket) new.loading
    taken_key _ new (TakesPlaceholder.makes own _ provided makes) = made_key own new makes
    taken_key ticket new (TakesPlaceholder.meets _ _ meets) = met_key ticket new meets

    -- so it is in whatever order the call leaves placeholders
    pub taken_keys : (ticket : ℕ) (mid : CacheState K V)
        → UpToOrder (TakesPlaceholder (equal key) hash old ticket) mid
        → AllByRecursion (IsTicketOf (equal key) ticket) mid.loading
    taken_keys ticket mid takes =
        all-permutation (IsTicketOf (equal key) ticket) takes.ordered.loading mid.loading
        takes.same.loading (taken_key ticket takes.ordered takes.holds)
