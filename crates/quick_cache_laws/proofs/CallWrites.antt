-- What a fill by a call can count on.
use Rattle.std.proofs.Common.{◌≡◌, ℕ, ◌<◌, ◌≤◌, Bool, true, false, List, None, refl, sym, ap, subst, ◌∙◌}
use Rattle.std.specs.Cmp.{IsEquivalence}
use Rattle.std.specs.List.{AllByRecursion}
use Rattle.quick_cache_model.specs.Admission.{PassesCheck}
use Rattle.quick_cache_model.specs.CacheState.{CacheState, LoadingEntry, IsValid, UpToOrder}
use Rattle.quick_cache_model.specs.Hooks.{Rules, HookCall}
use Rattle.quick_cache_model.specs.Placeholders.{MakesPlaceholder, MeetsPlaceholder, FillsPlaceholder, IsLoadingTicket}
use Rattle.quick_cache_model.proofs.EachElement.{all-middle}
use Rattle.quick_cache_laws.specs.Admitted.{unpinned_weight}
use Rattle.quick_cache_laws.specs.Steps.{Steps}
use Rattle.quick_cache_model.specs.Loads.{TakesPlaceholder, Loads}
use Rattle.quick_cache_model.proofs.TakenKeys.{IsTicketOf, taken_keys}
use Rattle.quick_cache_laws.proofs.CallSteps.{taken}

-- two keys that are equal to a third are equal
pub equal_both : {K : Type 0} (equal : K → K → Bool) (laws : IsEquivalence equal) (key : K)
    (first second : K) → equal key first ≡ true → equal key second ≡ true
    → equal first second ≡ true
equal_both equal laws key first second one two = sym (laws.congr key first second one) ∙ two

module _ {K V : Type 0} (rules : Rules K V) where
  -- the placeholder of a fill
  pub record IsFillOf (ticket : ℕ) (state : CacheState K V) : Type 0 where
    pub before : List (LoadingEntry K)
    pub entry : LoadingEntry K
    pub after : List (LoadingEntry K)
    pub there : IsLoadingTicket ticket state before entry after

  entry_of : (ticket : ℕ) (old : CacheState K V) (value : V) (calls : List (HookCall K V))
      (new : CacheState K V) → FillsPlaceholder ticket old rules false value calls None new
      → IsFillOf ticket old
  entry_of ticket old value _ _ (FillsPlaceholder.fills before entry after left first rest new
      there checks makes) =
      record { before = before; entry = entry; after = after; there = there }
  entry_of ticket old value _ _ (FillsPlaceholder.too_heavy before entry after left first there
      checks) = record { before = before; entry = entry; after = after; there = there }

  -- a placeholder that is taken leaves the target
  made_target : (stands_for : K → Bool) (hash : ℕ) (own : K) (old new : CacheState K V)
      → MakesPlaceholder stands_for old hash own new → new.hot_target ≡ old.hot_target
  made_target stands_for hash own old _ (MakesPlaceholder.on_nothing stands nothing) = refl
  made_target stands_for hash own old _
      (MakesPlaceholder.on_ghost before after stands there) = refl

  met_target : (stands_for : K → Bool) (ticket : ℕ) (old new : CacheState K V)
      → MeetsPlaceholder stands_for old ticket new → new.hot_target ≡ old.hot_target
  met_target stands_for _ old _ (MeetsPlaceholder.is_there before entry after there) = refl

  taken_target : (stands_for : K → Bool) (hash ticket : ℕ) (old new : CacheState K V)
      → TakesPlaceholder stands_for hash old ticket new → new.hot_target ≡ old.hot_target
  taken_target stands_for hash _ old new (TakesPlaceholder.makes own _ provided makes) =
      made_target stands_for hash own old new makes
  taken_target stands_for hash ticket old new (TakesPlaceholder.meets _ _ meets) =
      met_target stands_for ticket old new meets

  -- what fills keep within the capacity, they keep so by a call
  pub Loads-within : (equal : K → K → Bool) (laws : IsEquivalence equal)
      → ((ticket : ℕ) (marked : Bool) (old new : CacheState K V) (value left : V)
      (calls : List (HookCall K V)) (before : List (LoadingEntry K)) (entry : LoadingEntry K)
      (after : List (LoadingEntry K)) → IsValid equal old
      → IsLoadingTicket ticket old before entry after
      → UpToOrder (λ state. FillsPlaceholder ticket old rules marked value calls None state) new
      → PassesCheck rules old.hot_target entry.key value calls left
      → 0 < rules.weight entry.key left → unpinned_weight rules new ≤ new.capacity)
      → ((old new : CacheState K V) → Steps equal rules old new → IsValid equal old
      → IsValid equal new)
      → (key : K) (hash : ℕ) (old : CacheState K V) (value : V) (calls : List (HookCall K V))
      (new : CacheState K V) → IsValid equal old
      → Loads rules (equal key) hash old value calls new
      → (own : K) × (equal key own ≡ true)
      × ((left : V) → PassesCheck rules old.hot_target own value calls left
      → 0 < rules.weight own left → unpinned_weight rules new ≤ new.capacity)
  Loads-within equal laws law stays_valid key hash old value calls new valid loads =
      let mid_valid = stays_valid old loads.mid
      (taken equal laws rules old key hash loads.ticket loads.mid loads.takes) valid in
      let h = entry_of loads.ticket loads.mid value calls loads.fills.ordered loads.fills.holds in
      let target : loads.mid.hot_target ≡ old.hot_target =
      ap (λ (s : CacheState K V). s.hot_target) loads.takes.same.same
      ∙ taken_target (equal key) hash loads.ticket old loads.takes.ordered
      loads.takes.holds in (
        h.entry.key,
        all-middle (IsTicketOf (equal key) loads.ticket) h.before h.entry h.after
            (subst (λ entries. AllByRecursion (IsTicketOf (equal key) loads.ticket) entries)
            h.there.split (taken_keys equal key hash old valid loads.ticket loads.mid loads.takes))
            h.there.is_of_ticket,
        λ left passed weighs. law loads.ticket false loads.mid new value left calls h.before
            h.entry h.after mid_valid h.there loads.fills
            (subst (λ n. PassesCheck rules n h.entry.key value calls left) (sym target) passed)
            weighs,
      )
