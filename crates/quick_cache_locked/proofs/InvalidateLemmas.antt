-- Keys that leave a shard, with what is being loaded for them.
use mathlib.Core.Logic.{◌⊎◌, inl, inr}
use Rattle.std.proofs.Common.{◌≡◌, ℕ, Bool, true, false, not, List, [], ◌∷◌, refl, sym, ap, subst, ◌∙◌}
use Rattle.std.specs.List.{Contains}
use Rattle.std.proofs.lemmas.List.Elements.{Contains-append_left, Contains-append_right, Contains-append_cases}
use Rattle.std.specs.List.Sorted.{IsPermutation}
use Rattle.std.proofs.lemmas.List.Sorted.{Contains-permutation, IsPermutation-refl, IsPermutation-sym, IsPermutation-trans}
use Rattle.quick_cache_model.specs.CacheState.{CacheState, Item, LoadingEntry, SameButOrder, UpToOrder, IsValid}
use Rattle.quick_cache_model.specs.Placeholders.{GivesUpPlaceholder}
use Rattle.quick_cache_shard.specs.Filling.{AwaitsKey}
use Rattle.quick_cache_shard.specs.Predicates.{RetainsAsked, StayAsAnswered}
use Rattle.quick_cache_shard.proofs.PlaceLemmas.{Contains-cons_cases}
use Rattle.quick_cache_locked.specs.Invalidates.{GivesUpAsked, InvalidatesAsked, StaysByKey}
use Rattle.quick_cache_locked.proofs.TicketLemmas.{of_ticket}

-- no said twice
pub not-twice : (answer : Bool) → not (not answer) ≡ answer
not-twice true = refl
not-twice false = refl

module _ {K V : Type 0} (answers : K → Bool → Type 0) where
  -- what stays by answers stays by answers that they imply
  stay-by_key : (asked : K → V → Bool → Type 0)
      → ((key : K) (value : V) (stays : Bool) → asked key value stays → answers key (not stays))
      → (items left : List (Item K V)) → StayAsAnswered asked items left
      → StayAsAnswered (StaysByKey answers) items left
  stay-by_key asked by _ _ StayAsAnswered.ends = StayAsAnswered.ends
  stay-by_key asked by _ _ (StayAsAnswered.stays item items left says stay) =
      StayAsAnswered.stays item items left (by item.key item.value true says)
      (stay-by_key asked by items left stay)
  stay-by_key asked by _ _ (StayAsAnswered.goes item items left says stay) =
      StayAsAnswered.goes item items left (by item.key item.value false says)
      (stay-by_key asked by items left stay)

  -- so a retain by the key begins it
  pub Invalidates-begins : (asked : K → V → Bool → Type 0)
      → ((key : K) (value : V) (stays : Bool) → asked key value stays → answers key (not stays))
      → (old new : CacheState K V) → UpToOrder (RetainsAsked asked old) new
      → UpToOrder (InvalidatesAsked answers old) new
  Invalidates-begins asked by old new step =
      let kept = step.holds in
      record {
        ordered = step.ordered;
        holds = record {
          hot = stay-by_key asked by old.hot step.ordered.hot kept.hot;
          cold = stay-by_key asked by old.cold step.ordered.cold kept.cold;
          still = stay-by_key asked by old.still step.ordered.still kept.still;
          none_comes = λ entry there. subst (λ (s : CacheState K V). Contains s.loading entry)
              kept.same there;
          each = λ entry there. inl (subst (λ (s : CacheState K V). Contains s.loading entry)
              (sym kept.same) there);
          same = kept.same
              ∙ ap (λ entries. record old {
                hot = step.ordered.hot;
                cold = step.ordered.cold;
                still = step.ordered.still;
                loading = entries;
              }) (sym (ap (λ (s : CacheState K V). s.loading) kept.same));
        };
        same = step.same;
      }

  module _ (old mid next new : CacheState K V) (same : next ≡ record mid { loading = next.loading })
      (order : SameButOrder next new)
      (none_comes : (entry : LoadingEntry K) → Contains next.loading entry
      → Contains mid.loading entry)
      (each : (entry : LoadingEntry K) → Contains mid.loading entry
      → Contains next.loading entry ⊎ answers entry.key true) where
    -- some placeholders more are gone
    goes-on : UpToOrder (InvalidatesAsked answers old) mid
        → UpToOrder (InvalidatesAsked answers old) new
    goes-on step =
        let so_far = step.holds in
        record {
          ordered = record step.ordered { loading = new.loading };
          holds = record {
            hot = so_far.hot;
            cold = so_far.cold;
            still = so_far.still;
            none_comes = λ entry there. so_far.none_comes entry
                (Contains-permutation mid.loading step.ordered.loading entry
                (IsPermutation-sym step.ordered.loading mid.loading step.same.loading)
                (none_comes entry (Contains-permutation new.loading next.loading entry
                (IsPermutation-sym next.loading new.loading order.loading) there)));
            each = λ entry there. left entry (so_far.each entry there);
            same = ap (λ (s : CacheState K V). record s { loading = new.loading }) so_far.same;
          };
          same = record {
            still = IsPermutation-trans step.ordered.still mid.still new.still step.same.still
                (subst (λ (s : CacheState K V). IsPermutation s.still new.still) same order.still);
            loading = IsPermutation-refl new.loading;
            same = order.same
                ∙ (ap (λ (s : CacheState K V). record s { still = new.still; loading = new.loading })
                same
                ∙ ap (λ (s : CacheState K V). record s {
                  still = new.still;
                  loading = new.loading;
                }) step.same.same);
          };
        }
      where
        more : (entry : LoadingEntry K) → Contains next.loading entry ⊎ answers entry.key true
            → Contains new.loading entry ⊎ answers entry.key true
        more entry (inl there) =
            inl (Contains-permutation next.loading new.loading entry order.loading there)
        more entry (inr passes) = inr passes

        left : (entry : LoadingEntry K)
            → Contains step.ordered.loading entry ⊎ answers entry.key true
            → Contains new.loading entry ⊎ answers entry.key true
        left entry (inl there) = more entry (each entry
            (Contains-permutation step.ordered.loading mid.loading entry step.same.loading there))
        left entry (inr passes) = inr passes

  -- a placeholder whose key was answered yes is given up
  Invalidates-goes_on : (equal : K → K → Bool) (ticket : ℕ) (key : K)
      (old mid new : CacheState K V) → IsValid equal mid → AwaitsKey ticket mid key
      → answers key true → UpToOrder (GivesUpPlaceholder ticket mid) new
      → UpToOrder (InvalidatesAsked answers old) mid → UpToOrder (InvalidatesAsked answers old) new
  Invalidates-goes_on equal ticket key old mid new valid awaits passes gives so_far =
      by gives.ordered gives.holds gives.same
    where
      by : (next : CacheState K V) → GivesUpPlaceholder ticket mid next → SameButOrder next new
          → UpToOrder (InvalidatesAsked answers old) new
      by _ (GivesUpPlaceholder.was_there before entry after there) order =
          goes-on old mid _ new refl order
          (λ other within. subst (λ entries. Contains entries other) (sym there.split)
          (elim (Contains-append_cases before after other within) [
            | inl first ↦ Contains-append_left before (entry ∷ after) other first
            | inr last ↦ Contains-append_right before (entry ∷ after) other
                (Contains-append_right (entry ∷ []) after other last)
          ]))
          (λ other within. elim (Contains-append_cases before (entry ∷ after) other
          (subst (λ entries. Contains entries other) there.split within)) [
            | inl first ↦ inl (Contains-append_left before after other first)
            | inr rest ↦ elim (Contains-cons_cases entry after other rest) [
              | inl is ↦ inr (subst (λ (e : LoadingEntry K). answers e.key true) is
                  (of_ticket ticket (λ k. answers k true) equal mid valid key awaits passes before
                  entry after there))
              | inr last ↦ inl (Contains-append_right before after other last)
            ]
          ]) so_far
      by _ (GivesUpPlaceholder.was_gone none) order =
          goes-on old mid mid new refl order (λ other within. within) (λ other within. inl within)
          so_far

  -- so the next ticket was asked
  pub Invalidates-turn : (equal : K → K → Bool) (ticket : ℕ) (gave : Bool)
      (old mid new : CacheState K V) → IsValid equal mid → GivesUpAsked answers ticket mid gave new
      → UpToOrder (InvalidatesAsked answers old) mid → UpToOrder (InvalidatesAsked answers old) new
  Invalidates-turn equal ticket _ old mid _ valid (GivesUpAsked.was_gone none) so_far = so_far
  Invalidates-turn equal ticket _ old mid _ valid (GivesUpAsked.stays key awaits says) so_far =
      so_far
  Invalidates-turn equal ticket _ old mid _ valid (GivesUpAsked.goes key new awaits passes gives) so_far =
      Invalidates-goes_on equal ticket key old mid new valid awaits passes gives so_far
