-- Values that are looked up shard by shard.
use mathlib.Core.Logic.{◌⊎◌, inl, inr}
use Rattle.std.proofs.Common.{◌≡◌, ◌<◌, ◌+◌, ℕ, Bool, List, Option, Ok, None, length, slice_index, slice_index_or, slice_set, ap, sym}
use Rattle.std.proofs.Common.{subst, ◌∙◌, arith}
use Rattle.std.proofs.lemmas.Bool.{cases_eq}
use Rattle.std.proofs.lemmas.List.{get_or_default, get_or-set_same}
use Rattle.quick_cache_model.specs.declared.terms.lifecycle.Lifecycle as lifecycle
use Rattle.quick_cache_shard.specs.Shard.{Shard}
use Rattle.quick_cache_locked.specs.Locked.{FromSome}
use Rattle.quick_cache_sync.specs.Many.{IsGot, KeepsOthers, ShowsThose}

module _ {Q K V L S : Type 0} (We B : Type 0) (life : lifecycle.Ghosts L K V S)
    (equal : K → K → Bool) (is_clone : V → V → Type 0) (stands_for : Q → K → Bool)
    (queries : List Q) (place_of : Q → ℕ) where
  -- what some shard shows under the queries that have the place of this one
  abbrev pub Shows : (values : List (Option V)) → Q → Type 0
  Shows values query = FromSome life equal (λ (shard : Shard K V We B L).
      ShowsThose life equal is_clone stands_for queries values
      (λ _ other. place_of other ≡ place_of query) shard)

  -- one place more was looked up
  pub Shows-next : (places : List ℕ)
      → ((index : ℕ) (query : Q) → index < length queries
      → query ≡ slice_index_or queries index query → slice_index places index ≡ place_of query)
      → (old new : List (Option V)) (place index : ℕ) (query : Q)
      → index < length queries → query ≡ slice_index_or queries index query
      → KeepsOthers places place old new
      → ((index : ℕ) (query : Q) → index < length queries
      → query ≡ slice_index_or queries index query → slice_index places index ≡ place
      → FromSome life equal (λ (shard : Shard K V We B L).
      ShowsThose life equal is_clone stands_for queries new
      (λ index _. slice_index places index ≡ place) shard))
      → (place_of query < place → Shows old query)
      → place_of query < place + 1 → Shows new query
  Shows-next places known old new place index query within is others those before below =
      by (cases_eq (place_of query) place)
    where
      by : (place_of query ≡ place) ⊎ (place_of query ≡ place → ⊥) → Shows new query
      by (inl same) =
          let some = those index query within is (known index query within is ∙ same) in
          record {
            shard = some.shard;
            kept = some.kept;
            holds = λ i other less at as_query. some.holds i other less at
                (known i other less at ∙ (as_query ∙ same));
          }
      by (inr differ) =
          let some = before (omega (arith, below, differ)) in
          record {
            shard = some.shard;
            kept = some.kept;
            holds = λ i other less at as_query.
                subst (λ value. IsGot life equal is_clone stands_for other some.shard
                (Ok value))
                (sym (others i (λ here. differ (sym as_query
                ∙ (sym (known i other less at) ∙ here)))))
                (some.holds i other less at as_query);
          }

module _ {Q K V We B L S : Type 0} (life : lifecycle.Ghosts L K V S) (equal : K → K → Bool)
    (is_clone : V → V → Type 0) (stands_for : Q → K → Bool) (shard : Shard K V We B L)
    (queries : List Q) (old new : List (Option V)) (index : ℕ) (inside : index < length queries) where
  -- what a query at the index was answered stands there
  pub IsGot-put : (asked query : Q) (found : Option V) → length old ≡ length queries
      → asked ≡ slice_index_or queries index asked → query ≡ slice_index_or queries index query
      → new ≡ slice_set old index found
      → IsGot life equal is_clone stands_for asked shard (Ok found)
      → IsGot life equal is_clone stands_for query shard (Ok (slice_index_or new index None))
  IsGot-put asked query found as_many first second puts got =
      subst (λ (p : Q × Option V). IsGot life equal is_clone stands_for p.0 shard (Ok p.1))
      (λ i. (
        (first ∙ (get_or_default queries index asked query inside ∙ sym second)) i,
        (sym (get_or-set_same old index found None (omega (arith, inside, as_many)))
            ∙ ap (λ list. slice_index_or list index None) (sym puts)) i,
      )) got

  -- one query more was looked up
  pub next-got : (those : ℕ → Type 0) → ((other : ℕ) → (other ≡ index → ⊥)
      → slice_index_or new other None ≡ slice_index_or old other None)
      → ((query : Q) → query ≡ slice_index_or queries index query → those index
      → IsGot life equal is_clone stands_for query shard (Ok (slice_index_or new index None)))
      → (other : ℕ) (query : Q) → other < index + 1 → query ≡ slice_index_or queries other query
      → those other
      → (other < index
      → IsGot life equal is_clone stands_for query shard (Ok (slice_index_or old other None)))
      → IsGot life equal is_clone stands_for query shard (Ok (slice_index_or new other None))
  next-got those elsewhere here other query within is asked before = by (cases_eq other index)
    where
      by : (other ≡ index) ⊎ (other ≡ index → ⊥)
          → IsGot life equal is_clone stands_for query shard (Ok (slice_index_or new other None))
      by (inl same) =
          subst (λ at. IsGot life equal is_clone stands_for query shard (Ok (slice_index_or new at None)))
          (sym same) (here query (is ∙ ap (λ at. slice_index_or queries at query) same)
          (subst those same asked))
      by (inr differ) =
          subst (λ value. IsGot life equal is_clone stands_for query shard (Ok value))
          (sym (elsewhere other differ)) (before (omega (arith, within, differ)))

-- the values of the queries that were not asked are as they were
pub next-others : {V : Type 0} (places : List ℕ) (place index : ℕ) (old new : List (Option V))
    → ((other : ℕ) → (other ≡ index → ⊥)
    → slice_index_or new other None ≡ slice_index_or old other None)
    → ((slice_index places index ≡ place → ⊥) → new ≡ old) → KeepsOthers places place old new
next-others {V} places place index old new elsewhere unasked other off = by (cases_eq other index)
  where
    by : (other ≡ index) ⊎ (other ≡ index → ⊥)
        → slice_index_or new other None ≡ slice_index_or old other None
    by (inl same) = ap (λ (list : List (Option V)). slice_index_or list other None)
        (unasked (λ here. off (ap (slice_index places) same ∙ here)))
    by (inr differ) = elsewhere other differ
