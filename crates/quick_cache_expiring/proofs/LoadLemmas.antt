-- Loads whose loader gives a value with its end.
use Rattle.std.proofs.Common.{inl, inr, ℕ, Bool, Result, Ok, Err, ap, ◌∙◌}
use Rattle.quick_cache_shard.specs.Shard.{Shard, KeepsTerms, KeepsWork}
use Rattle.quick_cache_model.specs.declared.refusal.Refusal.{Refusal}
use Rattle.quick_cache_model.specs.CacheState.{CacheState}
use Rattle.quick_cache_model.specs.Hooks.{Rules, Hooks}
use Rattle.quick_cache_unsync.specs.Fetches.{Fetches}
use Rattle.quick_cache_unsync.specs.Loads.{AnswersLoad}
use Rattle.quick_cache_unsync.specs.declared.loading.not_loaded.LoadError.{LoadError}

module _ {K V S E : Type 0} (steady : Type 0) (hooks : Hooks K V S) (rules : Rules K V)
    (is_default : S → Type 0) (stands_for : K → Bool) (gives : K → Type 0) (hash : ℕ)
    (given other : Result V E → Type 0) (weaker : (r : Result V E) → given r → other r)
    (old : CacheState K V) where
  -- what is said of a loader's results may be said in weaker words
  pub AnswersLoad-weaker : (answer : Result (Result Bool E) Refusal) (new : CacheState K V)
      → AnswersLoad steady hooks rules is_default stands_for gives hash given old answer new
      → AnswersLoad steady hooks rules is_default stands_for gives hash other old answer new
  AnswersLoad-weaker _ _ (AnswersLoad.found value new looks) = AnswersLoad.found value new looks
  AnswersLoad-weaker _ _ (AnswersLoad.loads there new load) = AnswersLoad.loads there new (record {
    ticket = load.ticket;
    mid = load.mid;
    takes = load.takes;
    fills = record {
      value = load.fills.value;
      loaded = weaker (Ok load.fills.value) load.fills.loaded;
      fills = load.fills.fills;
      resident = load.fills.resident;
    };
  })
  AnswersLoad-weaker _ _ (AnswersLoad.fails error new load) =
      AnswersLoad.fails error new (record {
        failed = weaker (Err error) load.failed;
        step = load.step;
      })
  AnswersLoad-weaker _ _ (AnswersLoad.refused refusal new none) =
      AnswersLoad.refused refusal new none

module _ {K V S E : Type 0} (steady : Type 0) (hooks : Hooks K V S) (rules : Rules K V)
    (is_default : S → Type 0) (is_clone : V → V → Type 0) (is_infallible : V → Type 0)
    (stands_for : K → Bool) (gives : K → Type 0) (hash : ℕ)
    (given other : Result V E → Type 0) (weaker : (r : Result V E) → given r → other r)
    (old : CacheState K V) where
  -- so it is of a load that answers its value
  pub Fetches-weaker : (answer : Result V (LoadError E)) (new : CacheState K V)
      → Fetches steady hooks rules is_default is_clone is_infallible stands_for gives hash given old
      answer new
      → Fetches steady hooks rules is_default is_clone is_infallible stands_for gives hash other old
      answer new
  Fetches-weaker _ _ (Fetches.found value copy new looks cloned) =
      Fetches.found value copy new looks cloned
  Fetches-weaker _ _ (Fetches.not_cloned value new looks uncloned) =
      Fetches.not_cloned value new looks uncloned
  Fetches-weaker _ _ (Fetches.loads (Ok value) ticket mid new takes ends) =
      Fetches.loads (Ok value) ticket mid new takes
      (record {
        loaded = weaker (Ok value) ends.loaded;
        ends = elim ends.ends [
          | inl fills ↦ inl (record {
            copy = fills.copy;
            cloned = fills.cloned;
            fills = fills.fills;
          })
          | inr gives_up ↦ inr (record {
            fallible = gives_up.fallible;
            gives_up = gives_up.gives_up;
          })
        ];
      })
  Fetches-weaker _ _ (Fetches.loads (Err (LoadError.Failed error)) ticket mid new takes ends) =
      Fetches.loads (Err (LoadError.Failed error)) ticket mid new takes
      (record { failed = weaker (Err error) ends.failed; gives_up = ends.gives_up })
  Fetches-weaker _ _ (Fetches.loads (Err (LoadError.Refused refusal)) ticket mid new takes ends) =
      absurd ends
  Fetches-weaker _ _ (Fetches.refused refusal new none) = Fetches.refused refusal new none

-- what is made with the same after one step is so after two
pub KeepsTerms-after : {K V We B L : Type 0} (old mid new : Shard K V We B L) → KeepsWork old mid
    → KeepsTerms mid new → KeepsTerms old new
KeepsTerms-after {K} {V} {We} {B} {L} old mid new first second =
    second ∙ ap (λ (s : Shard K V We B L). record s {
      state = new.state;
      places = new.places;
      room = new.room;
      work = new.work;
    }) first
