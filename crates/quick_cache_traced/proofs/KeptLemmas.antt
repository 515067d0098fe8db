-- What the lock keeps true stays so.
use Rattle.std.proofs.Common.{◌≡◌, ◌+◌, ℕ, Bool, List, [], ◌∷◌, ◌++◌, length, sym, ap, subst, ◌∙◌, arith}
use Rattle.std.proofs.lemmas.List.{length-append}
use Rattle.quick_cache_options.specs.Options.{Settings}
use Rattle.quick_cache_model.specs.CacheState.{CacheState}
use Rattle.quick_cache_shard.specs.Shard.{Shard, Work}
use Rattle.quick_cache_shard.specs.Steps.{Goes, steady_in, hooks_in, rules_in}
use Rattle.quick_cache_unsync.specs.Touches.{no_touches}
use Rattle.quick_cache_traced.specs.Trace.{Entry, IsTraced, IsTrace}
use Rattle.quick_cache_traced.specs.Recorded.{Recorded, IsKept, Shows, empty_of}
use Rattle.quick_cache_traced.proofs.TraceLemmas.{IsTrace-push, IsTrace-shows, ShowsRun-exact}

module _ {K V We B L S M : Type 0} (goes : Goes K V We B L S) (is_default : S → Type 0)
    (equal : K → K → Bool) (shows_key : K → K → Type 0) (shows : V → V → Type 0) where
  -- what a trace is of a cache
  abbrev Leads : CacheState K V → List (Entry K V M) → Shard K V We B L → CacheState K V → Type 0
  Leads first entries cache state =
      IsTrace (rules_in goes no_touches cache) equal shows_key shows
      (hooks_in goes cache) is_default first entries state

  abbrev Kept : Recorded K V We B L M → Type 0
  Kept recorded = IsKept goes is_default equal shows_key shows recorded

  -- before the first call
  pub begins : (cache : Shard K V We B L) (options : Settings) (entries : List (Entry K V M))
      (calls : ℕ) → steady_in goes cache → cache.state ≡ empty_of options → entries ≡ []
      → calls ≡ 0
      → IsKept goes is_default equal shows_key shows (record {
        cache = cache;
        options = options;
        entries = entries;
        calls = calls;
      })
  begins cache options entries calls steady empty none nought = record {
    counted = nought ∙ ap length (sym none);
    steady = steady;
    trace = subst (λ (x : List (Entry K V M) × CacheState K V). Leads (empty_of options) x.0 cache
        x.1) (λ i. (sym none i, sym empty i)) IsTrace.begins;
  }

  module _ (old : Recorded K V We B L M) (kept : IsKept goes is_default
      equal shows_key shows old) (cache : Shard K V We B L) (state : CacheState K V)
      (places : List (ℕ × K)) (room : ℕ) (work : Work)
      (same : cache ≡ record old.cache {
        state = state;
        places = places;
        room = room;
        work = work;
      }) where
    -- one call more
    pub goes_on : (entries : List (Entry K V M)) (calls : ℕ) (entry : Entry K V M)
        → entries ≡ old.entries ++ entry ∷ [] → calls ≡ old.calls + 1
        → IsTraced (rules_in goes no_touches old.cache) equal shows_key
        shows (hooks_in goes old.cache) is_default old.cache.state entry state
        → IsKept goes is_default equal shows_key shows (record old {
          cache = cache;
          entries = entries;
          calls = calls;
        })
    goes_on entries calls entry added counted step = record {
      counted = omega (
        arith,
        counted,
        kept.counted,
        ap length added,
        length-append old.entries (entry ∷ []),
      );
      steady = subst (λ (x : Shard K V We B L). steady_in goes x) (sym same) kept.steady;
      trace = subst (λ (x : Shard K V We B L). Leads (empty_of old.options) entries x x.state)
          (sym same)
          (IsTrace-push (rules_in goes no_touches old.cache) equal
          shows_key shows (empty_of old.options) (hooks_in goes old.cache) is_default
          old.cache.state state old.entries entries entry added kept.trace step);
    }

    -- no call, but for room
    pub stays : state ≡ old.cache.state
        → IsKept goes is_default equal shows_key shows
        (record old { cache = cache })
    stays unchanged = record {
      counted = kept.counted;
      steady = subst (λ (x : Shard K V We B L). steady_in goes x) (sym same) kept.steady;
      trace = subst (λ (x : Shard K V We B L). Leads (empty_of old.options) old.entries x x.state)
          (sym same)
          (subst (λ s. Leads (empty_of old.options) old.entries old.cache s) (sym unchanged)
          kept.trace);
    }

  -- what its list shows
  pub shows-all : (recorded : Recorded K V We B L M) (entries : List (Entry K V M))
      → entries ≡ recorded.entries
      → IsKept goes is_default equal shows_key shows recorded
      → Shows goes is_default equal shows_key shows recorded entries
  shows-all recorded entries same kept =
      let rules = rules_in goes no_touches recorded.cache in
      let trace = subst (λ list. Leads (empty_of recorded.options) list recorded.cache
      recorded.cache.state) (sym same) kept.trace in
      let run = IsTrace-shows rules equal shows_key shows (empty_of recorded.options)
      (hooks_in goes recorded.cache) is_default entries recorded.cache.state trace in
      record {
        same = same;
        kept = kept;
        shows_run = run;
        is_run = λ exact_key exact. ShowsRun-exact rules equal shows_key shows
            (empty_of recorded.options) entries recorded.cache.state exact_key exact run;
      }
