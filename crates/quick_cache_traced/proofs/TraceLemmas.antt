-- A list of calls grows by one, and what it shows of the run that it is.
use Rattle.std.proofs.Common.{◌≡◌, Bool, List, [], ◌∷◌, ◌++◌, map, refl, sym, ap, subst}
use Rattle.quick_cache_model.specs.CacheState.{CacheState}
use Rattle.quick_cache_model.specs.Hooks.{Rules, Hooks}
use Rattle.quick_cache_model.specs.declared.calls.call.Call.{Call}
use Rattle.quick_cache_model.specs.CacheRun.{CacheRun}
use Rattle.quick_cache_model.proofs.RunLemmas.{CacheRun-append}
use Rattle.quick_cache_traced.specs.declared.call.TraceCall.{TraceCall}
use Rattle.quick_cache_traced.specs.Trace.{Entry, call_of, calls_in, replies_in, asks_none, ShowsCall, AreShown, IsTraced, IsTrace}
use Rattle.quick_cache_traced.specs.Trace.{ShowsRun, IsRunItself}

-- a list with one more at its end, item by item
map-push : {X Y : Type 0} (f : X → Y) (xs : List X) (x : X)
    → map f (xs ++ x ∷ []) ≡ map f xs ++ f x ∷ []
map-push f [] x = refl
map-push f (y ∷ ys) x = ap (λ rest. f y ∷ rest) (map-push f ys x)

module _ {K V F : Type 0} (shows_key : K → K → Type 0) (shows : V → V → Type 0) where
  AreShown-push : (calls : List (Call K V F)) (entries : List (TraceCall K V)) (call : Call K V F)
      (shown : TraceCall K V) → AreShown shows_key shows calls entries
      → ShowsCall shows_key shows call shown
      → AreShown shows_key shows (calls ++ call ∷ []) (entries ++ shown ∷ [])
  AreShown-push [] [] call shown are is = (is, tt)
  AreShown-push [] (y ∷ ys) call shown are is = absurd are
  AreShown-push (x ∷ xs) [] call shown are is = absurd are
  AreShown-push (x ∷ xs) (y ∷ ys) call shown are is =
      (are.0, AreShown-push xs ys call shown are.1 is)

  module _ (exact_key : (old new : K) → shows_key old new → new ≡ old)
      (exact : (old new : V) → shows old new → new ≡ old) where
    -- what is shown by the very thing
    ShowsCall-exact : (call : Call K V F) (entry : TraceCall K V)
        → ShowsCall shows_key shows call entry → call ≡ call_of entry
    ShowsCall-exact call entry (ShowsCall.inserted key shown value copy is_key is_value) =
        λ i. Call.Insert (sym (exact_key key shown is_key) i) (sym (exact value copy is_value) i)
    ShowsCall-exact call entry (ShowsCall.got key shown is_key) =
        λ i. Call.Get (sym (exact_key key shown is_key) i)
    ShowsCall-exact call entry (ShowsCall.removed key shown is_key) =
        λ i. Call.Remove (sym (exact_key key shown is_key) i)

    AreShown-exact : (calls : List (Call K V F)) (entries : List (TraceCall K V))
        → AreShown shows_key shows calls entries → calls ≡ map call_of entries
    AreShown-exact [] [] are = refl
    AreShown-exact [] (y ∷ ys) are = absurd are
    AreShown-exact (x ∷ xs) [] are = absurd are
    AreShown-exact (x ∷ xs) (y ∷ ys) are =
        λ i. ShowsCall-exact x y are.0 i ∷ AreShown-exact xs ys are.1 i

module _ {K V M : Type 0} (rules : Rules K V) (equal : K → K → Bool)
    (shows_key : K → K → Type 0) (shows : V → V → Type 0) (first : CacheState K V) where
  module _ {S : Type 0} (hooks : Hooks K V S) (is_default : S → Type 0) where
    -- one call more
    pub IsTrace-push : (mid new : CacheState K V) (entries after : List (Entry K V M))
        (entry : Entry K V M) → after ≡ entries ++ entry ∷ []
        → IsTrace rules equal shows_key shows hooks is_default first entries mid
        → IsTraced rules equal shows_key shows hooks is_default mid entry new
        → IsTrace rules equal shows_key shows hooks is_default first after new
    IsTrace-push mid new entries after entry is trace step =
        subst (λ list. IsTrace rules equal shows_key shows hooks is_default first list new) (sym is)
        (IsTrace.goes_on entries mid entry new trace step)

    -- the run that it shows
    pub IsTrace-shows : (entries : List (Entry K V M)) (new : CacheState K V)
        → IsTrace rules equal shows_key shows hooks is_default first entries new
        → ShowsRun rules equal shows_key shows first entries new
    IsTrace-shows entries new IsTrace.begins = record {
      calls = [];
      hook_calls = [];
      run = CacheRun.ends first;
      shown = tt;
    }
    IsTrace-shows all new (IsTrace.goes_on entries mid entry last trace one) =
        let before = IsTrace-shows entries mid trace in
        record {
          calls = before.calls ++ one.call ∷ [];
          hook_calls = before.hook_calls ++ one.calls;
          run = subst (λ replies. CacheRun rules equal shows_key shows asks_none first
              (before.calls ++ one.call ∷ []) replies (before.hook_calls ++ one.calls) new)
              (sym (map-push (λ (e : Entry K V M). e.1) entries entry))
              (CacheRun-append rules equal shows_key shows asks_none new one.call entry.1 one.calls
              before.run one.step);
          shown = subst (λ calls. AreShown shows_key shows (before.calls ++ one.call ∷ []) calls)
              (sym (map-push (λ (e : Entry K V M). e.0) entries entry))
              (AreShown-push shows_key shows before.calls (calls_in entries) one.call entry.0
              before.shown one.shown);
        }

  -- where a clone is the very thing, it is that run
  pub ShowsRun-exact : (entries : List (Entry K V M)) (new : CacheState K V)
      → ((old new : K) → shows_key old new → new ≡ old)
      → ((old new : V) → shows old new → new ≡ old)
      → ShowsRun rules equal shows_key shows first entries new
      → IsRunItself rules equal shows_key shows first entries new
  ShowsRun-exact entries new exact_key exact run = record {
    hook_calls = run.hook_calls;
    run = subst (λ calls. CacheRun rules equal shows_key shows asks_none first calls
        (replies_in entries) run.hook_calls new)
        (AreShown-exact shows_key shows exact_key exact run.calls (calls_in entries) run.shown)
        run.run;
  }
