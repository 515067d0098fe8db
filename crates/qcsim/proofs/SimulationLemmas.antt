-- Runs of the calls that a trace asks: a single key, and one run behind another.
use Rattle.std.proofs.Common.{◌≡◌, ℕ, ◌+◌, Bool, List, [], ◌∷◌, ◌++◌, Some, None, refl, sym, subst, append_assoc, append-nil, arith, Option}
use Rattle.std.proofs.Common.{is_some, option_copied, true, false, true≢false}
use denote.Ref.{Bor}
use Rattle.quick_cache_model.specs.CacheState.{CacheState, UpToOrder}
use Rattle.quick_cache_model.specs.Hooks.{Rules, HookCall}
use Rattle.quick_cache_model.specs.Lookups.{LooksUp}
use Rattle.quick_cache_model.specs.Refusals.{IsProvided, needs_of_insert}
use Rattle.quick_cache_model.specs.Writes.{Writes, Insert as insertion}
use Rattle.quick_cache_model.specs.declared.calls.call.Call.{Call}
use Rattle.quick_cache_model.specs.declared.calls.reply.Reply.{Reply}
use Rattle.quick_cache_model.specs.CacheRun.{CacheRun}
use Rattle.quick_cache_model.specs.CacheStep.{CacheStep}
use Rattle.quick_cache_model.specs.Shown.{IsItself}
use Rattle.qcsim.specs.Simulation.{Asks, Simulates, asks_none, counted}

module _ {K V F M : Type 0} (rules : Rules K V) (equal : K → K → Bool)
    (shows_key : K → K → Type 0) (shows : V → V → Type 0) (answers : F → K → V → Bool) where
  -- one run behind another
  run_append : (old : CacheState K V) (calls : List (Call K V F)) (replies : List (Reply K V M))
      (first : List (HookCall K V)) (mid : CacheState K V) (others : List (Call K V F))
      (more : List (Reply K V M)) (rest : List (HookCall K V)) (new : CacheState K V)
      → CacheRun rules equal shows_key shows answers old calls replies first mid
      → CacheRun rules equal shows_key shows answers mid others more rest new
      → CacheRun rules equal shows_key shows answers old (calls ++ others) (replies ++ more)
      (first ++ rest) new
  run_append _ _ _ _ _ others more rest new (CacheRun.ends state) run = run
  run_append _ _ _ _ _ others more rest new
      (CacheRun.goes_on old next mid call reply calls replies first behind step on) run =
      subst (λ (hook_calls : List (HookCall K V)). CacheRun rules equal shows_key shows answers old
      (call ∷ calls ++ others) (reply ∷ replies ++ more) hook_calls new)
      (sym (append_assoc first behind rest))
      (CacheRun.goes_on old next new call reply (calls ++ others) (replies ++ more) first
      (behind ++ rest) step (run_append next calls replies behind mid others more rest new on run))

module _ {K M : Type 0} where
  -- what a trace asks, and then another
  asks_append : (keys : List K) (calls : List (Call K (Unit {0}) ⊥))
      (replies : List (Reply K (Unit {0}) M)) (hits : ℕ) (later : List K)
      (others : List (Call K (Unit {0}) ⊥)) (more : List (Reply K (Unit {0}) M)) (count : ℕ)
      → Asks keys calls replies hits → Asks later others more count
      → Asks (keys ++ later) (calls ++ others) (replies ++ more) (hits + count)
  asks_append _ _ _ _ later others more count Asks.ends asks =
      subst (Asks later others more) (omega arith) asks
  asks_append _ _ _ _ later others more count (Asks.finds key keys calls replies hits on) asks =
      subst (Asks (key ∷ keys ++ later) (Call.Get key ∷ calls ++ others)
      (Reply.Value (Some tt) ∷ replies ++ more)) (omega arith)
      (Asks.finds key (keys ++ later) (calls ++ others) (replies ++ more) (hits + count)
      (asks_append keys calls replies hits later others more count on asks))
  asks_append _ _ _ _ later others more count (Asks.puts_in key keys calls replies hits on) asks =
      Asks.puts_in key (keys ++ later) (calls ++ others) (replies ++ more) (hits + count)
      (asks_append keys calls replies hits later others more count on asks)

module _ {K : Type 0} (rules : Rules K (Unit {0})) (equal : K → K → Bool) where
  -- no key
  pub asked_none : (state : CacheState K (Unit {0})) → Simulates rules equal state [] 0 state
  asked_none state = record {
    calls = [];
    replies = [];
    hook_calls = [];
    asks = Asks.ends;
    run = CacheRun.ends state;
  }

  -- a trace behind another
  pub asked_more : (old mid new : CacheState K (Unit {0})) (keys later : List K) (hits count : ℕ)
      → Simulates rules equal old keys hits mid → Simulates rules equal mid later count new
      → Simulates rules equal old (keys ++ later) (hits + count) new
  asked_more old mid new keys later hits count first behind = record {
    calls = first.calls ++ behind.calls;
    replies = first.replies ++ behind.replies;
    hook_calls = first.hook_calls ++ behind.hook_calls;
    asks = asks_append keys first.calls first.replies hits later behind.calls behind.replies count
        first.asks behind.asks;
    run = run_append rules equal IsItself IsItself asks_none old first.calls first.replies
        first.hook_calls mid behind.calls behind.replies behind.hook_calls new first.run behind.run;
  }

  -- one key behind a trace
  pub asked_one : (old mid new : CacheState K (Unit {0})) (keys : List K) (key : K) (hits : ℕ)
      (found : Bool) (count : ℕ) → hits + counted found ≡ count
      → Simulates rules equal old keys hits mid
      → Simulates rules equal mid (key ∷ []) (counted found) new
      → Simulates rules equal old (keys ++ key ∷ []) count new
  asked_one old mid new keys key hits found count is first behind =
      subst (λ n. Simulates rules equal old (keys ++ key ∷ []) n new) is
      (asked_more old mid new keys (key ∷ []) hits (counted found) first behind)

  module _ (key : K) (old : CacheState K (Unit {0})) where
    -- a key that is found
    pub found_one : (new : CacheState K (Unit {0}))
        → UpToOrder (LooksUp (equal key) old (λ item. item.value) (Some tt)) new
        → Simulates rules equal old (key ∷ []) 1 new
    found_one new looks = record {
      calls = Call.Get key ∷ [];
      replies = Reply.Value (Some tt) ∷ [];
      hook_calls = [];
      asks = Asks.finds key [] [] [] 0 Asks.ends;
      run = CacheRun.goes_on old new new (Call.Get key) (Reply.Value (Some tt)) [] [] [] []
          (CacheStep.gets key (Some tt) (Some tt) new looks refl) (CacheRun.ends new);
    }

    -- one that is not, and is put in
    pub put_one : (mid : CacheState K (Unit {0})) (hook_calls : List (HookCall K (Unit {0})))
        (new : CacheState K (Unit {0}))
        → UpToOrder (LooksUp (equal key) old (λ item. item.value) None) mid
        → IsProvided (needs_of_insert (equal key) (rules.hash key) mid) mid
        → UpToOrder (Writes rules (equal key) key insertion mid tt hook_calls None) new
        → Simulates rules equal old (key ∷ []) 0 new
    put_one mid hook_calls new looks provided writes = record {
      calls = Call.Get key ∷ Call.Insert key tt ∷ [];
      replies = Reply.Value None ∷ Reply.Done ∷ [];
      hook_calls = hook_calls;
      asks = Asks.puts_in key [] [] [] 0 Asks.ends;
      run = CacheRun.goes_on old mid new (Call.Get key) (Reply.Value None) (Call.Insert key tt ∷ [])
          (Reply.Done ∷ []) []
          hook_calls (CacheStep.gets key None None mid looks tt)
          (subst (λ (calls : List (HookCall K (Unit {0}))). CacheRun {M = Unit {0}} rules equal
          IsItself IsItself asks_none mid (Call.Insert key tt ∷ []) (Reply.Done ∷ []) calls new)
          (append-nil hook_calls)
          (CacheRun.goes_on mid new new (Call.Insert key tt) Reply.Done [] [] hook_calls []
          (CacheStep.inserts key tt hook_calls new provided writes) (CacheRun.ends new)));
    }

-- what a look-up shows of an item's value, where it tells alone whether there is one
pub copied_some : (found : Option (Bor (Unit {0}))) → is_some found ≡ true
    → option_copied found ≡ Some tt
copied_some None is = absurd (true≢false (sym is))
copied_some (Some unit) is = refl

pub copied_none : (found : Option (Bor (Unit {0}))) → is_some found ≡ false
    → option_copied found ≡ None
copied_none None is = refl
copied_none (Some unit) is = absurd (true≢false is)
