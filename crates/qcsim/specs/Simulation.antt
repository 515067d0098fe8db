-- What a trace of keys asks of a cache, and how many of them it has.
use Rattle.std.specs.Prelude.{◌≡◌, ℕ, ◌+◌, Bool, false, if◌then◌else◌, List, [], ◌∷◌, Some, None, nat_eq}
use Rattle.quick_cache_model.specs.CacheState.{CacheState, empty_state}
use Rattle.quick_cache_model.specs.Hooks.{Rules, HookCall}
use Rattle.quick_cache_model.specs.Sizes.{hot_target_of, ghost_limit_of}
use Rattle.quick_cache_options.specs.Options.{Settings}
use Rattle.quick_cache_model.specs.declared.calls.call.Call.{Call}
use Rattle.quick_cache_model.specs.declared.calls.reply.Reply.{Reply}
use Rattle.quick_cache_model.specs.CacheRun.{CacheRun}
use Rattle.quick_cache_model.specs.Shown.{IsItself}

-- no call of a trace asks a predicate
abbrev pub asks_none : {K V : Type 0} → ⊥ → K → V → Bool
asks_none none key value = absurd none

-- one, where the key was found
abbrev pub counted : Bool → ℕ
counted found = if found then 1 else 0

-- Each key of a trace is looked up, and put in where it was not found: the calls, their replies, and
-- how many keys were found.
pub data Asks {K M : Type 0} : List K → List (Call K (Unit {0}) ⊥)
    → List (Reply K (Unit {0}) M) → ℕ → Type 0 where
  ends : Asks [] [] [] 0
  finds : (key : K) (keys : List K) (calls : List (Call K (Unit {0}) ⊥))
      (replies : List (Reply K (Unit {0}) M)) (hits : ℕ) → Asks keys calls replies hits
      → Asks (key ∷ keys) (Call.Get key ∷ calls) (Reply.Value (Some tt) ∷ replies) (1 + hits)
  puts_in : (key : K) (keys : List K) (calls : List (Call K (Unit {0}) ⊥))
      (replies : List (Reply K (Unit {0}) M)) (hits : ℕ) → Asks keys calls replies hits
      → Asks (key ∷ keys) (Call.Get key ∷ Call.Insert key tt ∷ calls)
      (Reply.Value None ∷ Reply.Done ∷ replies) hits

-- From a state to another, a run of the calls that a trace asks, in which so many keys are found.
pub record Simulates {K : Type 0} (rules : Rules K (Unit {0})) (equal : K → K → Bool)
    (old : CacheState K (Unit {0})) (keys : List K) (hits : ℕ) (new : CacheState K (Unit {0}))
    : Type 0 where
  pub calls : List (Call K (Unit {0}) ⊥)
  pub replies : List (Reply K (Unit {0}) (Unit {0}))
  pub hook_calls : List (HookCall K (Unit {0}))
  pub asks : Asks keys calls replies hits
  pub run : CacheRun rules equal IsItself IsItself asks_none old calls replies hook_calls new

-- the empty cache with these settings
abbrev pub made_by : Settings → CacheState ℕ (Unit {0})
made_by settings = record (empty_state settings.weight_capacity
    (hot_target_of settings.weight_capacity settings.hot_allocation)
    (ghost_limit_of settings.estimated_items_capacity settings.ghost_allocation)) {
      mark_cut = settings.mark_cut;
    }

-- what a cache of items goes by: each weighs one, and none is pinned
abbrev pub item_rules : (ℕ → ℕ) → Rules ℕ (Unit {0})
item_rules hash = record {
  hash = hash;
  weight = λ key value. 1;
  pinned = λ key value. false;
  may_count = λ count. count ≡ 0;
}

-- An empty cache with these settings has so many keys of a trace when they are asked for, by some
-- hash.
pub record HasHits (settings : Settings) (keys : List ℕ) (hits : ℕ) : Type 0 where
  pub hash : ℕ → ℕ
  pub new : CacheState ℕ (Unit {0})
  pub simulates : Simulates (item_rules hash) nat_eq (made_by settings) keys hits new
