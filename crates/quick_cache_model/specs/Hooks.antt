-- What a cache knows of its keys and values, and the hooks that it calls.
use Rattle.std.specs.Prelude.{◌≡◌, ℕ, Bool, List, [], ◌∷◌}
use Rattle.quick_cache_model.specs.declared.queue.Queue.{Queue}

-- What a cache goes by: the hash of a key, the weight of a pair, whether a pair is pinned, and what
-- a count of touches that readers left may be: 0 where a cache has one thread, anything where
-- readers share it.
pub record Rules (K V : Type 0) : Type 1 where
  pub hash : K → ℕ
  pub weight : K → V → ℕ
  pub pinned : K → V → Bool
  pub may_count : ℕ → Type 0

-- a call of a hook, with the pair that it is handed, and where it may change the value, with the
-- value that it leaves
pub data HookCall (K V : Type 0) : Type 0 where
  BeforeEvict : (key : K) (value left : V) → HookCall K V
  EvictHot : (key : K) (value : V) → HookCall K V
  EvictCold : (key : K) (value : V) → HookCall K V

-- a pair that leaves is told to the hook of its queue
abbrev pub evicted : {K V : Type 0} → Queue → K → V → HookCall K V
evicted Queue.Hot key value = EvictHot key value
evicted Queue.Cold key value = EvictCold key value

-- what each hook may do to the request state, and to a value
pub record Hooks (K V S : Type 0) : Type 1 where
  pub before_evict : S → K → V → S → V → Type 0
  pub evict_hot : S → K → V → S → Type 0
  pub evict_cold : S → K → V → S → Type 0

-- these calls, one after another, may lead the request state from the first to the last
abbrev pub RunsHooks : {K V S : Type 0} → Hooks K V S → List (HookCall K V) → S → S → Type 0
RunsHooks hooks [] first last = last ≡ first
RunsHooks {S = S} hooks (BeforeEvict key value left ∷ calls) first last =
    (mid : S) × hooks.before_evict first key value mid left × RunsHooks hooks calls mid last
RunsHooks {S = S} hooks (EvictHot key value ∷ calls) first last =
    (mid : S) × hooks.evict_hot first key value mid × RunsHooks hooks calls mid last
RunsHooks {S = S} hooks (EvictCold key value ∷ calls) first last =
    (mid : S) × hooks.evict_cold first key value mid × RunsHooks hooks calls mid last

-- some hook calls for which P holds, and that lead the request state from the first to the last
pub record Calls {K V S : Type 0} (hooks : Hooks K V S) (P : List (HookCall K V) → Type 0)
    (first last : S) : Type 0 where
  pub calls : List (HookCall K V)
  pub holds : P calls
  pub runs : RunsHooks hooks calls first last
