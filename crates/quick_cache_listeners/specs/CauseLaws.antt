-- Laws of the causes.
use Rattle.std.specs.Prelude.{◌≡◌, ℕ, ◌≤◌, ◌⊎◌, Bool, true, List, Option}
use Rattle.std.specs.List.{AllZip, FoldsTo}
use Rattle.quick_cache_model.specs.declared.queue.Queue.{Queue}
use Rattle.quick_cache_model.specs.CacheState.{CacheState}
use Rattle.quick_cache_model.specs.Hooks.{Rules, HookCall, Hooks, RunsHooks}
use Rattle.quick_cache_model.specs.Eviction.{EvictsToCapacity}
use Rattle.quick_cache_model.specs.Writes.{Strategy, Writes}
use Rattle.quick_cache_listeners.specs.declared.causes.cause.Cause.{Cause}
use Rattle.quick_cache_listeners.specs.declared.causes.cause.Stage.{Stage}
use Rattle.quick_cache_listeners.specs.declared.causes.listener.Request.{Request}
use Rattle.quick_cache_listeners.specs.Causes.{told, evictions, truth_of, MayMean}
use Rattle.quick_cache_listeners.specs.Requests.{Arms, TellsWhy}

-- what a cache goes by, of its parts
abbrev pub rules_of : {K V : Type 0} → (ℕ → Type 0) → (K → ℕ) → (K → V → ℕ) → (K → V → Bool)
    → Rules K V
rules_of may_count hash weight pinned =
    record { hash = hash; weight = weight; pinned = pinned; may_count = may_count }

module _ (K V : Type 0) (may_count : ℕ → Type 0) where
  -- victims are told as victims, from whatever stage
  abbrev pub VictimsAreTold : Type 0
  VictimsAreTold = (hash : K → ℕ) (weight : K → V → ℕ) (pinned : K → V → Bool) (need : ℕ)
      (old new : CacheState K V) (calls : List (HookCall K V)) (stage : Stage)
      → EvictsToCapacity (rules_of may_count hash weight pinned) need old calls new
      → told stage calls ≡ evictions calls

  -- where the written pair is light enough or pinned, what is told is so
  abbrev pub LightWritesAreTold : Type 0
  LightWritesAreTold = (hash : K → ℕ) (weight : K → V → ℕ) (pinned : K → V → Bool)
      (equal_to : K → Bool) (key : K) (strategy : Strategy)
      (old : CacheState K V) (value : V) (calls : List (HookCall K V)) (answer : Option (K × V))
      (new : CacheState K V)
      (writes : Writes (rules_of may_count hash weight pinned) equal_to key strategy old value calls
      answer new)
      → (weight key value ≤ old.hot_target) ⊎ (pinned key value ≡ true)
      → told Stage.Fresh calls
      ≡ truth_of (rules_of may_count hash weight pinned) equal_to key strategy old value calls answer
      new writes

  -- whatever is written, what is told may mean what is so
  abbrev pub WritesAreToldNearly : Type 0
  WritesAreToldNearly = (hash : K → ℕ) (weight : K → V → ℕ) (pinned : K → V → Bool)
      (equal_to : K → Bool) (key : K) (strategy : Strategy)
      (old : CacheState K V) (value : V) (calls : List (HookCall K V)) (answer : Option (K × V))
      (new : CacheState K V)
      (writes : Writes (rules_of may_count hash weight pinned) equal_to key strategy old value calls
      answer new)
      → AllZip MayMean (told Stage.Fresh calls)
      (truth_of (rules_of may_count hash weight pinned) equal_to key strategy old value calls answer
      new writes)

-- the hooks of the lifecycle over a listener
abbrev pub hooks_why : {K V S : Type 0} → (S → K → V → Cause → S → Type 0) → Hooks K V (Request S)
hooks_why tells = record {
  before_evict = λ old _ value new left. Arms old value new left;
  evict_hot = TellsWhy tells Queue.Hot;
  evict_cold = TellsWhy tells Queue.Cold;
}

-- the listener is told what the calls tell
abbrev pub RunsTell : {L K V S : Type 0} → (L → S → K → V → Cause → S → Type 0) → Type 0
RunsTell {L} {K} {V} {S} tells = (listener : L) (calls : List (HookCall K V))
    (first last : Request S) → RunsHooks (hooks_why (tells listener)) calls first last
    → FoldsTo (λ old pair new. tells listener old pair.0 pair.1 pair.2 new) first.state
    (told first.stage calls) last.state
