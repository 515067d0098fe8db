-- Loads in a shard behind its lock: how they begin, and how they end.
use Rattle.std.specs.Prelude.{◌≡◌, ℕ, Bool, false, List, Result, Ok, Err}
use Rattle.quick_cache_model.specs.declared.refusal.Refusal.{Refusal}
use Rattle.quick_cache_model.specs.declared.terms.lifecycle.Lifecycle as lifecycle
use Rattle.quick_cache_model.specs.CacheState.{CacheState, Item, Place}
use Rattle.quick_cache_model.specs.Finding.{IsItemAt}
use Rattle.quick_cache_model.specs.Refusals.{MayRefuse, needs_of_placeholder, needs_of_replacement}
use Rattle.quick_cache_model.specs.Hooks.{Rules, Hooks, Calls}
use Rattle.quick_cache_shard.specs.Filling.{AnswersFill, AwaitsKey}
use Rattle.quick_cache_loading.specs.declared.sharing.shard.Begun.{Begun}
use Rattle.quick_cache_shard.specs.Shard.{Shard}
use Rattle.quick_cache_shard.specs.Steps.{Goes, steady_in, hooks_in, rules_in}
use Rattle.quick_cache_locked.specs.Locked.{FromSome, IsKept}

-- what a load begins with, as the shard's own answer: a clone, or the placeholder
abbrev pub begun_of : {V P : Type 0} → Result (Begun V P) Refusal → Result (Result V P) Refusal
begun_of (Ok (Begun.Found copy)) = Ok (Ok copy)
begun_of (Ok (Begun.Loading placeholder)) = Ok (Err placeholder)
begun_of (Err refusal) = Err refusal

-- no placeholder of the ticket is there for an equal key
abbrev pub AwaitsNoEqual : {K V : Type 0} → (K → K → Bool) → ℕ → K → CacheState K V → Type 0
AwaitsNoEqual {K} equal ticket key old = (own : K) → AwaitsKey ticket old own
    → equal key own ≡ false

module _ {K V S : Type 0} (steady : Type 0) (hooks : Hooks K V S) (rules : Rules K V)
    (equal : K → K → Bool) (ticket : ℕ) (old : CacheState K V) (marked : Bool) (key : K)
    (value : V) where
  -- A load ends with a value: the placeholder is filled, where pinning is steady as its definition
  -- says. Or it was not there for the key, and nothing changed.
  abbrev pub EndsLoad : S → Result (Unit {0}) V → CacheState K V → S → Type 0
  EndsLoad first (Ok done) new last =
      Calls hooks (AnswersFill steady ticket old rules marked value (Ok done) new) first last
  EndsLoad first (Err back) new last =
      AwaitsNoEqual equal ticket key old × (back ≡ value) × (new ≡ old) × (last ≡ first)

-- the same of a shard, as what it goes by says
abbrev pub EndsLoadBy : {K V We B L S : Type 0} → Goes K V We B L S → (may_count : ℕ → Type 0)
    → (old : Shard K V We B L) → (equal : K → K → Bool) → (ticket : ℕ) → (marked : Bool)
    → (key : K) → (value : V) → Result (Unit {0}) V → (new : Shard K V We B L) → S → S → Type 0
EndsLoadBy goes may_count old equal ticket marked key value answer new first last =
    EndsLoad (steady_in goes old) (hooks_in goes old) (rules_in goes may_count old) equal ticket
    old.state marked key value first answer new.state last

-- a load ended with this value in some shard that was kept, and left some shard
abbrev pub EndsSomeLoad : {K V We B L S : Type 0} → lifecycle.Ghosts L K V S → (K → K → Bool)
    → Goes K V We B L S → (may_count : ℕ → Type 0) → (ticket : ℕ) → (marked : Bool) → (key : K)
    → (value : V) → S → S → Type 0
EndsSomeLoad {K} {V} {We} {B} {L} life equal goes may_count ticket marked key value first last =
    FromSome life equal (λ old. (new : Shard K V We B L) × EndsLoadBy goes may_count old equal ticket
    marked key value (Ok tt) new first last)

-- what a load takes that may run out: memory, or the ticket or the slot of a placeholder, which is
-- made where no key is found, or in the place of an item
pub data RefusesLoad {K V : Type 0} (stands_for : K → Bool) (state : CacheState K V)
    : Refusal → Type 0 where
  for_memory : RefusesLoad stands_for state Refusal.Memory
  for_new : (hash : ℕ) (refusal : Refusal)
      → MayRefuse (needs_of_placeholder stands_for hash state) state refusal
      → RefusesLoad stands_for state refusal
  in_place : (place : Place) (before : List (Item K V)) (item : Item K V) (after : List (Item K V))
      (refusal : Refusal) → IsItemAt stands_for state place before item after
      → MayRefuse needs_of_replacement state refusal → RefusesLoad stands_for state refusal

module _ {K V We B L S : Type 0} (life : lifecycle.Ghosts L K V S) (equal : K → K → Bool) where
  -- a shard that was kept has an item under such a key, and this is a clone of its value
  pub record ShowsClone (is_clone : V → V → Type 0) (stands_for : K → Bool) (clone : V)
      (shard : Shard K V We B L) : Type 0 where
    pub kept : IsKept life equal shard
    pub place : Place
    pub before : List (Item K V)
    pub item : Item K V
    pub after : List (Item K V)
    pub there : IsItemAt stands_for shard.state place before item after
    pub cloned : is_clone item.value clone

  -- a shard that was kept refuses so to load such a key
  pub record RefusesSo (stands_for : K → Bool) (refusal : Refusal) (shard : Shard K V We B L)
      : Type 0 where
    pub kept : IsKept life equal shard
    pub cause : RefusesLoad stands_for shard.state refusal
