-- Calls that load what they do not find: a placeholder is taken for the key, and filled with the
-- value that a loader or a guard gives, or given up where none is given.
use Rattle.std.specs.Prelude.{◌≡◌, ℕ, Bool, false, List, Option, Some, None}
use Rattle.quick_cache_model.specs.CacheState.{CacheState, UpToOrder}
use Rattle.quick_cache_model.specs.Hooks.{Rules, HookCall}
use Rattle.quick_cache_model.specs.Placeholders.{MakesPlaceholder, MeetsPlaceholder, FillsPlaceholder, GivesUpPlaceholder}
use Rattle.quick_cache_model.specs.Refusals.{IsProvided, needs_of_placeholder}
use Rattle.quick_cache_model.specs.References.{WritesItem}

module _ {K V : Type 0} (stands_for : K → Bool) (hash : ℕ) (old : CacheState K V) where
  -- A placeholder is made where neither an item nor a placeholder is found: it has the next ticket.
  -- One that stands there already, since the guard that made it was never dropped, is met, by its
  -- own ticket.
  pub data TakesPlaceholder : (ticket : ℕ) → CacheState K V → Type 0 where
    makes : (key : K) (new : CacheState K V)
        → IsProvided (needs_of_placeholder stands_for hash old) old
        → MakesPlaceholder stands_for old hash key new → TakesPlaceholder old.next_ticket new
    meets : (ticket : ℕ) (new : CacheState K V) → MeetsPlaceholder stands_for old ticket new
        → TakesPlaceholder ticket new

module _ {K V : Type 0} (rules : Rules K V) (stands_for : K → Bool) (hash : ℕ)
    (old : CacheState K V) where
  -- a placeholder is taken and filled with the value; in a cache for one thread nobody waits for it
  pub record Loads (value : V) (calls : List (HookCall K V)) (new : CacheState K V) : Type 0 where
    pub ticket : ℕ
    pub mid : CacheState K V
    pub takes : UpToOrder (TakesPlaceholder stands_for hash old ticket) mid
    pub fills : UpToOrder (FillsPlaceholder ticket mid rules false value calls None) new

  -- a placeholder is taken and given up
  pub record LoadsNothing (new : CacheState K V) : Type 0 where
    pub ticket : ℕ
    pub mid : CacheState K V
    pub takes : UpToOrder (TakesPlaceholder stands_for hash old ticket) mid
    pub gives_up : UpToOrder (GivesUpPlaceholder ticket mid) new

-- a value may be written through the reference that a call gives, or the call gives none
abbrev pub WritesIfGiven : {K V : Type 0} → Rules K V → (K → Bool) → CacheState K V → Option V
    → Bool → CacheState K V → Type 0
WritesIfGiven rules stands_for old None there new = new ≡ old
WritesIfGiven rules stands_for old (Some left) there new =
    UpToOrder (WritesItem rules stands_for old left there) new
