-- Copies of what a cache holds: clones stand in for keys and values.
use Rattle.std.specs.Prelude.{◌≡◌, ℕ, Bool, true, Option, Some, None, Result, Ok, Err}
use Rattle.std.specs.List.{AllZip}
use Rattle.quick_cache_model.specs.declared.refusal.Refusal.{Refusal}
use Rattle.quick_cache_model.specs.CacheState.{CacheState, LoadingEntry, UpToOrder}
use Rattle.quick_cache_model.specs.Finding.{HasNoItem}
use Rattle.quick_cache_model.specs.Lookups.{LooksUp, Sees}
use Rattle.quick_cache_store.specs.ListCopies.{IsItemCopy}

-- a clone of a key is equal to it, as the keys' own test says
abbrev pub ClonesAreEqual : {K : Type 0} → (K → K → Bool) → (K → K → Type 0) → Type 0
ClonesAreEqual {K} equal is_clone = (key clone : K) → is_clone key clone → equal key clone ≡ true

-- what is kept of a placeholder, once more
abbrev pub IsKeptAgain : {P : Type 0} (ticket_of : P → ℕ) (kept copy : P) → Type 0
IsKeptAgain ticket_of kept copy = ticket_of copy ≡ ticket_of kept

-- the key that is being loaded, with a clone for the key
pub record IsLoadingCopy {K : Type 0} (clones_key : K → K → Type 0)
    (entry copy : LoadingEntry K) : Type 0 where
  pub key : clones_key entry.key copy.key
  pub same : copy ≡ record entry { key = copy.key }

-- the state, with copies of the items of each place and of what is being loaded, in their order
pub record IsCopyOf {K V : Type 0} (clones_key : K → K → Type 0) (clones_value : V → V → Type 0)
    (state copy : CacheState K V) : Type 0 where
  pub hot : AllZip (IsItemCopy clones_key clones_value) state.hot copy.hot
  pub cold : AllZip (IsItemCopy clones_key clones_value) state.cold copy.cold
  pub still : AllZip (IsItemCopy clones_key clones_value) state.still copy.still
  pub loading : AllZip (IsLoadingCopy clones_key) state.loading copy.loading
  pub same : copy ≡ record state {
    hot = copy.hot;
    cold = copy.cold;
    still = copy.still;
    loading = copy.loading;
  }

module _ {K V : Type 0} (stands_for : K → Bool) (is_clone : V → V → Type 0)
    (old : CacheState K V) where
  -- it is a clone of the value that a look-up found
  pub record IsCopyFound (copy : V) (new : CacheState K V) : Type 0 where
    pub value : V
    pub looks : UpToOrder (LooksUp stands_for old (λ item. item.value) (Some value)) new
    pub cloned : is_clone value copy

  -- the value of an item that is there was not cloned, and nothing changed
  pub record IsNotCopied (refusal : Refusal) (new : CacheState K V) : Type 0 where
    pub value : V
    pub seen : Sees stands_for old (λ item. item.value) (Some value)
    pub memory : refusal ≡ Refusal.Memory
    pub unchanged : new ≡ old

  -- the value of the item that was found was cloned, or was not
  abbrev pub CopiesItem : Result V Refusal → CacheState K V → Type 0
  CopiesItem (Ok copy) new = IsCopyFound copy new
  CopiesItem (Err refusal) new = IsNotCopied refusal new

  -- A look-up that answers a clone. Where there is no item nothing is counted, and nothing changed;
  -- nor did it where the clone was refused.
  abbrev pub FindsCopy : Result (Option V) Refusal → CacheState K V → Type 0
  FindsCopy (Ok (Some copy)) new = IsCopyFound copy new
  FindsCopy (Ok None) new = HasNoItem stands_for old × (new ≡ old)
  FindsCopy (Err refusal) new = IsNotCopied refusal new
