-- What the lists stand for once tokens are dropped: the lists of a cache.
use Rattle.std.specs.Prelude.{ℕ, List, ◌++◌, map}
use Rattle.quick_cache_model.specs.CacheState.{Item, LoadingEntry}
pub use Rattle.quick_cache_model.specs.Sequences.{joined_around}
use Rattle.quick_cache_store.specs.Lists.{HeldItem, HeldLoading, HeldGhost, Lists}

-- the items of these entries
abbrev pub items_of : {K V : Type 0} → List (HeldItem K V) → List (Item K V)
items_of entries = map (λ held. held.item) entries

-- all items: of the hot ring, of the cold ring, and of weight 0
abbrev pub residents : {K V P : Type 0} → Lists K V P → List (Item K V)
residents lists = items_of lists.hot ++ items_of lists.cold ++ items_of lists.still

-- the hashes of these ghosts
abbrev pub hashes_of : List HeldGhost → List ℕ
hashes_of ghosts = map (λ shade. shade.hash) ghosts

-- the loading entry of a placeholder, whose ticket the caller knows how to read
abbrev pub loading_entry : {K P : Type 0} → (P → ℕ) → HeldLoading K P → LoadingEntry K
loading_entry ticket_of waiting =
    record { key = waiting.key; queue = waiting.queue; ticket = ticket_of waiting.placeholder }

-- the loading entries of these placeholders
abbrev pub loading_entries : {K P : Type 0} → (P → ℕ) → List (HeldLoading K P)
    → List (LoadingEntry K)
loading_entries ticket_of entries = map (loading_entry ticket_of) entries
