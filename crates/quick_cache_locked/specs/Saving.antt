-- Items that a shard shows as they are saved.
use Rattle.std.specs.Prelude.{◌≡◌, ℕ, List, ◌++◌, map}
use Rattle.std.specs.List.{AllZip}
use Rattle.quick_cache_model.specs.declared.queue.Queue.{Queue}
use Rattle.quick_cache_model.specs.CacheState.{CacheState}
use Rattle.quick_cache_shard.specs.Saved.{SavesAll}
use Rattle.quick_cache_locked.specs.declared.heated.Heated.{Heated}
use Rattle.quick_cache_locked.specs.Hottest.{IsHeatedClone}

module _ {K V : Type 0} where
  -- what is saved of an item, by names
  abbrev pub heated_saved : K × V × Queue × ℕ → Heated K V
  heated_saved item = record { queue = item.2; mark = item.3; key = item.0; value = item.1 }

  module _ (key_clone : K → K → Type 0) (is_clone : V → V → Type 0) where
    -- clones of all items of the state, as they are saved
    pub record ShowsSaved (state : CacheState K V) (shown : List (Heated K V)) : Type 0 where
      pub saved : List (K × V × Queue × ℕ)
      pub all : SavesAll state saved
      pub clones : AllZip (IsHeatedClone key_clone is_clone) (map heated_saved saved) shown

    -- they were added to the list
    pub record AppendsSaved (state : CacheState K V) (old new : List (Heated K V)) : Type 0 where
      pub shown : List (Heated K V)
      pub shows : ShowsSaved state shown
      pub appends : new ≡ old ++ shown
