-- What a cache shows of its items, so that it can be made again as it stands.
use Rattle.std.specs.Prelude.{◌≡◌, ℕ, Bool, List, ◌++◌, map, ◌==◌}
use Rattle.std.specs.List.{filter}
use Rattle.std.specs.List.Sorted.{IsPermutation}
use Rattle.quick_cache_model.specs.declared.queue.Queue.{Queue}
use Rattle.quick_cache_model.specs.CacheState.{CacheState, Item}
use Rattle.quick_cache_shard.specs.Shard.{residents}

module _ {K V : Type 0} where
  -- what is saved of an item: its pair, its ring and its mark
  abbrev pub saved_of : Item K V → K × V × Queue × ℕ
  saved_of item = (item.key, item.value, item.queue, item.mark)

  -- whether the item weighs nothing
  abbrev pub is_weightless : Item K V → Bool
  is_weightless item = item.weight == 0

  -- All items are saved: those of the hot ring and those of the cold one in their order, and of all
  -- items, in any order, those that weigh nothing.
  pub record SavesAll (state : CacheState K V) (saved : List (K × V × Queue × ℕ)) : Type 0 where
    pub all : List (Item K V)
    pub order : IsPermutation (residents state) all
    pub is : saved ≡ map saved_of (state.hot ++ state.cold ++ filter is_weightless all)
