-- The items of the rings in the order of their heat.
use Rattle.std.specs.Prelude.{ℕ, List, ◌++◌, map, nat_eq}
use Rattle.std.specs.Borrow.{Bor}
use Rattle.std.specs.List.{filter}
use Rattle.quick_cache_model.specs.CacheState.{CacheState, Item}
use Rattle.quick_cache_model.specs.declared.queue.Queue.{Queue}
use Rattle.quick_cache_shard.specs.Shard.{shown}

module _ {K V : Type 0} where
  -- the items of a ring, the next to be visited first
  abbrev pub ring_of : CacheState K V → Queue → List (Item K V)
  ring_of state Queue.Hot = state.hot
  ring_of state Queue.Cold = state.cold

  -- the pairs with this mark, in the order of the ring
  abbrev pub with_mark : ℕ → List (K × V × ℕ) → List (K × V)
  with_mark mark ring = map (λ item. (item.0, item.1)) (filter (λ item. nat_eq item.2 mark) ring)

  -- the pairs of a ring, those with higher marks first: no mark is above 3
  abbrev pub by_mark : List (K × V × ℕ) → List (K × V)
  by_mark ring = with_mark 3 ring ++ with_mark 2 ring ++ with_mark 1 ring ++ with_mark 0 ring

  -- the pairs of both rings, the hottest first
  abbrev pub by_heat : CacheState K V → List (K × V)
  by_heat state = by_mark (map shown state.hot) ++ by_mark (map shown state.cold)

  -- the pairs that a list of references shows
  abbrev pub pairs_shown : List (Bor K × Bor V) → List (K × V)
  pairs_shown list = map (λ pair. (pair.0.now, pair.1.now)) list
