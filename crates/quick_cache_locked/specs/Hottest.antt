-- The items of the rings in the order of their heat.
use Rattle.std.specs.Prelude.{◌≡◌, ℕ, ◌-◌, List, ◌++◌, map, nat_eq}
use Rattle.std.specs.Borrow.{Bor}
use Rattle.std.specs.List.{filter}
use Rattle.quick_cache_model.specs.CacheState.{CacheState, Item}
use Rattle.quick_cache_model.specs.declared.queue.Queue.{Queue}
use Rattle.quick_cache_shard.specs.Shard.{shown}
use Rattle.quick_cache_locked.specs.declared.heated.Heated.{Heated}

-- how cool an item of that ring with that mark is: the hot ring before the cold one, then by falling
-- marks, of which none is above 3
abbrev pub cool_by : Queue → ℕ → ℕ
cool_by Queue.Hot mark = 3 - mark
cool_by Queue.Cold mark = 7 - mark

module _ {K V : Type 0} where
  -- the items of a ring, the next to be visited first
  abbrev pub ring_of : CacheState K V → Queue → List (Item K V)
  ring_of state Queue.Hot = state.hot
  ring_of state Queue.Cold = state.cold

  -- the pair of an item of that ring, with its mark
  abbrev pub heated : Queue → K × V × ℕ → Heated K V
  heated queue item = record { queue = queue; mark = item.2; key = item.0; value = item.1 }

  -- the pairs of a ring with this mark, in the order of the ring
  abbrev pub with_mark : Queue → ℕ → List (K × V × ℕ) → List (Heated K V)
  with_mark queue mark ring = map (heated queue) (filter (λ item. nat_eq item.2 mark) ring)

  -- the pairs of a ring, those with higher marks first
  abbrev pub by_mark : Queue → List (K × V × ℕ) → List (Heated K V)
  by_mark queue ring = with_mark queue 3 ring ++ with_mark queue 2 ring ++ with_mark queue 1 ring
      ++ with_mark queue 0 ring

  -- the pairs of both rings, the hottest first
  abbrev pub by_heat : CacheState K V → List (Heated K V)
  by_heat state = by_mark Queue.Hot (map shown state.hot)
      ++ by_mark Queue.Cold (map shown state.cold)

  -- how cool the pair is
  abbrev pub coolness : Heated K V → ℕ
  coolness item = cool_by item.queue item.mark

  -- the pair that references show, and those that a list of them shows
  abbrev pub pair_read : Heated (Bor K) (Bor V) → Heated K V
  pair_read item = record {
    queue = item.queue;
    mark = item.mark;
    key = item.key.now;
    value = item.value.now;
  }

  abbrev pub pairs_read : List (Heated (Bor K) (Bor V)) → List (Heated K V)
  pairs_read list = map pair_read list

  module _ (key_clone : K → K → Type 0) (is_clone : V → V → Type 0) where
    -- its clone, of the same heat
    pub record IsHeatedClone (item clone : Heated K V) : Type 0 where
      pub key : key_clone item.key clone.key
      pub value : is_clone item.value clone.value
      pub heat : (clone.queue ≡ item.queue) × (clone.mark ≡ item.mark)
