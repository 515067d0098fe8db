-- The caches of the examples: keys and values are numbers.
use Rattle.std.proofs.Common.{◌≡◌, ℕ, Bool, List, [], ◌∷◌, refl, ◌==◌, ◌/◌, ◌%◌, false}
use Rattle.quick_cache_model.specs.declared.queue.Queue.{Queue}
use Rattle.quick_cache_model.specs.CacheState.{Item, default_mark_cut}
use Rattle.quick_cache_model.specs.Hooks.{Rules}
use Rattle.quick_cache_model.specs.Touches.{RaisesMarks}

-- a cache for one thread: no reader leaves touches
abbrev pub no_touches : ℕ → Type 0
no_touches n = n ≡ 0

-- each pair weighs 1, and none is pinned
abbrev pub unit_rules : Rules ℕ ℕ
unit_rules = record {
  hash = λ key. key;
  weight = λ key value. 1;
  pinned = λ key value. false;
  may_count = no_touches;
}

-- The last two digits of a value are its weight, and values from 100 to 199 are pinned. Keys that
-- differ by a thousand have equal hashes.
abbrev pub digit_rules : Rules ℕ ℕ
digit_rules = record {
  hash = λ key. key % 1000;
  weight = λ key value. value % 100;
  pinned = λ key value. value / 100 == 1;
  may_count = no_touches;
}

-- a query for this key
abbrev pub is : ℕ → ℕ → Bool
is key other = other == key

-- an item of the hot ring that was never read
abbrev pub hot_item : (key value weight mark : ℕ) → Item ℕ ℕ
hot_item key value weight mark = record {
  key = key;
  value = value;
  weight = weight;
  mark = mark;
  reads = 0;
  queue = Queue.Hot;
}

-- an item of the cold ring that was never read
abbrev pub cold_item : (key value weight mark : ℕ) → Item ℕ ℕ
cold_item key value weight mark = record {
  key = key;
  value = value;
  weight = weight;
  mark = mark;
  reads = 0;
  queue = Queue.Cold;
}

-- where no reader leaves touches, an advance starts from the items as they are
pub untouched : (items : List (Item ℕ ℕ)) → RaisesMarks default_mark_cut no_touches items items
untouched [] = tt
untouched (item ∷ items) = ((0, refl, refl), untouched items)
