-- Look-ups.
use Rattle.std.specs.Prelude.{ℕ, Bool, List, ◌∷◌, ◌++◌, Option, Some, None}
use Rattle.quick_cache_model.specs.CacheState.{CacheState, Item, Place, with_items}
use Rattle.quick_cache_model.specs.Touches.{counted_up, raised_by}
use Rattle.quick_cache_model.specs.Finding.{IsItemAt, HasNoItem}

module _ {K V : Type 0} where
  -- an item that was looked up: one more mark, up to the greatest, and one more read
  abbrev pub looked_up : (cut : ℕ) → Item K V → Item K V
  looked_up cut item = record item {
    mark = raised_by cut 1 item.mark;
    reads = counted_up 1 item.reads;
  }

  -- one more hit, or one more miss
  abbrev pub after_hit : CacheState K V → CacheState K V
  after_hit state = record state { hits = counted_up 1 state.hits }

  abbrev pub after_miss : CacheState K V → CacheState K V
  after_miss state = record state { misses = counted_up 1 state.misses }

module _ {K V : Type 0} (stands_for : K → Bool) (old : CacheState K V) where
  -- what a look at a key sees of its item, which changes nothing
  pub data Sees {X : Type 0} (of : Item K V → X) : Option X → Type 0 where
    is_there : (place : Place) (before : List (Item K V)) (item : Item K V)
        (after : List (Item K V))
        → IsItemAt stands_for old place before item after → Sees of (Some (of item))
    is_absent : HasNoItem stands_for old → Sees of None

  -- A look-up, with what it shows of the item: an item found is marked and read, and a hit is
  -- counted. A ghost or a placeholder is a miss, as nothing is.
  pub data LooksUp {X : Type 0} (of : Item K V → X) : Option X → CacheState K V → Type 0 where
    hit : (place : Place) (before : List (Item K V)) (item : Item K V) (after : List (Item K V))
        → IsItemAt stands_for old place before item after
        → LooksUp of (Some (of item))
        (with_items place (before ++ looked_up old.mark_cut item ∷ after) (after_hit old))
    miss : HasNoItem stands_for old → LooksUp of None (after_miss old)
