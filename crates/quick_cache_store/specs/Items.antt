-- Items with something of them changed.
use Rattle.std.specs.Prelude.{ℕ}
use Rattle.quick_cache_model.specs.declared.queue.Queue.{Queue}
use Rattle.quick_cache_model.specs.CacheState.{Item}
use Rattle.quick_cache_model.specs.Touches.{counted_up}

module _ {K V : Type 0} where
  -- the item with another mark and another count of reads
  abbrev pub with_counts : (mark reads : ℕ) → Item K V → Item K V
  with_counts mark reads item = record item { mark = mark; reads = reads }

  -- the item with another mark
  abbrev pub with_mark : (mark : ℕ) → Item K V → Item K V
  with_mark mark item = record item { mark = mark }

  -- the item, read once more
  abbrev pub read_once : Item K V → Item K V
  read_once item = record item { reads = counted_up 1 item.reads }

  -- the item, read once more, with another mark
  abbrev pub used : (mark : ℕ) → Item K V → Item K V
  used mark item = record item { mark = mark; reads = counted_up 1 item.reads }

  -- the item with another weight
  abbrev pub with_weight : (weight : ℕ) → Item K V → Item K V
  with_weight weight item = record item { weight = weight }

  -- the item with another value
  abbrev pub with_value : (value : V) → Item K V → Item K V
  with_value value item = record item { value = value }

  -- the item with another queue, mark and weight
  abbrev pub requeued : Queue → (mark weight : ℕ) → Item K V → Item K V
  requeued queue mark weight item = record item { queue = queue; mark = mark; weight = weight }

-- an item of this key that was never read
abbrev pub filled : {K V : Type 0} → Queue → (mark weight : ℕ) → V → K → Item K V
filled queue mark weight value key = record {
  key = key;
  value = value;
  weight = weight;
  mark = mark;
  reads = 0;
  queue = queue;
}
