-- Touches: what readers count at an item beside each other, and what the cache takes in later. A
-- step of a cache that readers share is the step of a cache for one thread, but that a count of
-- touches may be anything: before each advance and each overwrite the marks may have been raised by
-- such counts, and reads, hits and misses are shown with them.
use Rattle.std.specs.Prelude.{◌≡◌, ℕ, ◌+◌, ◌-◌, ◌^◌, List, [], ◌∷◌, min, if◌then◌else◌, ◌==◌}
use Rattle.quick_cache_model.specs.CacheState.{Item}

-- n more, at most the greatest u64
abbrev pub counted_up : ℕ → ℕ → ℕ
counted_up n count = min (count + n) (2 ^ 64 - 1)

-- What is shown of a count: what the cache counted, and what readers added since.
abbrev pub ShowsCount : (ℕ → Type 0) → (counted shown : ℕ) → Type 0
ShowsCount may_count counted shown = (n : ℕ) × may_count n × (shown ≡ counted_up n counted)

-- n more marks, at most the greatest mark
abbrev pub raised_by : (cut n mark : ℕ) → ℕ
raised_by cut n mark = min (mark + n) cut

-- the mark of an item that was used once
abbrev pub first_mark : (cut : ℕ) → ℕ
first_mark cut = raised_by cut 1 0

module _ {K V : Type 0} (cut : ℕ) where
  -- the item once so many touches were taken in
  abbrev pub with_touches : ℕ → Item K V → Item K V
  with_touches n item = if n == 0 then item else record item {
    mark = raised_by cut n item.mark;
    reads = counted_up n item.reads;
  }

  -- some touches that may be were taken in at the item
  abbrev pub TakesTouches : (ℕ → Type 0) → Item K V → Item K V → Type 0
  TakesTouches may_count old new = (n : ℕ) × may_count n × (new ≡ with_touches n old)

  -- at each item of a list
  abbrev pub RaisesMarks : (ℕ → Type 0) → List (Item K V) → List (Item K V) → Type 0
  RaisesMarks may_count [] [] = Unit {0}
  RaisesMarks may_count [] (_ ∷ _) = ⊥
  RaisesMarks may_count (_ ∷ _) [] = ⊥
  RaisesMarks may_count (old ∷ olds) (new ∷ news) = TakesTouches may_count old new
      × RaisesMarks may_count olds news
