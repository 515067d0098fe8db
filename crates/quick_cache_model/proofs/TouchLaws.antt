-- Touches that were taken in: what they keep, and that none are taken in where a count of touches
-- can only be 0.
use Rattle.std.proofs.Common.{◌≡◌, ℕ, ◌≤◌, ◌==◌, Bool, true, false, if◌then◌else◌, List, [], ◌∷◌, refl, ap, ap₂, ◌∙◌, arith}
use Rattle.quick_cache_model.specs.CacheState.{Item}
use Rattle.quick_cache_model.specs.Touches.{raised_by, counted_up, with_touches, TakesTouches, RaisesMarks}

module _ {K V : Type 0} (cut : ℕ) where
  -- touches change no key
  pub with_touches-key : (n : ℕ) (item : Item K V) → (with_touches cut n item).key ≡ item.key
  with_touches-key n item = go (n == 0)
    where
      go : (b : Bool) → (if b then item else record item
          { mark = raised_by cut n item.mark; reads = counted_up n item.reads }).key ≡ item.key
      go true = refl
      go false = refl

  -- nor a value
  pub with_touches-value : (n : ℕ) (item : Item K V) → (with_touches cut n item).value ≡ item.value
  with_touches-value n item = go (n == 0)
    where
      go : (b : Bool) → (if b then item else record item
          { mark = raised_by cut n item.mark; reads = counted_up n item.reads }).value ≡ item.value
      go true = refl
      go false = refl

  -- nor a weight
  pub with_touches-weight : (n : ℕ) (item : Item K V)
      → (with_touches cut n item).weight ≡ item.weight
  with_touches-weight n item = go (n == 0)
    where
      go : (b : Bool) → (if b then item else record item
          { mark = raised_by cut n item.mark; reads = counted_up n item.reads }).weight
          ≡ item.weight
      go true = refl
      go false = refl

  -- nor a queue
  pub with_touches-queue : (n : ℕ) (item : Item K V) → (with_touches cut n item).queue ≡ item.queue
  with_touches-queue n item = go (n == 0)
    where
      go : (b : Bool) → (if b then item else record item
          { mark = raised_by cut n item.mark; reads = counted_up n item.reads }).queue ≡ item.queue
      go true = refl
      go false = refl

  -- a mark within the greatest stays within it
  pub with_touches-mark : (n : ℕ) (item : Item K V) → item.mark ≤ cut
      → (with_touches cut n item).mark ≤ cut
  with_touches-mark n item within = go (n == 0)
    where
      go : (b : Bool) → (if b then item else record item
          { mark = raised_by cut n item.mark; reads = counted_up n item.reads }).mark ≤ cut
      go true = within
      go false = omega arith

  -- where a count of touches can only be 0, the item is the same
  pub TakesTouches-none : (may_count : ℕ → Type 0) → ((n : ℕ) → may_count n → n ≡ 0)
      → (old new : Item K V) → TakesTouches cut may_count old new → new ≡ old
  TakesTouches-none may_count only old new takes = takes.2
      ∙ ap (λ n. with_touches cut n old) (only takes.0 takes.1)

  -- and so is each item of a list
  pub RaisesMarks-none : (may_count : ℕ → Type 0) → ((n : ℕ) → may_count n → n ≡ 0)
      → (old new : List (Item K V)) → RaisesMarks cut may_count old new → new ≡ old
  RaisesMarks-none may_count only [] [] raised = refl
  RaisesMarks-none may_count only [] (y ∷ ys) raised = absurd raised
  RaisesMarks-none may_count only (x ∷ xs) [] raised = absurd raised
  RaisesMarks-none may_count only (x ∷ xs) (y ∷ ys) raised =
      ap₂ (λ z zs. z ∷ zs) (TakesTouches-none may_count only x y raised.0)
      (RaisesMarks-none may_count only xs ys raised.1)

  -- where a count of touches may be 0, the list itself is one with touches taken in
  pub RaisesMarks-same : (may_count : ℕ → Type 0) → may_count 0 → (items : List (Item K V))
      → RaisesMarks cut may_count items items
  RaisesMarks-same may_count may [] = tt
  RaisesMarks-same may_count may (x ∷ xs) = ((0, may, refl), RaisesMarks-same may_count may xs)
