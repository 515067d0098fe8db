-- The rule of a history, and what its steps tell. No public clause cites this module.
use Rattle.std.specs.Prelude.{◌≡◌, ℕ, ◌<◌, ◌≤◌, ◌==◌, ◌⊎◌, true, List, [], ◌∷◌, ◌++◌, length, MatchBool}
use mathlib.Core.List.{IsPrefix}
use Rattle.logbook.specs.Pages.{Book, Cell, Named, Step, View, cell, may_make}
use Rattle.quick_cache_history.specs.declared.entry.Entry.{Entry}
use Rattle.quick_cache_history.specs.Histories.{shards_in, calls_of, calls_in}

-- There is a word for each shard, and it is the number of its calls. The cell of a turn that was
-- used is at home.
pub record IsCounted {K V : Type 0} (words : List Cell) (log : List (Entry K V)) : Type 0 where
  pub row : shards_in log ≤ length words
  pub counts : (shard : ℕ) → shard < shards_in log
      → cell words shard ≡ (length (calls_of shard log), true)
  pub turns : (turn : ℕ) → (calls_in turn log ≡ []) ⊎ ((cell words turn).1 ≡ true)

-- the word of a shard in the book
abbrev pub word_of : Book → ℕ → Named
word_of book shard = record { tracked = true; key = shard; book = book }

-- the history so far was seen, and how many calls of the shard are in it
abbrev pub FindsCount : {K V : Type 0} → Step (Entry K V) → View (Entry K V) ℕ → ℕ
    → View (Entry K V) ℕ → Type 0
FindsCount step old found new = found ≡ length (calls_of step.key new.0)

-- a turn was taken that was not used
abbrev pub TakesTurn : {K V : Type 0} → Step (Entry K V) → View (Entry K V) ℕ → ℕ
    → View (Entry K V) ℕ → Type 0
TakesTurn step old found new = (new.1.0.right ≡ may_make) × (calls_in new.1.0.key new.0 ≡ [])

-- The entry was added behind all that was there, which had so many calls of its shard, and none in
-- its turn.
pub record AddsBehind {K V : Type 0} (shard calls turn : ℕ) (entry : Entry K V)
    (old new : List (Entry K V)) : Type 0 where
  pub before : List (Entry K V)
  pub longer : IsPrefix old before
  pub count : length (calls_of shard before) ≡ calls
  pub unused : calls_in turn before ≡ []
  pub ends : new ≡ before ++ entry ∷ []

-- where as many calls were found as was thought, the call was added
abbrev pub AddsCall : {K V : Type 0} → Step (Entry K V) → View (Entry K V) ℕ → ℕ
    → View (Entry K V) ℕ → Type 0
AddsCall step old found new = MatchBool (found == step.old)
    (AddsBehind step.key step.old old.1.0.key step.ask old.0 new.0) (Unit {0})
