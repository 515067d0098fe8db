-- The work that making room takes.
use Rattle.std.specs.Prelude.{◌≡◌, ℕ, ◌+◌, ◌*◌, ◌≤◌}
use Rattle.quick_cache_model.specs.Touches.{counted_up}

-- How often a hot advance was made, and how many visits to an item these took. Both are counted for
-- contracts alone, and stop at the greatest u64.
pub record Work : Type 0 where
  pub advances : ℕ
  pub visits : ℕ

-- nothing was done yet
abbrev pub no_work : Work
no_work = record { advances = 0; visits = 0 }

-- so much more was done
pub record DoesMore (advances visits : ℕ) (old new : Work) : Type 0 where
  pub advances_are : new.advances ≡ counted_up advances old.advances
  pub visits_are : new.visits ≡ counted_up visits old.visits

-- From so many hot and cold items to so many, where the cut is the greatest mark. Each hot advance
-- but `extra` of them is paid for by what the number of hot items and twice that of cold ones lose,
-- and each makes at most one visit more to each item than the greatest mark.
pub record PaysFor (cut extra : ℕ) (old_hot old_cold new_hot new_cold : ℕ) (old new : Work)
    : Type 0 where
  pub advances : ℕ
  pub visits : ℕ
  pub does : DoesMore advances visits old new
  pub members : new_hot + new_cold ≤ old_hot + old_cold
  pub paid : advances + new_hot + 2 * new_cold ≤ old_hot + 2 * old_cold + extra
  pub visited : visits ≤ (cut + 1) * (old_hot + old_cold) * advances

-- With n items, or one more than stood in the rings, and the cut as their greatest mark: at most
-- 2n + 1 hot advances and (cut + 1)n(2n + 1) visits in them.
pub record WorksWithin (cut n : ℕ) (old new : Work) : Type 0 where
  pub advances : ℕ
  pub visits : ℕ
  pub does : DoesMore advances visits old new
  pub few_advances : advances ≤ 2 * n + 1
  pub few_visits : visits ≤ (cut + 1) * n * (2 * n + 1)
