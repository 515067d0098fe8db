-- The list of those who wait, by number, in the order in which they came.
use Rattle.std.specs.Prelude.{ℕ, ◌==◌, Bool, true, not, ◌&&◌, List, [], ◌∷◌}
use Rattle.std.specs.List.{list_any, filter}

-- the waiter is in the list
abbrev pub has : ℕ → List ℕ → Bool
has n waiters = list_any (λ m. m == n) waiters

-- the list with the waiter taken out
abbrev pub without_waiter : ℕ → List ℕ → List ℕ
without_waiter n waiters = filter (λ m. not (m == n)) waiters

-- no waiter is in the list twice
abbrev pub is_distinct : List ℕ → Bool
is_distinct [] = true
is_distinct (m ∷ waiters) = not (has m waiters) && is_distinct waiters
