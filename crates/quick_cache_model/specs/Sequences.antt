-- Lists, as queues and rings of tokens speak of them.
use Rattle.std.specs.Prelude.{ℕ, ◌+◌, Bool, true, false, cond, eqb, List, [], ◌∷◌, ◌++◌}

-- how often a token stands in a list
abbrev pub times : ℕ → List ℕ → ℕ
times token [] = 0
times token (x ∷ xs) = cond (eqb x token) 1 0 + times token xs

-- the list begun one further on: its first comes last
abbrev pub turned : {X : Type 0} → List X → List X
turned [] = []
turned (x ∷ xs) = xs ++ x ∷ []

-- a list without the element between these two, in its order or begun behind that element
abbrev pub joined_around : {X : Type 0} → Bool → List X → List X → List X
joined_around false before after = before ++ after
joined_around true before after = after ++ before
