-- What a reply shows of keys and values: where it cannot give out what it found, it shows a clone.
use Rattle.std.specs.Prelude.{◌≡◌, List, [], ◌∷◌, Option, Some, None}

-- a value is shown by itself alone
abbrev pub IsItself : {V : Type 0} → V → V → Type 0
IsItself value shown = shown ≡ value

-- what is shown of what was found: nothing of nothing, and of a value one that stands for it
abbrev pub IsShown : {V : Type 0} → (V → V → Type 0) → Option V → Option V → Type 0
IsShown shows None None = Unit {0}
IsShown shows (Some value) (Some shown) = shows value shown
IsShown shows _ _ = ⊥

-- what is shown of pairs, one by one
abbrev pub ArePairsShown : {K V : Type 0} → (K → K → Type 0) → (V → V → Type 0)
    → List (K × V) → List (K × V) → Type 0
ArePairsShown shows_key shows [] [] = Unit {0}
ArePairsShown shows_key shows (pair ∷ pairs) (shown ∷ others) =
    shows_key pair.0 shown.0 × shows pair.1 shown.1 × ArePairsShown shows_key shows pairs others
ArePairsShown shows_key shows _ _ = ⊥
