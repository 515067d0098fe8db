-- The first pairs that leave in a call.
use Rattle.std.specs.Prelude.{List, [], ◌∷◌, Option, Some, None}

-- A pair is kept at the first place that is free. Where none is, it is dropped.
abbrev pub kept_with : {K V : Type 0} → K → V → List (Option (K × V)) → List (Option (K × V))
kept_with key value [] = []
kept_with key value (None ∷ places) = Some (key, value) ∷ places
kept_with key value (Some pair ∷ places) = Some pair ∷ kept_with key value places
