-- Pairs that are passed by.
use Rattle.std.proofs.Common.{◌≡◌, ℕ, List, ◌∷◌, ◌==◌, filter, cond, ne_eqb, ap, sym, ◌∙◌}
use Rattle.qcrun_parts.specs.Kinds.{weight_of}
use Rattle.qcrun_parts.specs.Still.{is_weightless}

-- a pair that weighs something is none of those that are kept
pub filter-weighty : (key value weight : ℕ) (rest : List (ℕ × ℕ)) → weight ≡ weight_of value
    → (weight ≡ 0 → ⊥)
    → filter is_weightless ((key, value) ∷ rest) ≡ filter is_weightless rest
filter-weighty key value weight rest is weighs =
    ap (λ light. cond light ((key, value) ∷ filter is_weightless rest) (filter is_weightless rest))
    (sym (ap (λ n. n == 0) is) ∙ ne_eqb weight 0 weighs)
