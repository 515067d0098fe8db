-- Reaches that get shorter: what is as far from a home as the distances tell is reached still.
use Rattle.std.proofs.Common.{◌≡◌, ◌≢◌, ℕ, ◌+◌, ◌-◌, ◌*◌, ◌/◌, ◌≤◌, eqb, List, length, map, get_or, sym, ap, ◌∙◌, inl, inr, arith}
use Rattle.std.specs.Int.Bits.{bit_xor}
use Rattle.std.specs.Simd.Lanes.{chunk, mask_l}
use Rattle.std.proofs.lemmas.Bool.{eqb-false}
use Rattle.std.proofs.lemmas.Simd.{none_from_empty_mask}
use Rattle.quick_cache_index.specs.Index.{distance, told}
use Rattle.quick_cache_index.proofs.Distances.{xor-back}
use Rattle.quick_cache_index.proofs.CountedTokens.{equal_or_not}

-- what is as far from a home as the distances tell, of all that it reached, is at most so far
abbrev pub AreWithin : (distances reaches : List ℕ) → (home step : ℕ) → Type 0
AreWithin distances reaches home step =
    (position : ℕ) → get_or distances position 0 ≡ told (distance home position)
    → distance home position ≤ get_or reaches home 0 → distance home position ≤ step

-- one step less, where no place of the group at that distance has it
pub AreWithin-less : (distances reaches : List ℕ) (home step : ℕ)
    → AreWithin distances reaches home step → step ≢ 0
    → 16 * bit_xor home step + 16 ≤ length distances
    → mask_l (map (λ t. eqb t (told step)) (chunk (16 * bit_xor home step) 16 distances)) ≡ 0
    → AreWithin distances reaches home (step - 1)
AreWithin-less distances reaches home step within some inside none position at reached =
    let near : distance home position ≤ step = within position at reached in
    elim (equal_or_not (distance home position) step) [
      | inl same ↦
          let group : bit_xor home step ≡ position / 16 =
          ap (bit_xor home) (sym same) ∙ xor-back home (position / 16) in
          let from = 16 * bit_xor home step in
          let other = none_from_empty_mask (λ x. eqb x (told step)) distances from 16 0 inside none
          position (omega (arith, group)) (omega (arith, group)) in
          absurd (eqb-false (get_or distances position 0) (told step) other (at ∙ ap told same))
      | inr other ↦ omega (arith, near, other, some)
    ]
