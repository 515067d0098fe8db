use Rattle.std.proofs.Common.{◌≡◌, ◌*◌, ℕ, eqb, map, sym, subst, ◌∙◌, arith, w64}
use Rattle.std.specs.Simd.Lanes.{chunk, mask_l}
use Rattle.std.specs.Int.{trailing_zeros}
use Rattle.std.specs.Int.Bits.{bit_xor}
use Rattle.std.proofs.lemmas.List.{get_or-set_same}
use Rattle.quick_cache_index.specs.Index.{told}
use Rattle.quick_cache_index.specs.IndexGroups.{HasAtDistance}
use Rattle.quick_cache_index.proofs.Distances.{xor-within}
use Rattle.quick_cache_index.proofs.NearestFreePlace.{lane_of_mask}
use Rattle.quick_cache_index.proofs.FreedPlaces.{AreWithin-less}
use Rattle.quick_cache_index.proofs.index.groups.shorten.Goals.{then-loop-step-test+else-lanes_of-eq0, else-loop-step-test}
use Rattle.quick_cache_index.proofs.index.groups.shorten.Goals as goal

-- the group at that distance is one of the index
pub lanes_of-requires : goal.lanes_of-requires
lanes_of-requires c =
    let within = xor-within c.args.mask c.args.home c.loop-step.step c.requires.power
    c.requires.home c.loop-step.invariant.near in
    omega (arith, within, c.requires.sized)

-- no place of that group has that distance
pub loop-step-preserved : goal.loop-step-preserved
loop-step-preserved c = record {
  near = omega (arith, c.loop-step.invariant.near);
  within =
      let within = xor-within c.args.mask c.args.home c.loop-step.step c.requires.power
      c.requires.home c.loop-step.invariant.near in
      AreWithin-less c.args.distances.now c.args.reaches.now c.args.home c.loop-step.step
      c.loop-step.invariant.within c.loop-step-test.true (omega (arith, within, c.requires.sized))
      (subst (λ (n : ℕ). mask_l (map (λ t. eqb t n)
      (chunk (16 * bit_xor c.args.home c.loop-step.step) 16 c.args.distances.now)) ≡ 0)
      c.told.ensures (sym c.lanes_of.ensures ∙ c.if-lanes_of-eq0.true));
}

-- where it stops short of the home, a place of the group has it
pub returns-clause-tight : goal.returns-clause-tight
returns-clause-tight c some =
    let home = c.args.home in
    let step = c.loop-step.step in
    let distances = c.args.distances.now in
    let now = get_or-set_same c.args.reaches.now home step 0
    (omega (arith, c.requires.home, c.requires.groups)) in
    let near = xor-within c.args.mask home step c.requires.power c.requires.home
    c.loop-step.invariant.near in
    elim c.loop-step-test.branch [
      | then-loop-step-test+else-lanes_of-eq0 w ↦
          let is = subst (λ (n : ℕ). w.lanes_of.result ≡ mask_l (map (λ t. eqb t n)
          (chunk (16 * bit_xor home step) 16 distances))) w.told.ensures w.lanes_of.ensures in
          let lane = lane_of_mask distances (bit_xor home step) (told step) w.lanes_of.result
          (omega (arith, near, c.requires.sized)) is w.if-lanes_of-eq0.false in
          let at : HasAtDistance distances (bit_xor home step) (told step) =
          (trailing_zeros w64 w.lanes_of.result, lane.0, lane.1) in
          subst (λ (s : ℕ). HasAtDistance distances (bit_xor home s) (told s)) (sym now) at
      | else-loop-step-test w ↦ absurd (omega (arith, some, now, w.loop-step-test.false))
    ]
