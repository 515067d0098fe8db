use Rattle.std.proofs.Common.{◌≤◌, rules, arith}
use Rattle.std.specs.Int.Bits.{bit_xor}
use Rattle.quick_cache_index.proofs.Distances.{xor-within}
use Rattle.quick_cache_containers.proofs.FreedPlaces.{AreWithin-less}
use Rattle.quick_cache_containers.proofs.table.groups.shorten.Goals as goal

-- the group at that distance is one of the table's
pub is_home_of-requires-clause-within : goal.is_home_of-requires-clause-within
is_home_of-requires-clause-within c =
    let within : bit_xor c.args.home c.loop-step.step ≤ c.args.mask =
    xor-within c.args.mask c.args.home c.loop-step.step c.requires.power c.requires.home
    c.loop-step.invariant.near in
    omega (arith, within, c.requires.sized)

-- no pair of the home is in the group at that distance
pub loop-step-preserved : goal.loop-step-preserved
loop-step-preserved c = record {
  near = omega (arith, c.loop-step.invariant.near);
  within =
      AreWithin-less c.args.places.now c.args.reaches.now c.args.mask c.args.home c.loop-step.step
      c.loop-step.invariant.within (omega arith) (search rules);
}
