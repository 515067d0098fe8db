-- The distance of two groups is below how many there are.
use Rattle.std.proofs.Common.{◌/◌, arith}
use Rattle.std.specs.Int.Bits.{bit_xor}
use Rattle.quick_cache_index.proofs.Distances.{xor-within}
use Rattle.quick_cache_index.proofs.CountedTokens.{within-set}
use Rattle.quick_cache_containers.proofs.table.groups.tag_place.Goals as goal

pub returns-then-step-reaches-clause-near : goal.returns-then-step-reaches-clause-near
returns-then-step-reaches-clause-near c =
    let asked = c.requires in
    let home = c.home_of-home.result in
    let inside = c.home_of-home.ensures.within in
    let near =
    xor-within c.args.mask home (c.args.position / 16) asked.power inside
    (omega (arith, asked.within, asked.sized)) in
    within-set c.args.reaches.now home (bit_xor home (c.args.position / 16)) c.args.mask
    (omega (arith, inside, asked.groups)) near asked.near
