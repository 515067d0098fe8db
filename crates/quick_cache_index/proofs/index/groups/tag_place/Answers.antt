-- The distance of two groups is below how many there are.
use Rattle.std.proofs.Common.{◌/◌, arith}
use Rattle.quick_cache_index.proofs.Distances.{xor-within}
use Rattle.quick_cache_index.proofs.index.groups.tag_place.Goals as goal

pub note_away-requires-clause-few : goal.note_away-requires-clause-few
note_away-requires-clause-few c =
    let asked = c.requires in
    let near = xor-within c.args.mask c.home_of-home.result (c.args.position / 16) asked.power
    c.home_of-home.ensures.within (omega (arith, asked.within, asked.sized)) in
    omega (arith, near, asked.few)

pub returns-then-step-ne0-clause-near : goal.returns-then-step-ne0-clause-near
returns-then-step-ne0-clause-near c = λ group.
    let asked = c.requires in
    let near = xor-within c.args.mask c.home_of-home.result (c.args.position / 16) asked.power
    c.home_of-home.ensures.within (omega (arith, asked.within, asked.sized)) in
    omega (arith, near, asked.near group, c.note_away.ensures.most group)
