-- A place without a tag stands at a distance of at most `mask`, so no group past it is read.
use Rattle.std.proofs.Common.{sym, ◌∙◌, arith}
use Rattle.std.specs.Int.Bits.{bit_xor}
use Rattle.quick_cache_index.proofs.NearestFreePlace.{lane_of_mask, AreTagged-near, AreTagged-step, AreTagged-group, AreTagged-more}
use Rattle.quick_cache_index.proofs.NearestFreePlace.{distance-lane}
use Rattle.quick_cache_index.proofs.index.groups.untagged.Goals as goal

pub loop-mask-init : goal.loop-mask-init
loop-mask-init c s below = absurd (omega arith)

pub lanes_of-lanes-requires : goal.lanes_of-lanes-requires
lanes_of-lanes-requires c =
    let asked = c.requires in
    AreTagged-group c.args.tags.now c.args.mask c.args.home c.loop-mask.step asked.sized asked.power
    asked.home asked.some c.loop-mask.invariant

pub overflow_add-result : goal.overflow_add-result
overflow_add-result c =
    let asked = c.requires in
    let group =
    AreTagged-group c.args.tags.now c.args.mask c.args.home c.loop-mask.step asked.sized
    asked.power asked.home asked.some c.loop-mask.invariant in
    let lane =
    lane_of_mask c.args.tags.now (bit_xor c.args.home c.loop-mask.step) 0
    c.lanes_of-lanes.result group c.lanes_of-lanes.ensures c.if-lanes-ne0.true in
    record { fits = omega (arith, asked.sized, asked.few, group, lane.0) }

pub returns-then-lanes-ne0-clause-within : goal.returns-then-lanes-ne0-clause-within
returns-then-lanes-ne0-clause-within c =
    let asked = c.requires in
    let group =
    AreTagged-group c.args.tags.now c.args.mask c.args.home c.loop-mask.step asked.sized
    asked.power asked.home asked.some c.loop-mask.invariant in
    let lane =
    lane_of_mask c.args.tags.now (bit_xor c.args.home c.loop-mask.step) 0
    c.lanes_of-lanes.result group c.lanes_of-lanes.ensures c.if-lanes-ne0.true in
    omega (arith, group, lane.0)

pub returns-then-lanes-ne0-clause-untagged : goal.returns-then-lanes-ne0-clause-untagged
returns-then-lanes-ne0-clause-untagged c =
    let asked = c.requires in
    let group =
    AreTagged-group c.args.tags.now c.args.mask c.args.home c.loop-mask.step asked.sized
    asked.power asked.home asked.some c.loop-mask.invariant in
    let lane =
    lane_of_mask c.args.tags.now (bit_xor c.args.home c.loop-mask.step) 0
    c.lanes_of-lanes.result group c.lanes_of-lanes.ensures c.if-lanes-ne0.true in
    lane.1

-- every group nearer has been read
pub returns-then-lanes-ne0-clause-nearest : goal.returns-then-lanes-ne0-clause-nearest
returns-then-lanes-ne0-clause-nearest c = λ position inside free.
    let asked = c.requires in
    let group =
    AreTagged-group c.args.tags.now c.args.mask c.args.home c.loop-mask.step asked.sized
    asked.power asked.home asked.some c.loop-mask.invariant in
    let lane =
    lane_of_mask c.args.tags.now (bit_xor c.args.home c.loop-mask.step) 0
    c.lanes_of-lanes.result group c.lanes_of-lanes.ensures c.if-lanes-ne0.true in
    omega (
      arith,
      distance-lane c.args.home c.loop-mask.step _ lane.0,
      AreTagged-near
          c.args.tags.now c.args.home c.loop-mask.step position c.loop-mask.invariant free,
    )

pub overflow_add-step : goal.overflow_add-step
overflow_add-step c =
    let asked = c.requires in
    let near =
    AreTagged-step c.args.tags.now c.args.mask c.args.home c.loop-mask.step asked.sized
    asked.power asked.home asked.some c.loop-mask.invariant in
    record { fits = omega (arith, asked.few, near) }

pub loop-mask-smaller : goal.loop-mask-smaller
loop-mask-smaller c =
    let asked = c.requires in
    let near =
    AreTagged-step c.args.tags.now c.args.mask c.args.home c.loop-mask.step asked.sized
    asked.power asked.home asked.some c.loop-mask.invariant in
    omega (arith, near)

-- the group that was read last has no place without a tag, since no bit is set
pub loop-mask-preserved : goal.loop-mask-preserved
loop-mask-preserved c =
    let asked = c.requires in
    let group =
    AreTagged-group c.args.tags.now c.args.mask c.args.home c.loop-mask.step asked.sized
    asked.power asked.home asked.some c.loop-mask.invariant in
    AreTagged-more c.args.tags.now c.args.home c.loop-mask.step group
    (sym c.lanes_of-lanes.ensures ∙ c.if-lanes-ne0.false) c.loop-mask.invariant
