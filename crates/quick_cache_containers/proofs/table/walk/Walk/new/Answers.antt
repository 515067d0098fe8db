use Rattle.std.proofs.Common.{◌<◌, length, arith}
use Rattle.quick_cache_containers.specs.declared.table.walk.Walk.{Walk}
use Rattle.quick_cache_containers.proofs.WalkedTokens.{begins_walk}
use Rattle.quick_cache_containers.proofs.table.walk.Walk.new.Goals as goal

pub returns-then-walk-reaches-clause-walk : goal.returns-then-walk-reaches-clause-walk
returns-then-walk-reaches-clause-walk c =
    let walk : Walk =
    record {
      tags = c.args.tags;
      places = c.args.places;
      hash = c.args.hash;
      reaches =
          c.args.reaches;
      home = 0;
      step = 0;
      lanes = 0;
    } in
    let some : 0 < length c.args.reaches.now = omega (arith, c.if-walk-reaches.true) in
    (begins_walk walk c.args.mask c.home_of.result c.tag_of.result c.lanes_of.result c.requires some
    c.home_of.ensures.value c.tag_of.ensures.value c.lanes_of.ensures).still

-- each pair of the hash stands in a group that the walk reads
pub returns-then-walk-reaches-clause-all : goal.returns-then-walk-reaches-clause-all
returns-then-walk-reaches-clause-all c =
    let walk : Walk =
    record {
      tags = c.args.tags;
      places = c.args.places;
      hash = c.args.hash;
      reaches =
          c.args.reaches;
      home = 0;
      step = 0;
      lanes = 0;
    } in
    let some : 0 < length c.args.reaches.now = omega (arith, c.if-walk-reaches.true) in
    (begins_walk walk c.args.mask c.home_of.result c.tag_of.result c.lanes_of.result c.requires some
    c.home_of.ensures.value c.tag_of.ensures.value c.lanes_of.ensures).all
