use Rattle.quick_cache_containers.specs.declared.table.walk.Walk.{Walk}
use Rattle.quick_cache_containers.proofs.WalkedTokens.{begins_walk}
use Rattle.quick_cache_containers.proofs.table.walk.Walk.begin.Goals as goal

pub returns-clause-walk : goal.returns-clause-walk
returns-clause-walk c =
    let walk : Walk =
    record {
      tags = c.args.tags;
      places = c.args.places;
      hash = c.args.hash;
      reaches =
          c.args.reaches;
      home = 0;
      step = 0;
      lanes = 0;
    } in
    (begins_walk walk c.args.mask c.home_of-home.result c.tag_of.result c.lanes_of.result
    c.requires.whole c.requires.some c.home_of-home.ensures.value c.tag_of.ensures.value
    c.lanes_of.ensures).still

-- each pair of the hash stands in a group that the walk reads
pub returns-clause-all : goal.returns-clause-all
returns-clause-all c =
    let walk : Walk =
    record {
      tags = c.args.tags;
      places = c.args.places;
      hash = c.args.hash;
      reaches =
          c.args.reaches;
      home = 0;
      step = 0;
      lanes = 0;
    } in
    (begins_walk walk c.args.mask c.home_of-home.result c.tag_of.result c.lanes_of.result
    c.requires.whole c.requires.some c.home_of-home.ensures.value c.tag_of.ensures.value
    c.lanes_of.ensures).all
