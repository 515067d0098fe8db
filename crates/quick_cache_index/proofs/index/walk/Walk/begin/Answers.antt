use Rattle.quick_cache_index.specs.declared.index.walk.Walk.{Walk}
use Rattle.quick_cache_index.proofs.WalkedTokens.{begins_walk}
use Rattle.quick_cache_index.proofs.index.walk.Walk.begin.Goals as goal

pub returns-clause-walk : goal.returns-clause-walk
returns-clause-walk c =
    let walk : Walk =
    record {
      tags = c.args.tags;
      tokens = c.args.tokens;
      hash = c.args.hash;
      reaches =
          c.args.reaches;
      home = 0;
      group = 0;
      step = 0;
      lanes = 0;
    } in
    (begins_walk walk c.args.mask c.home_of-home.result c.tag_of.result c.lanes_of.result
    c.requires.sized c.requires.matched c.requires.some
    c.home_of-home.ensures.value c.tag_of.ensures.value c.lanes_of.ensures).still

-- each token with the tag that the hash's home reaches stands in a group that the walk reads
pub returns-clause-all : goal.returns-clause-all
returns-clause-all c =
    let walk : Walk =
    record {
      tags = c.args.tags;
      tokens = c.args.tokens;
      hash = c.args.hash;
      reaches =
          c.args.reaches;
      home = 0;
      group = 0;
      step = 0;
      lanes = 0;
    } in
    (begins_walk walk c.args.mask c.home_of-home.result c.tag_of.result c.lanes_of.result
    c.requires.sized c.requires.matched c.requires.some
    c.home_of-home.ensures.value c.tag_of.ensures.value c.lanes_of.ensures).all
