use Rattle.std.proofs.Common.{◌<◌, length, arith}
use Rattle.quick_cache_containers.proofs.table.groups.leave_place.Goals as goal

-- the reaches that got shorter still reach each pair
pub returns-then-step-reaches-clause-whole : goal.returns-then-step-reaches-clause-whole
returns-then-step-reaches-clause-whole g c =
    let freed = c.free_place.ensures.whole c.args.reaches.now c.args.mask c.requires.whole in
    let sized = freed.pairs.sized in
    let old = c.requires.whole.pairs.sized in
    let some : 0 < length c.args.reaches.now = omega (arith, c.requires.within, old.sixteen) in
    let reached = rw c.seen.ensures at c.shorten.ensures.reached in
    record {
      pairs = record {
        sized = record {
          groups = λ more. c.shorten.ensures.groups;
          sixteen = omega (arith, sized.sixteen, sized.groups some, c.shorten.ensures.groups);
          tagged = sized.tagged;
          power = sized.power;
          few = sized.few;
          near = c.shorten.ensures.near;
        };
        housed = λ position within tag.
            let at = freed.pairs.housed position within tag in
            record {
              taken = at.taken;
              tag = at.tag;
              reached = reached position within at.taken at.reached;
            };
      };
      bare = freed.bare;
    }

pub returns-else-step-ne0-clause-whole : goal.returns-else-step-ne0-clause-whole
returns-else-step-ne0-clause-whole g c =
    c.free_place.ensures.whole c.args.reaches.now c.args.mask c.requires.whole
