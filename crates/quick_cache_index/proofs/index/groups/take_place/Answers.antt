-- A place without a tag has no token, and takes one.
use Rattle.std.proofs.Common.{refl, arith}
use Rattle.quick_cache_index.proofs.NearestFreePlace.{untagged_some}
use Rattle.quick_cache_index.proofs.index.groups.take_place.Goals as goal

pub untagged-position-requires-clause-some : goal.untagged-position-requires-clause-some
untagged-position-requires-clause-some c =
    untagged_some _ c.args.tokens.now c.requires.matched c.requires.sized.tagged c.requires.room

pub returns-clause-takes : goal.returns-clause-takes
returns-clause-takes c = record {
  position = c.untagged-position.result;
  inside = omega (arith, c.requires.sized.tagged, c.untagged-position.ensures.within);
  free = c.requires.matched.bare c.untagged-position.result c.untagged-position.ensures.untagged;
  token_is = refl;
  tag_is = c.tag_place.ensures.tags;
  far_is = c.tag_place.ensures.distances;
  reached = c.tag_place.ensures.reached;
  grow = c.tag_place.ensures.grow;
}
