-- The pair goes to a place that has no tag, and so no housed pair, and gets its tag there.
use Rattle.std.proofs.Common.{◌≡◌, ◌<◌, length, get_or, set, sym, ap, subst, ◌∙◌, arith}
use Rattle.std.specs.List.{swap}
use Rattle.quick_cache_index.specs.Index.{tag_of, IsReached}
use Rattle.quick_cache_containers.specs.TableGroups.{hash_at, place_at, IsHoused, IsBareBelow, HasSamePairs}
use Rattle.quick_cache_containers.proofs.HousedPairs.{HasSamePairs-swap, HasSamePairs-then, IsHoused-move, IsBareBelow-move}
use Rattle.quick_cache_containers.proofs.table.groups.house.Goals as goal

pub loop-tags-preserved : goal.loop-tags-preserved
loop-tags-preserved g c =
    let kept = c.loop-tags.invariant in
    let tags = c.loop-tags.tags in
    let places = c.loop-tags.places.items in
    let after = c.tag_place.new.reaches in
    let mask = c.args.mask in
    let p = c.args.position in
    let q = c.untagged-other.result in
    let hash = hash_at (place_at places p) in
    let hash_is : c.hash-hash.result ≡ hash =
    c.hash-hash.ensures ∙ ap (λ ps. hash_at (place_at ps p)) c.seen-in-loop-tags.ensures in
    let tags_are : c.tag_place.new.tags ≡ set tags q (tag_of hash) =
    c.tag_place.ensures.tags ∙ ap (λ h. set tags q (tag_of h)) hash_is in
    let places_are : c.swap.new.self.items ≡ swap places p q =
    ap (λ p. p.items) c.swap.ensures in
    let bare_p : get_or tags p 0 ≡ 0 = omega (arith, c.loop-tags-test.true) in
    let bare_q : get_or tags q 0 ≡ 0 = c.untagged-other.ensures.untagged in
    let p_in : p < length places = omega (arith, c.requires.within) in
    let q_in : q < length tags = c.untagged-other.ensures.within in
    let q_inside : q < length places = omega (arith, q_in, kept.housed.sized.tagged) in
    let taken : 0 < (place_at places p).token = omega (
      arith,
      c.if-token-ne0.true,
      c.token.ensures,
      ap (λ ps. (place_at ps p).token) c.seen.ensures,
    ) in
    let reached : IsReached after mask hash q =
    subst (λ h. IsReached after mask h q) hash_is c.tag_place.ensures.reached in
    let housed =
    IsHoused-move tags places c.loop-tags.reaches after mask p q kept.housed bare_p bare_q p_in
    q_in taken reached c.tag_place.ensures.grow c.tag_place.ensures.near in
    let bare =
    IsBareBelow-move tags places c.loop-tags.reaches after mask p q kept.housed bare_p bare_q
    p_in q_in kept.bare in
    record {
      housed =
          subst (λ ts. IsHoused ts c.swap.new.self.items after mask) (sym tags_are)
          (subst (λ ps. IsHoused (set tags q (tag_of hash)) ps after mask) (sym places_are) housed);
      bare =
          subst (λ ts. IsBareBelow ts c.swap.new.self.items p) (sym tags_are)
          (subst (λ ps. IsBareBelow (set tags q (tag_of hash)) ps p) (sym places_are) bare);
      allocated = ap (λ p. p.allocated) c.swap.ensures ∙ kept.allocated;
      pairs =
          subst (λ ps. HasSamePairs c.args.places.now.items ps) (sym places_are) (HasSamePairs-then
          c.args.places.now.items places (swap places p q) kept.pairs
          (HasSamePairs-swap places p q p_in q_inside));
    }
