-- New tags and reaches are all 0, so that no pair is to be housed yet, and new places have no pair.
use Rattle.std.proofs.Common.{rules, ◌≡◌, ℕ, ◌-◌, ◌*◌, ◌<◌, length, get_or, ap, ◌∙◌, arith, IsOk}
use Rattle.std.proofs.lemmas.List.{length-append, length-replicate}
use Rattle.quick_cache_containers.specs.TableGroups.{empty_place}
use Rattle.quick_cache_containers.proofs.HousedPairs.{HasSamePairs-filled, HasSamePairs-then, zero_past, IsHoused-untagged}
use Rattle.quick_cache_containers.proofs.table.groups.grow.Goals as goal

pub house_all-requires : goal.house_all-requires
house_all-requires g c =
    let count = c.args.count in
    let tags = c.as_mut_slice.result.now in
    let reaches = c.as_mut_slice-2.result.now in
    let tags_ok : IsOk c.resize.result = c.resize.ensures.succeeds (search rules) in
    let reaches_ok : IsOk c.resize-2.result = c.resize-2.ensures.succeeds (search rules) in
    let tagged : length tags ≡ 16 * count = search rules in
    let placed : length c.fill_up.new.self.items ≡ 16 * count =
    ap length c.in_ok-fill_up.ensures.filled
    ∙ length-append c.args.places.now.items _
    ∙ omega (
      arith,
      c.requires.longer,
      length-replicate (16 * count - length c.args.places.now.items) empty_place,
    ) in
    let reached : length reaches ≡ count = search rules in
    let no_tag : (k : ℕ) → k < 16 * count → get_or tags k 0 ≡ 0 =
    λ k below. ap (λ xs. get_or xs k 0) c.as_mut_slice.ensures.value ∙
    c.resize.ensures.by_index.1 k 0 tags_ok (omega (arith, c.clear.ensures.len)) below in
    let no_reach : (k : ℕ) → k < count → get_or reaches k 0 ≡ 0 =
    λ k below. ap (λ xs. get_or xs k 0) c.as_mut_slice-2.ensures.value ∙
    c.resize-2.ensures.by_index.1 k 0 reaches_ok (omega (arith, c.clear-2.ensures.len)) below in
    record {
      housed = IsHoused-untagged tags c.fill_up.new.self.items reaches count
          c.requires.power c.requires.few tagged placed reached
          (zero_past tags (16 * count) tagged no_tag) (zero_past reaches count reached no_reach);
    }

pub returns-clause-pairs : goal.returns-clause-pairs
returns-clause-pairs g c =
    let old = c.args.places.now.items in
    let mid = c.fill_up.new.self.items in
    HasSamePairs-then old mid c.house_all.new.places.items
    (HasSamePairs-filled old mid (16 * c.args.count - length old) c.in_ok-fill_up.ensures.filled)
    c.house_all.ensures.pairs
