use Rattle.std.proofs.Common.{◌≡◌, ap, ◌∙◌, [], length, arith}
use Rattle.std.proofs.lemmas.List.{with_items_is}
use Rattle.quick_cache_containers.specs.Table.{in_order}
use Rattle.quick_cache_containers.specs.TableGroups.{pairs_of}
use Rattle.quick_cache_containers.proofs.PairOrder.{length-in_order}
use Rattle.quick_cache_containers.proofs.ShownPairs.{pairs_of-free, IsSound-freed}
use Rattle.quick_cache_containers.proofs.table.Table.clear.Goals as goal

pub invariant_of-self : goal.invariant_of-self
invariant_of-self g c =
    let none : pairs_of c.free_all.new.places.items ≡ [] =
    ap pairs_of c.free_all.ensures.free ∙ pairs_of-free (length c.self.inside.places.items) in
    rw (
      with_items_is c.self.inside.tags c.free_all.new.tags (omega arith),
      with_items_is c.self.inside.reaches
          c.free_all.new.reaches (omega arith),
    )
    (IsSound-freed c.free_all.new.tags c.free_all.new.places.items c.free_all.new.reaches
    c.self.inside.mask c.free_all.ensures.whole none)

pub returns-clause-pairs : goal.returns-clause-pairs
returns-clause-pairs g c =
    ap (λ places. in_order (pairs_of places)) c.free_all.ensures.free ∙ ap in_order
    (pairs_of-free (length c.self.inside.places.items))

-- there are as many groups as there were, and no pair
pub returns-clause-room : goal.returns-clause-room
returns-clause-room g c =
    let none : pairs_of c.free_all.new.places.items ≡ [] =
    ap pairs_of c.free_all.ensures.free ∙ pairs_of-free (length c.self.inside.places.items) in
    let groups : length c.free_all.new.reaches ≡ length c.self.inside.reaches.items =
    c.free_all.ensures.groups ∙ ap length c.as_mut_slice-2.ensures.value in
    rw (
      with_items_is
          c.self.inside.reaches c.free_all.new.reaches (omega arith),
      ← c.self.view_is,
    )
    (omega (
      arith,
      ap length none,
      groups,
      length-in_order (pairs_of c.self.inside.places.items),
      c.self.invariant.counted,
      c.self.invariant.load,
    ))
