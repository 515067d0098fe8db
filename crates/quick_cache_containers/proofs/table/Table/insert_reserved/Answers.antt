use Rattle.std.proofs.Common.{refl, ◌≡◌, ◌-◌, ap, sym, List, ℕ, arith, length}
use Rattle.std.proofs.lemmas.List.{with_items_is}
use Rattle.std.specs.Int.NonZero.{non_zero_u32_get}
use Rattle.quick_cache_containers.specs.Places.{Place}
use Rattle.quick_cache_containers.specs.Table.{in_order}
use Rattle.quick_cache_index.specs.IndexGroups.{capacity_of}
use Rattle.quick_cache_containers.specs.TableGroups.{pairs_of}
use Rattle.quick_cache_containers.proofs.ShownPairs.{IsSound-gain, AddsPair-from_more, count_by-absent, free-from_room, HasOneMore-put}
use Rattle.quick_cache_containers.proofs.table.Table.insert_reserved.Goals as goal

-- a table with room has a free place
pub take_place-requires-clause-room : goal.take_place-requires-clause-room
take_place-requires-clause-room g c =
    let inside = c.self.inside in
    let room : c.args.self.now.room ≡ capacity_of (length inside.reaches.items) - length
    (pairs_of inside.places.items) =
    sym (ap (λ t. t.room) c.self.view_is) in
    (free-from_room inside.tags.items inside.places.items inside.reaches.items inside.mask
    inside.len c.self.invariant (omega (arith, room, c.requires.room, c.self.invariant.counted)))

pub invariant_of-self : goal.invariant_of-self
invariant_of-self g c =
    let inside = c.self.inside in
    let places : List Place = c.self.inside.places.items in
    let token : ℕ = non_zero_u32_get c.args.token in
    let gains =
    HasOneMore-put places places c.take_place.new.places.items c.args.hash c.get.result token refl
    c.get.ensures.value c.take_place.ensures.gains in
    let shows : c.args.self.now.pairs ≡ in_order (pairs_of places) =
    sym (ap (λ t. t.pairs) c.self.view_is) in
    let room : c.args.self.now.room ≡ capacity_of (length inside.reaches.items) - length
    (pairs_of places) =
    sym (ap (λ t. t.room) c.self.view_is) in
    let absent = count_by-absent c.args.self.now places c.args.hash token shows c.requires.is_new in
    rw (
      with_items_is inside.tags c.take_place.new.tags (omega arith),
      with_items_is inside.reaches c.take_place.new.reaches
          (omega arith),
    )
    (IsSound-gain inside.tags.items c.take_place.new.tags places c.take_place.new.places.items
    inside.reaches.items c.take_place.new.reaches inside.mask inside.len c.args.hash token
    c.self.invariant (omega arith) c.take_place.ensures.whole gains absent
    (omega (arith, room, c.requires.room, c.self.invariant.counted)))

pub returns-clause-adds : goal.returns-clause-adds
returns-clause-adds g c =
    let places : List Place = c.self.inside.places.items in
    let token : ℕ = non_zero_u32_get c.args.token in
    let gains =
    HasOneMore-put places places c.take_place.new.places.items c.args.hash c.get.result token refl
    c.get.ensures.value c.take_place.ensures.gains in
    let shows : c.args.self.now.pairs ≡ in_order (pairs_of places) =
    sym (ap (λ t. t.pairs) c.self.view_is) in
    AddsPair-from_more c.args.self.now _ places c.take_place.new.places.items c.args.hash token shows
    refl gains
