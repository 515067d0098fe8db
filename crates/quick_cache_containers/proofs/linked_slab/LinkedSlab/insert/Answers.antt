use Rattle.std.proofs.Common.{map, ◌≡◌, ◌≢◌, ◌⊎◌, ◌+◌, length, inl, inr, refl, ap, vec_len, vec_capacity, arith}
use Rattle.std.proofs.lemmas.List.{with_items_is, length-map, map_push}
use Rattle.quick_cache_containers.specs.Links.{room_of}
use Rattle.quick_cache_containers.proofs.SlabViews.{next_token-is, none_free, some_free, next_after, Reused-at, Grown-at}
use Rattle.quick_cache_containers.proofs.PartedRings.{IsParted-nodes}
use Rattle.quick_cache_containers.proofs.EditsByToken.{PlacesItem-from, spare-placed}
use Rattle.quick_cache_containers.specs.LinkedSlab.{IsParted}
use Rattle.quick_cache_containers.proofs.linked_slab.LinkedSlab.insert.Goals as goal
use Rattle.quick_cache_containers.specs.Nodes.{item_of}
use Rattle.quick_cache_containers.proofs.linked_slab.LinkedSlab.insert.Goals.{then-get, else-get}

pub invariant_of-self : goal.invariant_of-self
invariant_of-self g c =
    let nodes = c.self.inside.nodes in
    let first = c.self.inside.next_free.value in
    let items = with_items_is nodes c.fill-link.new.nodes (omega arith) in
    let long = length-map nodes.items item_of in
    let link = rw c.as_mut_slice.ensures.value at c.fill-link.ensures.link in
    let choice : ((c.fill-link.result.value ≡ first)
    × (c.if-get.self.value ≡ length (map item_of nodes.items) + 1))
    ⊎ ((c.fill-link.result.value ≢ first) × (c.if-get.self.value ≡ c.fill-link.result.value)) =
    elim c.if-get.branch [
      | then-get w ↦ inl (
        omega (arith, w.if-get.true),
        rw w.self-is
            (omega (arith, w.past-self-inside.ensures)),
      )
      | else-get w ↦ inr (λ same. omega (arith, w.if-get.false), rw w.self-is)
    ] in
    let after = rw link at (next_after c.fill-link.result.value first
    (length (map item_of nodes.items) + 1) c.if-get.self.value choice) in
    let reused = Reused-at _ _ _ first
    (room_of (vec_capacity nodes) (vec_len nodes)) c.args.item c.if-get.self.value
    c.self.invariant (omega arith) after in
    rw (
      items,
      c.fill-link.ensures.slots,
      c.fill-link.ensures.nexts,
      c.fill-link.ensures.prevs,
      c.as_mut_slice.ensures.value,
    ) reused.sound

pub returns-then-get-len-clause-placed : goal.returns-then-get-len-clause-placed
returns-then-get-len-clause-placed g c =
    let nodes = c.self.inside.nodes in
    let first = c.self.inside.next_free.value in
    let items = with_items_is nodes c.fill-link.new.nodes (omega arith) in
    let long = length-map nodes.items item_of in
    let link = rw c.as_mut_slice.ensures.value at c.fill-link.ensures.link in
    let choice : ((c.fill-link.result.value ≡ first)
    × (c.if-get.self.value ≡ length (map item_of nodes.items) + 1))
    ⊎ ((c.fill-link.result.value ≢ first) × (c.if-get.self.value ≡ c.fill-link.result.value)) =
    elim c.if-get.branch [
      | then-get w ↦ inl (
        omega (arith, w.if-get.true),
        rw w.self-is
            (omega (arith, w.past-self-inside.ensures)),
      )
      | else-get w ↦ inr (λ same. omega (arith, w.if-get.false), rw w.self-is)
    ] in
    let after = rw link at (next_after c.fill-link.result.value first
    (length (map item_of nodes.items) + 1) c.if-get.self.value choice) in
    let reused = Reused-at _ _ _ first
    (room_of (vec_capacity nodes) (vec_len nodes)) c.args.item c.if-get.self.value
    c.self.invariant (omega arith) after in
    rw (
      ← c.self.view_is,
      items,
      c.fill-link.ensures.slots,
      c.fill-link.ensures.nexts,
      c.as_mut_slice.ensures.value,
    ) reused.view

pub returns-then-get-len-clause-item : goal.returns-then-get-len-clause-item
returns-then-get-len-clause-item g c =
    let nodes = c.self.inside.nodes in
    let first = c.self.inside.next_free.value in
    let items = with_items_is nodes c.fill-link.new.nodes (omega arith) in
    let long = length-map nodes.items item_of in
    let link = rw c.as_mut_slice.ensures.value at c.fill-link.ensures.link in
    let choice : ((c.fill-link.result.value ≡ first)
    × (c.if-get.self.value ≡ length (map item_of nodes.items) + 1))
    ⊎ ((c.fill-link.result.value ≢ first) × (c.if-get.self.value ≡ c.fill-link.result.value)) =
    elim c.if-get.branch [
      | then-get w ↦ inl (
        omega (arith, w.if-get.true),
        rw w.self-is
            (omega (arith, w.past-self-inside.ensures)),
      )
      | else-get w ↦ inr (λ same. omega (arith, w.if-get.false), rw w.self-is)
    ] in
    let after = rw link at (next_after c.fill-link.result.value first
    (length (map item_of nodes.items) + 1) c.if-get.self.value choice) in
    let reused = Reused-at _ _ _ first
    (room_of (vec_capacity nodes) (vec_len nodes)) c.args.item c.if-get.self.value
    c.self.invariant (omega arith) after in
    rw (items, c.fill-link.ensures.slots, c.as_mut_slice.ensures.value) reused.holds

pub returns-then-get-len-clause-alone : goal.returns-then-get-len-clause-alone
returns-then-get-len-clause-alone g c =
    let nodes = c.self.inside.nodes in
    let first = c.self.inside.next_free.value in
    let items = with_items_is nodes c.fill-link.new.nodes (omega arith) in
    let long = length-map nodes.items item_of in
    let link = rw c.as_mut_slice.ensures.value at c.fill-link.ensures.link in
    let choice : ((c.fill-link.result.value ≡ first)
    × (c.if-get.self.value ≡ length (map item_of nodes.items) + 1))
    ⊎ ((c.fill-link.result.value ≢ first) × (c.if-get.self.value ≡ c.fill-link.result.value)) =
    elim c.if-get.branch [
      | then-get w ↦ inl (
        omega (arith, w.if-get.true),
        rw w.self-is
            (omega (arith, w.past-self-inside.ensures)),
      )
      | else-get w ↦ inr (λ same. omega (arith, w.if-get.false), rw w.self-is)
    ] in
    let after = rw link at (next_after c.fill-link.result.value first
    (length (map item_of nodes.items) + 1) c.if-get.self.value choice) in
    let reused = Reused-at _ _ _ first
    (room_of (vec_capacity nodes) (vec_len nodes)) c.args.item c.if-get.self.value
    c.self.invariant (omega arith) after in
    rw (items, c.fill-link.ensures.slots, c.fill-link.ensures.nexts, c.as_mut_slice.ensures.value)
    reused.alone

-- a free token is there, so the slab is not full
pub returns-then-get-len-clause-full : goal.returns-then-get-len-clause-full
returns-then-get-len-clause-full g c =
    let long = length-map c.self.inside.nodes.items item_of in (
      λ e. absurd (cc),
      λ full. absurd
          (some_free _ _ _ _ c.self.invariant (omega arith) (rw (← c.self.view_is) at full.0)),
    )

pub invariant_of-self-then-is_err : goal.invariant_of-self-then-is_err
invariant_of-self-then-is_err g c = rw c.make_room.ensures.items c.self.invariant

pub invariant_of-self-2 : goal.invariant_of-self-2
invariant_of-self-2 g c =
    let nodes = c.self.inside.nodes in
    let long = length-map nodes.items item_of in
    let last = none_free _ _ _ _ c.self.invariant (omega arith) in
    let grown = Grown-at _ _ _ c.self.inside.next_free.value
    (room_of (vec_capacity nodes) (vec_len nodes))
    (room_of (vec_capacity nodes) (vec_len nodes)) c.args.item c.past-self-inside-2.result.value
    c.self.invariant (omega arith) (omega arith) (omega (arith, last.1)) in
    rw (
      c.push_reserved.ensures.items,
      c.make_room.ensures.items,
      map_push,
      map_push,
      map_push,
      c.holding.ensures.item,
      c.holding.ensures.next,
      c.holding.ensures.prev,
    ) grown.sound

pub returns-clause-placed : goal.returns-clause-placed
returns-clause-placed g c =
    let nodes = c.self.inside.nodes in
    let grown_nodes = c.push_reserved.new.self in
    let long = length-map nodes.items item_of in
    let last = none_free _ _ _ _ c.self.invariant (omega arith) in
    let grown = Grown-at _ _ _ c.self.inside.next_free.value
    (room_of (vec_capacity nodes) (vec_len nodes))
    (room_of (vec_capacity grown_nodes) (vec_len grown_nodes)) c.args.item
    c.past-self-inside-2.result.value c.self.invariant (omega arith) (omega arith)
    (omega (arith, last.1)) in
    rw (
      ← c.self.view_is,
      c.push_reserved.ensures.items,
      c.make_room.ensures.items,
      map_push,
      map_push,
      c.holding.ensures.item,
      c.holding.ensures.next,
    ) grown.view

pub returns-clause-item : goal.returns-clause-item
returns-clause-item g c =
    let nodes = c.self.inside.nodes in
    let grown_nodes = c.push_reserved.new.self in
    let long = length-map nodes.items item_of in
    let last = none_free _ _ _ _ c.self.invariant (omega arith) in
    let grown = Grown-at _ _ _ c.self.inside.next_free.value
    (room_of (vec_capacity nodes) (vec_len nodes))
    (room_of (vec_capacity grown_nodes) (vec_len grown_nodes)) c.args.item
    c.past-self-inside-2.result.value c.self.invariant (omega arith) (omega arith)
    (omega (arith, last.1)) in
    rw (c.push_reserved.ensures.items, c.make_room.ensures.items, map_push, c.holding.ensures.item) grown.holds

pub returns-clause-alone : goal.returns-clause-alone
returns-clause-alone g c =
    let nodes = c.self.inside.nodes in
    let grown_nodes = c.push_reserved.new.self in
    let long = length-map nodes.items item_of in
    let last = none_free _ _ _ _ c.self.invariant (omega arith) in
    let grown = Grown-at _ _ _ c.self.inside.next_free.value
    (room_of (vec_capacity nodes) (vec_len nodes))
    (room_of (vec_capacity grown_nodes) (vec_len grown_nodes)) c.args.item
    c.past-self-inside-2.result.value c.self.invariant (omega arith) (omega arith)
    (omega (arith, last.1)) in
    rw (c.push_reserved.ensures.items, c.make_room.ensures.items, map_push, map_push, c.holding.ensures.item, c.holding.ensures.next)
    grown.alone

pub returns-then-get-len-clause-edit : goal.returns-then-get-len-clause-edit
returns-then-get-len-clause-edit g c =
    let nodes = c.self.inside.nodes in
    let at = next_token-is _ _ _ c.self.inside.next_free.value
    (room_of (vec_capacity nodes) (vec_len nodes)) c.self.invariant in
    let parted : IsParted c.args.self.now =
    rw (← c.self.view_is) (IsParted-nodes item_of nodes.items c.self.inside.next_free.value
    (vec_capacity nodes) (vec_len nodes) (omega arith) c.self.invariant) in
    PlacesItem-from c.args.self.now _ c.self.inside.next_free.value c.args.item parted
    (rw (← c.self.view_is) at) (returns-then-get-len-clause-placed g c)

pub returns-then-get-len-clause-parted : goal.returns-then-get-len-clause-parted
returns-then-get-len-clause-parted g c =
    let items = with_items_is c.self.inside.nodes c.fill-link.new.nodes (omega arith) in
    IsParted-nodes item_of _ _ _ _ (omega (arith, ap length items)) (invariant_of-self g c)

pub returns-then-get-len-clause-spare : goal.returns-then-get-len-clause-spare
returns-then-get-len-clause-spare g c =
    let nodes = c.self.inside.nodes in
    let long = length-map nodes.items item_of in
    let some = some_free _ _ _ _ c.self.invariant (omega arith) in
    spare-placed c.args.self.now _ c.args.item (returns-then-get-len-clause-placed g c)
    (λ _. rw (← c.self.view_is) refl) (λ none. absurd (some (rw (← c.self.view_is) at none)))

pub returns-then-len-ge-MAX_SLOTS-clause-parted : goal.returns-then-len-ge-MAX_SLOTS-clause-parted
returns-then-len-ge-MAX_SLOTS-clause-parted g c =
    let nodes = c.self.inside.nodes in
    rw (← c.self.view_is) (IsParted-nodes item_of nodes.items c.self.inside.next_free.value
    (vec_capacity nodes) (vec_len nodes) (omega arith) c.self.invariant)

pub returns-then-is_err-clause-parted : goal.returns-then-is_err-clause-parted
returns-then-is_err-clause-parted g c =
    IsParted-nodes item_of _ _ _ _ (omega (arith, ap length c.make_room.ensures.items))
    (invariant_of-self-then-is_err g c)

pub returns-clause-edit : goal.returns-clause-edit
returns-clause-edit g c =
    let nodes = c.self.inside.nodes in
    let at = next_token-is _ _ _ c.self.inside.next_free.value
    (room_of (vec_capacity nodes) (vec_len nodes)) c.self.invariant in
    let parted : IsParted c.args.self.now =
    rw (← c.self.view_is) (IsParted-nodes item_of nodes.items c.self.inside.next_free.value
    (vec_capacity nodes) (vec_len nodes) (omega arith) c.self.invariant) in
    PlacesItem-from c.args.self.now _ c.self.inside.next_free.value c.args.item parted
    (rw (← c.self.view_is) at) (returns-clause-placed g c)

pub returns-clause-parted : goal.returns-clause-parted
returns-clause-parted g c =
    IsParted-nodes item_of _ _ _ _ (omega arith) (invariant_of-self-2 g c)

pub returns-clause-spare : goal.returns-clause-spare
returns-clause-spare g c =
    let nodes = c.self.inside.nodes in
    let long = length-map nodes.items item_of in
    let last = none_free _ _ _ _ c.self.invariant (omega arith) in
    let room : c.args.self.now.room ≡ room_of (vec_capacity nodes) (vec_len nodes) =
    rw (← c.self.view_is) refl in
    spare-placed c.args.self.now _ c.args.item (returns-clause-placed g c)
    (λ more. absurd (more (rw (← c.self.view_is) last.0)))
    (λ _ some. let same = (c.make_room.ensures.had_room (omega arith)).1 in omega arith)
