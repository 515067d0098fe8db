use Rattle.std.proofs.Common.{map, ◌≡◌, ◌+◌, ap, length, count_by, is_some, arith}
use Rattle.quick_cache_containers.specs.Links.{free_of}
use Rattle.quick_cache_containers.proofs.CountedSlots.{slots-counted}
use Rattle.quick_cache_containers.proofs.SlabViews.{free_is}
use Rattle.quick_cache_containers.specs.Nodes.{item_of, next_link, prev_link}
use Rattle.quick_cache_containers.proofs.linked_slab.LinkedSlab.len.Goals as goal

pub returns-clause-free : goal.returns-clause-free
returns-clause-free g c =
    let items = c.self.inside.nodes.items in
    let free = free_is (map item_of items) (map next_link items) (map prev_link items)
    c.self.inside.next_free.value c.self.invariant in
    let all : c.occupied_count.result + length (free_of (map next_link items) c.self.inside.next_free.value)
    ≡ length (map item_of items) = (omega (
      arith,
      ap length free,
      slots-counted (map item_of items) (map next_link items) c.self.inside.next_free.value
          c.self.invariant.free c.self.invariant.are_free,
      c.occupied_count.ensures,
      ap (λ nodes. count_by is_some (map item_of nodes)) c.as_slice.ensures.value,
    )) in rw (← c.self.view_is) all
