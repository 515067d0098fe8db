-- What a slot has: an item or none, and its two links. No public clause cites this module.
use Rattle.std.specs.Prelude.{ℕ, Option, Some}
use Rattle.std.specs.Int.NonZero.{non_zero_u32_get}
use Rattle.std.specs.Borrow.{Lends, Fml, RattleType, MutBor}
use Rattle.quick_cache_containers.specs.declared.linked_slab.node.Node.{Node}
use Rattle.quick_cache_containers.specs.contracts.linked_slab.node.Node.{the_row}

module _ {T : Type 0} where
  -- the item of a slot, if it has one
  abbrev pub item_of : Node T → Option T
  item_of node = node.item

  -- the number of the token that a slot names as the next
  abbrev pub next_link : Node T → ℕ
  next_link node = non_zero_u32_get node.next

  -- the number of the token that it names before itself
  abbrev pub prev_link : Node T → ℕ
  prev_link node = non_zero_u32_get node.prev

  -- the slot with this item
  abbrev pub holding : Node T → T → Node T
  holding node item = record node { item = Some item }

-- once the borrow ends, the slot has the last item written through it
abbrev pub lends_node : (T : RattleType) → MutBor (Node T.Denot) → MutBor T.Denot → Fml
lends_node T node r = Lends (the_row T) T node r (holding node.now)
