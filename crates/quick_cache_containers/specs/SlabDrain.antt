-- What a contract sees of a `Drain`: the items to come, and what the slab ends as.
use Rattle.std.specs.Prelude.{◌≡◌, ℕ, ◌+◌, ◌≤◌, List, length, Option, None}
use Rattle.std.specs.Borrow.{GName}
use Rattle.std.specs.Iterator.{YieldsFirst, Yields}
use Rattle.quick_cache_containers.specs.LinkedSlab.{item_at, items}
use Rattle.quick_cache_containers.specs.declared.linked_slab.drain.Drain.{Drain}

module _ {T A : Type 0} where
  -- the items that are still to come
  abbrev pub drain_rest : Drain T A → List T
  drain_rest drain = items drain.slab.now

  -- how much room the slab has once the `Drain` is dropped
  abbrev pub drain_room : Drain T A → ℕ
  drain_room drain = drain.slab.now.room + length drain.slab.now.slots

  -- the ghost name of the reference to the slab
  abbrev pub drain_lender : Drain T A → GName
  drain_lender drain = drain.slab.ghost_name

  -- no token up to the place that it has come to has an item
  abbrev pub DrainCanStep : Drain T A → Type 0
  DrainCanStep drain = (token : ℕ) → token ≤ drain.passed → item_at drain.slab.now token ≡ None

  -- old and new borrow the same slab, and leave it the same room
  abbrev pub DrainKeeps : Drain T A → Drain T A → Type 0
  DrainKeeps old new = (drain_lender new ≡ drain_lender old) × (drain_room new ≡ drain_room old)

  -- `next` took old to new, and returned the first item
  abbrev pub DrainSteps : Drain T A → Option T → Drain T A → Type 0
  DrainSteps old item new =
      YieldsFirst drain_rest old item new × DrainKeeps old new × DrainCanStep new

  -- each state that calls of `next` lead to keeps what the first keeps
  abbrev pub DrainKeepsAlong : Drain T A → Type 0
  DrainKeepsAlong first = (taken : List T) (later : Drain T A) → Yields DrainSteps first taken later
      → DrainKeeps first later
