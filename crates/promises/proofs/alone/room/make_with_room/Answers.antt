use Rattle.std.proofs.Common.{ℕ, ◌≤◌, ◌+◌, ◌*◌, min, max, arith}
use Rattle.quick_cache_shard.specs.Room.{most_room}
use Rattle.promises.proofs.alone.room.make_with_room.Goals as goal

-- an empty cache has no room, and as many ghosts are made room for as items, at most
four-times : (room items limit : ℕ) → room ≤ max 0 (most_room 0 (items + min items limit))
    → room ≤ 4 * items + 14
four-times room items limit is = omega (arith, is)

pub returns-clause-at_most : goal.returns-clause-at_most
returns-clause-at_most g c = four-times _ c.args.items _
    (rw c.in_ok-cache.ensures.makes at c.reserve.ensures.at_most)
