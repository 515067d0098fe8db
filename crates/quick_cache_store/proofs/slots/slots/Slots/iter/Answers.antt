use Rattle.quick_cache_store.proofs.slots.JoinedWalks.{entries_past-items}
use Rattle.quick_cache_store.proofs.slots.slots.Slots.iter.Goals as goal

pub returns : goal.returns
returns g c =
    rw c.iter_from.ensures (entries_past-items 0 c.args.self.now.slots)
