use Rattle.quick_cache_containers.proofs.IteratedItems.{entries_rest}
use Rattle.quick_cache_containers.specs.Nodes.{item_of}
use Rattle.quick_cache_containers.proofs.linked_slab.LinkedSlab.after.Goals as goal

pub returns : goal.returns
returns g c =
    let least = rw c.as_slice-nodes.ensures.value at c.min-passed.ensures in
    rw (← c.self.view_is, c.as_slice-nodes.ensures.value)
    (entries_rest item_of c.self.inside.nodes.items c.args.passed c.min-passed.result least)
