use Rattle.std.proofs.Common.{rules}
use Rattle.quick_cache_listeners.proofs.Sums.{total-at_end}
use Rattle.quick_cache_listeners.proofs.bytes.HasBytes.byte_count_of_all.Goals as goal

pub returns : goal.returns
returns g c =
    let end = total-at_end g.Self.HasBytes.byte_count c.loop-item.total c.loop-item.rest.now _
    c.loop-item.invariant.0 (search rules) c.loop-item.invariant.1 in
    search rules
