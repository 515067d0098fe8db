use Rattle.std.proofs.Common.{ap, sym, arith}
use Rattle.quick_cache_containers.proofs.ShownPairs.{pair_count-of}
use Rattle.quick_cache_containers.proofs.table.Table.has_room.Goals as goal

pub returns-clause-most : goal.returns-clause-most
returns-clause-most g c =
    let count =
    pair_count-of c.args.self.now c.self.inside.places.items
    (sym (ap (λ t. t.pairs) c.self.view_is)) in
    omega
    (arith, count, c.self.invariant.counted, c.self.invariant.load, ap (λ t. t.room) c.self.view_is)
