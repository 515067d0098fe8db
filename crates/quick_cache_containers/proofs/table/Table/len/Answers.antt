use Rattle.std.proofs.Common.{◌∙◌, ap, sym, arith}
use Rattle.quick_cache_containers.proofs.ShownPairs.{pair_count-of}
use Rattle.quick_cache_containers.proofs.table.Table.len.Goals as goal

pub returns-clause-value : goal.returns-clause-value
returns-clause-value g c =
    c.self.invariant.counted ∙ sym (pair_count-of c.args.self.now c.self.inside.places.items
    (sym (ap (λ t. t.pairs) c.self.view_is)))

pub returns-clause-most : goal.returns-clause-most
returns-clause-most g c =
    let count = returns-clause-value g c in
    omega
    (arith, count, c.self.invariant.counted, c.self.invariant.load, ap (λ t. t.room) c.self.view_is)
