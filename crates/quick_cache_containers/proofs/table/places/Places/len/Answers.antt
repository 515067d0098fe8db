use Rattle.std.proofs.Common.{ap, arith}
use Rattle.quick_cache_containers.proofs.PairedLists.{are_shown}
use Rattle.quick_cache_containers.proofs.table.places.Places.len.Goals as goal

pub returns : goal.returns
returns g c =
    let at =
    are_shown c.self.inside.hashes.items c.self.inside.tokens.items c.args.self.now.items 0
    (ap (λ p. p.items) c.self.view_is) c.self.invariant in
    omega (arith, at.many, c.self.invariant)
