use Rattle.std.proofs.Common.{ap, arith, refl}
use Rattle.quick_cache_containers.proofs.PairedLists.{are_shown, set-places_of, same_places}
use Rattle.quick_cache_containers.proofs.table.places.Places.put.Goals as goal

pub index_mut-requires : goal.index_mut-requires
index_mut-requires g c =
    let inside = c.self.inside in
    let at =
    are_shown inside.hashes.items inside.tokens.items c.args.self.now.items c.args.position
    (ap (λ p. p.items) c.self.view_is) c.self.invariant in
    omega (arith, c.requires, at.many, inside.hashes.ok.0)

pub index_mut-requires-2 : goal.index_mut-requires-2
index_mut-requires-2 g c =
    let inside = c.self.inside in
    let at =
    are_shown inside.hashes.items inside.tokens.items c.args.self.now.items c.args.position
    (ap (λ p. p.items) c.self.view_is) c.self.invariant in
    omega (arith, c.requires, at.many, c.self.invariant, inside.tokens.ok.0)

pub returns : goal.returns
returns g c =
    let inside = c.self.inside in
    rw (← c.self.view_is) (same_places _ _ _ _ (set-places_of inside.hashes.items
    inside.tokens.items c.args.position c.args.hash c.args.token) refl)
