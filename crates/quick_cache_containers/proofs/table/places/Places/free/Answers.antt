use Rattle.std.proofs.Common.{ap, arith, refl}
use Rattle.quick_cache_containers.proofs.PairedLists.{are_shown, set_token-places_of, same_places}
use Rattle.quick_cache_containers.proofs.table.places.Places.free.Goals as goal

pub index_mut-requires : goal.index_mut-requires
index_mut-requires g c =
    let inside = c.self.inside in
    let at =
    are_shown inside.hashes.items inside.tokens.items c.args.self.now.items c.args.position
    (ap (λ p. p.items) c.self.view_is) c.self.invariant in
    omega (arith, c.requires, at.many, c.self.invariant, inside.tokens.ok.0)

pub returns : goal.returns
returns g c =
    let inside = c.self.inside in
    rw (← c.self.view_is) (same_places _ _ _ _ (set_token-places_of inside.hashes.items
    inside.tokens.items c.args.position 0 c.self.invariant) refl)
