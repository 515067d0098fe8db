use Rattle.std.proofs.Common.{ap, arith, ◌∙◌}
use Rattle.std.specs.List.{swap}
use Rattle.quick_cache_containers.specs.Places.{places_of}
use Rattle.quick_cache_containers.proofs.PairedLists.{are_shown, swap-places_of, same_places}
use Rattle.quick_cache_containers.proofs.table.places.Places.swap.Goals as goal

pub swap-requires-clause-i_in_bounds : goal.swap-requires-clause-i_in_bounds
swap-requires-clause-i_in_bounds g c =
    let inside = c.self.inside in
    let at =
    are_shown inside.hashes.items inside.tokens.items c.args.self.now.items c.args.position
    (ap (λ p. p.items) c.self.view_is) c.self.invariant in
    omega (arith, c.requires.position, at.many, c.self.invariant, inside.hashes.ok.0)

pub swap-requires-2-clause-i_in_bounds : goal.swap-requires-2-clause-i_in_bounds
swap-requires-2-clause-i_in_bounds g c =
    let inside = c.self.inside in
    let at =
    are_shown inside.hashes.items inside.tokens.items c.args.self.now.items c.args.position
    (ap (λ p. p.items) c.self.view_is) c.self.invariant in
    omega (arith, c.requires.position, at.many, c.self.invariant, inside.tokens.ok.0)

pub swap-requires-clause-j_in_bounds : goal.swap-requires-clause-j_in_bounds
swap-requires-clause-j_in_bounds g c =
    let inside = c.self.inside in
    let at =
    are_shown inside.hashes.items inside.tokens.items c.args.self.now.items c.args.position
    (ap (λ p. p.items) c.self.view_is) c.self.invariant in
    omega (arith, c.requires.other, at.many, c.self.invariant, inside.hashes.ok.0)

pub swap-requires-2-clause-j_in_bounds : goal.swap-requires-2-clause-j_in_bounds
swap-requires-2-clause-j_in_bounds g c =
    let inside = c.self.inside in
    let at =
    are_shown inside.hashes.items inside.tokens.items c.args.self.now.items c.args.position
    (ap (λ p. p.items) c.self.view_is) c.self.invariant in
    omega (arith, c.requires.other, at.many, c.self.invariant, inside.tokens.ok.0)

pub returns : goal.returns
returns g c =
    let inside = c.self.inside in
    let at =
    are_shown inside.hashes.items inside.tokens.items c.args.self.now.items c.args.position
    (ap (λ p. p.items) c.self.view_is) c.self.invariant in
    let p = c.args.position in
    let q = c.args.other in
    let swapped =
    ap (λ hashes. places_of hashes c.swap-2.new.self.items) c.swap.ensures.items
    ∙ ap (places_of (swap inside.hashes.items p q)) c.swap-2.ensures.items
    ∙ swap-places_of inside.hashes.items inside.tokens.items p q c.self.invariant
    (omega (arith, c.requires.position, at.many)) (omega (arith, c.requires.other, at.many)) in
    rw (← c.self.view_is) (same_places _ _ _ _ swapped
    (omega (arith, c.swap.ensures.capacity, c.swap-2.ensures.capacity)))
