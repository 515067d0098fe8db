use Rattle.std.proofs.Common.{rules, ◌≡◌, replicate, ap, sym, arith, ◌∙◌, length}
use Rattle.quick_cache_containers.specs.Places.{places_of}
use Rattle.quick_cache_containers.specs.TableGroups.{empty_place}
use Rattle.quick_cache_containers.proofs.PairedLists.{length-places_of, places_of-free, same_places}
use Rattle.quick_cache_containers.proofs.table.places.Places.free_all.Goals as goal

pub returns : goal.returns
returns g c =
    let inside = c.self.inside in
    let count = length inside.hashes.items in
    let many = length-places_of inside.hashes.items inside.tokens.items c.self.invariant in
    let hashes : c.fill.new.self.items ≡ replicate count 0 =
    c.fill.ensures.items (search rules) ∙ ap (λ n. replicate n 0) inside.hashes.ok.0 in
    let tokens : c.fill-2.new.self.items ≡ replicate count 0 =
    c.fill-2.ensures.items (search rules)
    ∙ ap (λ n. replicate n 0) (omega (arith, inside.tokens.ok.0, c.self.invariant)) in
    let freed =
    ap (λ hs. places_of hs c.fill-2.new.self.items) hashes
    ∙ ap (places_of (replicate count 0)) tokens ∙ places_of-free count
    ∙ ap (λ n. replicate n empty_place) (sym many) in
    rw (← c.self.view_is) (same_places _ _ _ _ freed
    (omega (arith, c.fill.ensures.capacity, c.fill-2.ensures.capacity)))
