-- A place without a tag has no pair, and takes one.
use Rattle.std.proofs.Common.{◌≡◌, ◌<◌, length, true, ap, sym, subst, arith}
use Rattle.std.proofs.lemmas.Bool.{eq-eqb}
use Rattle.quick_cache_containers.specs.Places.{Place}
use Rattle.quick_cache_containers.specs.TableGroups.{is_free, place_at, HasOneMore}
use Rattle.quick_cache_containers.proofs.CountedPlaces.{HasOneMore-take}
use Rattle.quick_cache_containers.proofs.FreePlaces.{untagged_some, taken_is}
use Rattle.quick_cache_containers.proofs.table.groups.take_place.Goals as goal

pub untagged-position-requires-clause-some : goal.untagged-position-requires-clause-some
untagged-position-requires-clause-some g c =
    untagged_some _ c.args.places.now.items _ c.args.mask c.requires.whole.pairs c.requires.room

pub returns-clause-gains : goal.returns-clause-gains
returns-clause-gains g c =
    let whole = c.requires.whole in
    let places = c.args.places.now.items in
    let at = c.untagged-position.result in
    let place : Place = record { hash = c.args.hash; token = c.args.token } in
    let inside : at < length places =
    omega (arith, whole.pairs.sized.tagged, c.untagged-position.ensures.within) in
    let free : is_free (place_at places at) ≡ true =
    eq-eqb _ 0 (whole.bare at inside c.untagged-position.ensures.untagged) in
    let taken = taken_is place c.requires.token in
    subst (λ ps. HasOneMore places ps c.args.hash c.args.token)
    (sym (ap (λ p. p.items) c.put.ensures)) (HasOneMore-take places at place inside free taken)
