use Rattle.std.proofs.Common.{ap, sym, subst}
use Rattle.quick_cache_containers.specs.TableGroups.{hash_at, place_at, HasOneMore}
use Rattle.quick_cache_containers.proofs.FreedPlaces.{HasOneMore-leave}
use Rattle.quick_cache_containers.proofs.table.groups.free_place.Goals as goal

pub returns-clause-loses : goal.returns-clause-loses
returns-clause-loses g c =
    let places = c.args.places.now.items in
    let left = place_at places c.args.position in
    subst (λ ps. HasOneMore ps places (hash_at left) left.token)
    (sym (ap (λ p. p.items) c.free.ensures))
    (HasOneMore-leave places c.args.position (hash_at left) c.requires.within c.requires.taken)
