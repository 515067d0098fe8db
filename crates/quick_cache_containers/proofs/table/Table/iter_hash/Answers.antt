use Rattle.std.proofs.Common.{◌≡◌, ap, sym, subst, List}
use Rattle.quick_cache_containers.specs.Places.{Place}
use Rattle.quick_cache_containers.specs.Table.{in_order}
use Rattle.quick_cache_containers.specs.TableGroups.{pairs_of, tokens_left, AreTokensOf}
use Rattle.quick_cache_containers.proofs.ShownPairs.{IsTokensOf-walk}
use Rattle.quick_cache_containers.proofs.table.Table.iter_hash.Goals as goal

-- the walk meets each pair of the hash once
pub returns : goal.returns
returns g c =
    let places : List Place = c.self.inside.places.items in
    let shows : c.args.self.now.pairs ≡ in_order (pairs_of places) =
    sym (ap (λ t. t.pairs) c.self.view_is) in
    let P : List Place → Type 0 =
    λ ps. AreTokensOf ps c.args.hash (tokens_left c.new-walk.result) in
    IsTokensOf-walk c.args.self.now places c.args.hash (tokens_left c.new-walk.result) shows
    c.self.invariant.once (subst P c.seen.ensures c.new-walk.ensures.all)
