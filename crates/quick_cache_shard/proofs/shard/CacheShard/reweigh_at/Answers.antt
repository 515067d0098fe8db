use Rattle.std.specs.Int.NonZero.{non_zero_u32_get as number}
use Rattle.quick_cache_policy.specs.Places.{places_of}
use Rattle.quick_cache_shard.proofs.PlaceLemmas.{place-item}
use Rattle.quick_cache_shard.proofs.TokenLemmas.{key_at-some, some-key_at, found-at}
use Rattle.quick_cache_shard.proofs.shard.CacheShard.reweigh_at.Goals as goal

pub reweigh_token-requires-clause-there : goal.reweigh_token-requires-clause-there
reweigh_token-requires-clause-there g c =
    let taken = key_at-some (number c.args.token) (places_of c.self.inside.contents.lists)
    (rw (← c.self.view_is) at c.requires.there) in
    place-item c.self.inside.contents.lists (number c.args.token) taken.0 taken.1

-- the item is the one under each query that stands for its key
pub returns-clause-reweighs : goal.returns-clause-reweighs
returns-clause-reweighs g c = rw (← c.self.view_is) (λ stands_for under.
    let found = found-at c.self.inside.contents.lists (number c.args.token)
    under.item.key under.stands.place stands_for under.passes in
    c.reweigh_token.ensures.reweighs stands_for found.0 found.1)

pub returns-clause-places : goal.returns-clause-places
returns-clause-places g c = rw (← c.self.view_is) c.reweigh_token.ensures.stays.places

pub returns-clause-there : goal.returns-clause-there
returns-clause-there g c =
    let there = c.reweigh_token.ensures.there in
    some-key_at (number c.args.token) there.0 (places_of c.reweigh_token.new.self.lists) there.1
