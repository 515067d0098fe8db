use Rattle.std.specs.Int.NonZero.{non_zero_u32_get as number}
use Rattle.quick_cache_policy.specs.Tokens.{TakesToken}
use Rattle.quick_cache_shard.proofs.PlaceLemmas.{IfSome-map, place-leaves}
use Rattle.quick_cache_shard.proofs.shard.CacheShard.take_next.Goals as goal

pub invariant_of-self : goal.invariant_of-self
invariant_of-self g c = c.take_next-taken.ensures.sound _ c.self.invariant

-- the item that goes is that of the token
pub returns-clause-leaves : goal.returns-clause-leaves
returns-clause-leaves g c =
    let old = c.self.inside.contents in
    rw (← c.self.view_is)
    (IfSome-map (λ taken. TakesToken old (number taken.0) taken.1 c.take_next-taken.new.self) _
    c.take_next-taken.result
    (λ taken takes. (rw (takes.gives, takes.rest)
    (place-leaves old.lists c.facts.ensures.apart (number taken.0) takes.item takes.stood)))
    c.take_next-taken.ensures.token)
