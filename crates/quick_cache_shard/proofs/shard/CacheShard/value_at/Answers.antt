use Rattle.std.specs.Int.NonZero.{non_zero_u32_get as number}
use Rattle.quick_cache_shard.proofs.TokenLemmas.{key_at-some}
use Rattle.quick_cache_shard.proofs.shard.CacheShard.value_at.Goals as goal

-- an item has the token
pub unreachable-requires : goal.unreachable-requires
unreachable-requires g c =
    let taken = key_at-some (number c.args.token) c.args.self.now.places c.requires.there in
    absurd (c.in_default.ensures.shown taken.0 taken.1)
