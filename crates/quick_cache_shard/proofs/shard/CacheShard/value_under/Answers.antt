use Rattle.std.proofs.Common.{◌∙◌, sym, ap}
use Rattle.std.specs.Int.NonZero.{non_zero_u32_get as number}
use Rattle.quick_cache_model.specs.Hashing.{hash_of}
use Rattle.quick_cache_policy.proofs.FindLemmas.{AreHashed-under}
use Rattle.quick_cache_shard.proofs.ReferenceLemmas.{found-shown}
use Rattle.quick_cache_shard.proofs.shard.CacheShard.value_under.Goals as goal

-- the keys that the query stands for have its hash
pub token_under-token-requires-clause-under : goal.token_under-token-requires-clause-under
token_under-token-requires-clause-under g c =
    let stands_for = g.Q.Equivalent.equivalent c.args.query.now in
    AreHashed-under stands_for c.args.hash c.self.inside.contents.lists _
    (λ k passes. ap (hash_of g.B.BuildHasher g.B.Hasher.Hasher c.self.inside.terms.builder)
    (sym (g.met.Q.Equivalent.same_hash c.args.query.now k passes))
    ∙ sym (rw (← c.self.view_is) at c.requires.hash_is)) c.self.invariant.hashed

pub returns : goal.returns
returns g c =
    let stands_for = g.Q.Equivalent.equivalent c.args.query.now in
    rw (← c.self.view_is) (found-shown g.P.SharedPlaceholder.ticket_of c.self.inside.contents
    c.facts.ensures.apart (number c.token_under-token.result) stands_for c.args.hash
    c.token_under-token.ensures g.K.PartialEq.eq (g.met.Q.Equivalent.same_key c.args.query.now) _
    c.self.invariant c.item.result c.item.ensures c.value.result.now c.value.ensures)
