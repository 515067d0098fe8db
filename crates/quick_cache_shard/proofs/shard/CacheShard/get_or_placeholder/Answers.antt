use Rattle.std.proofs.Common.{sym, ap, ◌∙◌}
use Rattle.quick_cache_model.specs.Hashing.{hash_of}
use Rattle.quick_cache_shard.specs.Shard.{Shard}
use Rattle.quick_cache_shard.proofs.LoadingLemmas.{FindsToken-looked}
use Rattle.quick_cache_shard.proofs.shard.CacheShard.get_or_placeholder.Goals as goal

-- keys that the query stands for have the hash that is handed in
pub invariant_of-self : goal.invariant_of-self
invariant_of-self g c =
    c.get_or_placeholder-answer.ensures.sound _
    (λ key stands. ap (hash_of g.B.BuildHasher g.B.Hasher.Hasher c.self.inside.terms.builder)
    (sym (g.met.Q.Equivalent.same_hash c.args.query.now key stands))
    ∙ ap (λ (s : Shard _ _ _ _ _). hash_of g.B.BuildHasher g.B.Hasher.Hasher s.builder
    (g.Q.Hash.hash_input c.args.query.now)) c.self.view_is
    ∙ sym c.requires.hash_is)
    c.self.invariant

-- an item that was found stands at the token
pub returns-clause-token : goal.returns-clause-token
returns-clause-token g c =
    FindsToken-looked g.P.SharedPlaceholder.ticket_of g.P.SharedPlaceholder.own_ticket
    (g.Q.Equivalent.equivalent c.args.query.now) (g.Q.ToKey.to_key_gives c.args.query.now)
    c.args.hash c.self.inside.contents c.get_or_placeholder-answer.new.self _ _ _
    c.get_or_placeholder-answer.result c.get_or_placeholder-answer.ensures.answers
