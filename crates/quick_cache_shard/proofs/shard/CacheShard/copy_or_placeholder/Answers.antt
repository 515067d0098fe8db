use Rattle.std.proofs.Common.{sym, ap, ◌∙◌}
use Rattle.quick_cache_model.specs.Hashing.{hash_of}
use Rattle.quick_cache_shard.specs.Shard.{Shard}
use Rattle.quick_cache_shard.proofs.shard.CacheShard.copy_or_placeholder.Goals as goal

-- keys that the query stands for have the hash that is handed in
pub invariant_of-self : goal.invariant_of-self
invariant_of-self g c =
    c.copy_or_placeholder-answer.ensures.sound _
    (λ key stands. ap (hash_of g.B.BuildHasher g.B.Hasher.Hasher c.self.inside.terms.builder)
    (sym (g.met.Q.Equivalent.same_hash c.args.query.now key stands))
    ∙ ap (λ (s : Shard _ _ _ _ _). hash_of g.B.BuildHasher g.B.Hasher.Hasher s.builder
    (g.Q.Hash.hash_input c.args.query.now)) c.self.view_is
    ∙ sym c.requires.hash_is)
    c.self.invariant
