use Rattle.std.proofs.Common.{◌∙◌, sym, ap}
use Rattle.quick_cache_model.specs.Hashing.{hash_of}
use Rattle.quick_cache_policy.proofs.FindLemmas.{AreHashed-under}
use Rattle.quick_cache_shard.proofs.shard.CacheShard.reweigh.Goals as goal

-- the keys that the query stands for have its hash
pub reweigh-requires-clause-under : goal.reweigh-requires-clause-under
reweigh-requires-clause-under g c =
    let stands_for = g.Q.Equivalent.equivalent c.args.query.now in
    AreHashed-under stands_for c.args.hash c.self.inside.contents.lists _
    (λ k passes. ap (hash_of g.B.BuildHasher g.B.Hasher.Hasher c.self.inside.terms.builder)
    (sym (g.met.Q.Equivalent.same_hash c.args.query.now k passes))
    ∙ sym (rw (← c.self.view_is) at c.requires.hash_is)) c.self.invariant.hashed

pub returns-clause-reweighs : goal.returns-clause-reweighs
returns-clause-reweighs g c = rw (← c.self.view_is) c.reweigh.ensures.reweighs

pub returns-clause-places : goal.returns-clause-places
returns-clause-places g c = rw (← c.self.view_is) c.reweigh.ensures.stays.places
