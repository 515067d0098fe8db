use Rattle.quick_cache_model.specs.Hashing.{hash_of}
use Rattle.quick_cache_shard.proofs.ShardLemmas.{MatchResult-ok}
use Rattle.quick_cache_shard.proofs.shard.CacheShard.try_clone.Goals as goal

-- the copy stands under the hashes of its builder
pub invariant_of-result : goal.invariant_of-result
invariant_of-result g c =
    c.in_ok-try_copy.ensures.sound
    (λ key. hash_of g.B.BuildHasher g.B.Hasher.Hasher c.self.inside.terms.builder
    (g.K.Hash.hash_input key)) c.self.invariant

pub returns-clause-copies : goal.returns-clause-copies
returns-clause-copies g c = rw (← c.self.view_is) c.in_ok-try_copy.ensures.copies

pub returns-clause-weigher : goal.returns-clause-weigher
returns-clause-weigher g c =
    rw (← c.self.view_is)
    (MatchResult-ok _ _ _ _ c.in-Ok-Ok-Ok.is-0 c.clone-weigher.ensures.cases)

pub returns-clause-builder : goal.returns-clause-builder
returns-clause-builder g c =
    rw (← c.self.view_is)
    (MatchResult-ok _ _ _ _ c.in-Ok-Ok-Ok.is-1 c.clone-builder.ensures.cases)

pub returns-clause-lifecycle : goal.returns-clause-lifecycle
returns-clause-lifecycle g c =
    rw (← c.self.view_is)
    (MatchResult-ok _ _ _ _ c.in-Ok-Ok-Ok.is-2 c.clone-lifecycle.ensures.cases)
