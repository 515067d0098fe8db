use Rattle.std.proofs.Common.{sym, ap, ◌∙◌}
use Rattle.quick_cache_model.specs.Hashing.{hash_of}
use Rattle.quick_cache_policy.proofs.FindLemmas.{AreHashed-under}
use Rattle.quick_cache_shard.proofs.shard.CacheShard.entry_or_placeholder.Goals as goal

-- the keys that the query stands for have its hash
pub entry_or_placeholder-answer-requires-clause-hashed : goal.entry_or_placeholder-answer-requires-clause-hashed
entry_or_placeholder-answer-requires-clause-hashed g c = λ k passes.
    ap (hash_of g.B.BuildHasher g.B.Hasher.Hasher c.self.inside.terms.builder)
    (sym (g.met.Q.Equivalent.same_hash c.args.query.now k passes))
    ∙ sym (rw (← c.self.view_is) at c.requires.hash_is)

pub entry_or_placeholder-answer-requires-clause-under : goal.entry_or_placeholder-answer-requires-clause-under
entry_or_placeholder-answer-requires-clause-under g c =
    AreHashed-under (g.Q.Equivalent.equivalent c.args.query.now) c.args.hash
    c.self.inside.contents.lists _
    (λ k passes. ap (hash_of g.B.BuildHasher g.B.Hasher.Hasher c.self.inside.terms.builder)
    (sym (g.met.Q.Equivalent.same_hash c.args.query.now k passes))
    ∙ sym (rw (← c.self.view_is) at c.requires.hash_is)) c.self.invariant.hashed

pub entry_or_placeholder-answer-requires-clause-callable : goal.entry_or_placeholder-answer-requires-clause-callable
entry_or_placeholder-answer-requires-clause-callable g c =
    rw (← c.self.view_is) at c.requires.callable

pub returns-clause-answers : goal.returns-clause-answers
returns-clause-answers g c =
    rw (← c.self.view_is) c.entry_or_placeholder-answer.ensures.answers

pub returns-clause-places : goal.returns-clause-places
returns-clause-places g c = rw (← c.self.view_is) c.entry_or_placeholder-answer.ensures.places
