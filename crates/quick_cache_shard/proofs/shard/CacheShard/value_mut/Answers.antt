use Rattle.std.proofs.Common.{◌∙◌, refl, sym, ap}
use Rattle.std.specs.Int.NonZero.{non_zero_u32_get as number}
use Rattle.quick_cache_model.specs.Hashing.{hash_of}
use Rattle.quick_cache_policy.proofs.FindLemmas.{AreHashed-under}
use Rattle.quick_cache_store.specs.Lists.{with_value}
use Rattle.quick_cache_policy.proofs.PlaceLemmas.{places_of-change}
use Rattle.quick_cache_policy.proofs.ReferenceLemmas.{written-state, written-sound}
use Rattle.quick_cache_shard.proofs.ReferenceLemmas.{found-single, found-shown}
use Rattle.quick_cache_shard.proofs.shard.CacheShard.value_mut.Goals as goal

-- the keys that the query stands for have its hash
pub token_under-token-requires-clause-under : goal.token_under-token-requires-clause-under
token_under-token-requires-clause-under g c =
    let stands_for = g.Q.Equivalent.equivalent c.args.query.now in
    AreHashed-under stands_for c.args.hash c.self.inside.contents.lists _
    (λ k passes. ap (hash_of g.B.BuildHasher g.B.Hasher.Hasher c.self.inside.terms.builder)
    (sym (g.met.Q.Equivalent.same_hash c.args.query.now k passes))
    ∙ sym (rw (← c.self.view_is) at c.requires.hash_is)) c.self.invariant.hashed

-- whatever value is written
pub invariant_of-self-lent : goal.invariant_of-self-lent
invariant_of-self-lent g c w =
    written-sound g.P.SharedPlaceholder.ticket_of c.self.inside.contents c.facts.ensures.apart
    (number c.token_under-token.result) (g.Q.Equivalent.equivalent c.args.query.now) c.args.hash
    c.token_under-token.ensures w g.K.PartialEq.eq _ c.self.invariant

pub returns : goal.returns
returns g c =
    let ticket_of = g.P.SharedPlaceholder.ticket_of in
    let stands_for = g.Q.Equivalent.equivalent c.args.query.now in
    let token = number c.token_under-token.result in
    let single = found-single ticket_of c.self.inside.contents c.facts.ensures.apart token
    stands_for c.args.hash c.token_under-token.ensures g.K.PartialEq.eq
    (g.met.Q.Equivalent.same_key c.args.query.now) _ c.self.invariant in (
      (
        refl,
        λ w. rw (← c.self.view_is)
            (λ i. record {
              state = written-state ticket_of c.self.inside.contents c.facts.ensures.apart token
                  stands_for c.args.hash c.token_under-token.ensures w single i;
              places = places_of-change token (with_value w) (λ i. refl)
                  c.self.inside.contents.lists i;
              weigher = c.self.inside.terms.weigher;
              builder = c.self.inside.terms.builder;
              lifecycle = c.self.inside.terms.lifecycle;
              room = c.self.inside.contents.lists.room;
              work = record {
                advances = c.self.inside.contents.advances;
                visits = c.self.inside.contents.visits;
              };
            }),
      ),
      record {
        writes_back = tt;
        value = rw (← c.self.view_is) (found-shown ticket_of c.self.inside.contents
            c.facts.ensures.apart token stands_for c.args.hash c.token_under-token.ensures
            g.K.PartialEq.eq (g.met.Q.Equivalent.same_key c.args.query.now) _ c.self.invariant
            c.value_mut.ensures.value.0 c.value_mut.ensures.value.1 c.value_mut.result.now
            c.value_mut.ensures.value.2);
      },
    )
