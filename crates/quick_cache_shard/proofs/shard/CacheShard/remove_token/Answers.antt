use Rattle.std.proofs.Common.{ap}
use Rattle.std.specs.Int.NonZero.{non_zero_u32_get as number}
use Rattle.quick_cache_policy.specs.Contents.{state_of, work_of}
use Rattle.quick_cache_policy.specs.Places.{places_of}
use Rattle.quick_cache_policy.specs.declared.contents.Contents.{Contents}
use Rattle.quick_cache_shard.proofs.PlaceLemmas.{MatchOption-map, place-item, place-leaves}
use Rattle.quick_cache_shard.proofs.shard.CacheShard.remove_token.Goals as goal

pub invariant_of-self : goal.invariant_of-self
invariant_of-self g c = c.remove_token-taken.ensures.sound _ c.self.invariant

pub returns-clause-leaves : goal.returns-clause-leaves
returns-clause-leaves g c =
    let old = c.self.inside.contents in
    let t = number c.args.token in
    rw (← c.self.view_is)
    (MatchOption-map _ _ _ _ c.remove_token-taken.result
    (λ none. (
      (λ key there. none.0 (place-item old.lists t key there)),
      ap (λ (r : Contents _ _ _ _ _ _). record {
        state = state_of g.P.SharedPlaceholder.ticket_of r;
        places = places_of r.lists;
        weigher = c.self.inside.terms.weigher;
        builder = c.self.inside.terms.builder;
        lifecycle = c.self.inside.terms.lifecycle;
        room = r.lists.room;
        work = work_of r;
      }) none.1,
    ))
    (λ pair takes. (rw (takes.gives, takes.rest)
    (place-leaves old.lists c.facts.ensures.apart t takes.item takes.stood)))
    c.remove_token-taken.ensures.removes)
