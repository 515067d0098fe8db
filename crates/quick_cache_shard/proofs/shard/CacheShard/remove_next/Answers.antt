use Rattle.std.proofs.Common.{ap}
use Rattle.quick_cache_store.specs.Lists.{number_or_zero}
use Rattle.quick_cache_policy.specs.Contents.{state_of, work_of}
use Rattle.quick_cache_policy.specs.Places.{places_of}
use Rattle.quick_cache_policy.specs.declared.contents.Contents.{Contents}
use Rattle.quick_cache_shard.proofs.NextLemmas.{removed-next}
use Rattle.quick_cache_shard.proofs.shard.CacheShard.remove_next.Goals as goal

pub invariant_of-self : goal.invariant_of-self
invariant_of-self g c = c.remove_next-taken.ensures.sound _ c.self.invariant

-- the item of the least token above goes
pub returns-clause-next : goal.returns-clause-next
returns-clause-next g c =
    rw (← c.self.view_is)
    (removed-next c.self.inside.contents c.remove_next-taken.new.self c.facts.ensures.apart
    (number_or_zero c.args.after) _
    (λ same. ap (λ (r : Contents _ _ _ _ _ _). record {
      state = state_of g.P.SharedPlaceholder.ticket_of r;
      places = places_of r.lists;
      weigher = c.self.inside.terms.weigher;
      builder = c.self.inside.terms.builder;
      lifecycle = c.self.inside.terms.lifecycle;
      room = r.lists.room;
      work = work_of r;
    }) same)
    c.remove_next-taken.result c.remove_next-taken.ensures.first c.remove_next-taken.ensures.token)
