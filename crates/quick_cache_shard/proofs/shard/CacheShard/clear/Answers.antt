use Rattle.std.proofs.Common.{◌+◌, [], ap, ◌∙◌}
use Rattle.quick_cache_model.specs.Refusals.{slots_taken}
use Rattle.quick_cache_model.specs.Removal.{cleared}
use Rattle.quick_cache_model.specs.CacheState.{CacheState}
use Rattle.quick_cache_policy.specs.declared.contents.Contents.{Contents}
use Rattle.quick_cache_policy.specs.Contents.{work_of}
use Rattle.quick_cache_policy.proofs.AnswerLemmas.{entry_count-taken}
use Rattle.quick_cache_shard.specs.Shard.{Shard}
use Rattle.quick_cache_shard.proofs.PlaceLemmas.{places_of-none}
use Rattle.quick_cache_shard.proofs.shard.CacheShard.clear.Goals as goal

pub invariant_of-self : goal.invariant_of-self
invariant_of-self g c = c.clear.ensures.sound _ c.self.invariant

-- where no item is left, no place is
pub returns-clause-clears : goal.returns-clause-clears
returns-clause-clears g c =
    let old = c.self.inside.contents in
    let clears = c.clear.ensures.clears in
    let places = places_of-none c.clear.new.self.lists
    (ap (λ (s : CacheState _ _). s.hot) clears) (ap (λ (s : CacheState _ _). s.cold) clears)
    (ap (λ (s : CacheState _ _). s.still) clears) in
    let room = c.clear.ensures.room
    ∙ ap (λ n. old.lists.room + n) (entry_count-taken g.P.SharedPlaceholder.ticket_of old) in
    let work = ap (λ (r : Contents _ _ _ _ _ _). work_of r) c.clear.ensures.same in
    (λ i. record {
      state = clears i;
      places = places i;
      weigher = c.self.inside.terms.weigher;
      builder = c.self.inside.terms.builder;
      lifecycle = c.self.inside.terms.lifecycle;
      room = room i;
      work = work i;
    }) ∙ ap (λ (s : Shard _ _ _ _ _). record s {
      state = cleared s.state;
      places = [];
      room = s.room + slots_taken s.state;
    }) c.self.view_is
