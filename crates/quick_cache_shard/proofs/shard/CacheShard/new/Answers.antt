use Rattle.std.proofs.Common.{ap, ◌∙◌}
use Rattle.quick_cache_model.specs.CacheState.{CacheState, empty_state}
use Rattle.quick_cache_shard.proofs.PlaceLemmas.{places_of-none}
use Rattle.quick_cache_shard.proofs.shard.CacheShard.new.Goals as goal

pub invariant_of-result : goal.invariant_of-result
invariant_of-result g c = c.in_ok-new.ensures.sound _

-- where there are no items there are no places
pub returns-clause-makes : goal.returns-clause-makes
returns-clause-makes g c =
    let state = c.in_ok-new.ensures.state in
    let places = places_of-none c.in_ok-new.field-0.lists
    (ap (λ (s : CacheState _ _). s.hot) state) (ap (λ (s : CacheState _ _). s.cold) state)
    (ap (λ (s : CacheState _ _). s.still) state) in
    let sized = state ∙ (λ i. record (empty_state c.args.weight
    (c.hot_target-hot_target.ensures.value i) (c.ghost_limit-ghost_limit.ensures.value i))
    { mark_cut = c.args.mark_cut }) in
    λ i. record {
      state = sized i;
      places = places i;
      weigher = c.args.weigher;
      builder = c.args.builder;
      lifecycle = c.args.lifecycle;
      room = c.in_ok-new.ensures.room i;
      work = c.in_ok-new.ensures.work i;
    }
