use Rattle.std.proofs.Common.{◌≡◌, slice_index, ◌∙◌}
use Rattle.quick_cache_sync.proofs.ManyLemmas.{next-got, next-others}
use Rattle.quick_cache_sync.proofs.calls.many.get_those_in.Goals as goal

-- one query more was looked up
pub loop-index-preserved : goal.loop-index-preserved
loop-index-preserved g c = record {
  as_many = c.get_at.ensures.as_many ∙ c.loop-index.invariant.as_many;
  others = λ other off. next-others c.args.places.now c.args.place c.loop-index.index
      c.loop-index.values.items c.get_at.new.values.items c.get_at.ensures.elsewhere
      c.get_at.ensures.unasked other off ∙ c.loop-index.invariant.others other off;
  gets = λ other query within is asked. next-got g.L.Lifecycle g.K.PartialEq.eq g.V.Clone.is_clone
      g.Q.Equivalent.equivalent c.args.shard.now c.args.queries.now c.loop-index.values.items
      c.get_at.new.values.items c.loop-index.index c.loop-index-test.true
      (λ at. slice_index c.args.places.now at ≡ c.args.place) c.get_at.ensures.elsewhere
      c.in_ok-get_at.ensures.gets other query within is asked
      (λ less. c.loop-index.invariant.gets other query less is asked);
}
