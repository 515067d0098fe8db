use Rattle.std.proofs.Common.{slice_index, ap, arith, ◌∙◌}
use Rattle.quick_cache_sync.specs.Many.{place_of}
use Rattle.quick_cache_sync.specs.Shards.{Division}
use Rattle.quick_cache_sync.proofs.ManyLemmas.{Shows-next}
use Rattle.quick_cache_sync.proofs.cache.Cache.get_many.Goals as goal

-- one shard more was looked at
pub loop-place-preserved : goal.loop-place-preserved
loop-place-preserved g c = record {
  values = c.get_those.ensures.as_many ∙ c.loop-place.invariant.values;
  of_each = λ index query within is below. Shows-next g.row.We.Denot g.row.B.Denot g.L.Lifecycle
      g.K.PartialEq.eq g.V.Clone.is_clone g.Q.Equivalent.equivalent c.args.queries.now
      (place_of g.B.BuildHasher g.B.Hasher.Hasher c.args.self.now g.Q.Hash.hash_input)
      c.deref-in-loop-place.result.now
      (λ i other less at. ap (λ list. slice_index list i) c.deref-in-loop-place.ensures.value
      ∙ (c.in_ok-places.ensures.places.are i other less at).0)
      c.loop-place.values.items c.get_those.new.values.items c.loop-place.place index query within is
      c.get_those.ensures.others c.in_ok-get_those.ensures.gets
      (c.loop-place.invariant.of_each index query within is) below;
}

-- no shard is left
pub returns-clause-answers : goal.returns-clause-answers
returns-clause-answers g c = record {
  one_each = omega (arith, c.loop-place.values.ok, c.loop-place.invariant.values);
  of_each = λ index query within is. c.loop-place.invariant.of_each index query within is
      (omega (
        arith,
        c.loop-place-test.false,
        c.len-place-end.ensures,
        ap (λ (division : Division g.row.B.Denot). division.shards) c.self.view_is,
        (c.in_ok-places.ensures.places.are index query within is).1,
      ));
}
