use Rattle.std.proofs.Common.{Ok}
use Rattle.std.proofs.iter.Next.{on}
use Rattle.quick_cache_model.proofs.EachElement.{all-push}
use Rattle.quick_cache_shard.specs.Steps.{goes_by}
use Rattle.quick_cache_sync.proofs.FillLemmas.{Answers, EndsSo-refused, Fits-refused}
use Rattle.quick_cache_sync.proofs.cache.Cache.fill.Goals as goal

-- each pair that comes fits
pub insert-requires : goal.insert-requires
insert-requires g c = record {
  fits = c.requires.fits c.loop-key.yielded c.loop-key.pairs c.next.new.self
      (c.in-Some.key, c.in-Some.value) c.loop-key.yielded_by c.in-Some.ensures.steps;
}

-- the pair that was refused is the one that came last
pub returns-in-Err-clause-fills : goal.returns-in-Err-clause-fills
returns-in-Err-clause-fills g c = record {
  came = c.loop-key.yielded;
  takes = c.loop-key.invariant.2;
  ends = EndsSo-refused g.L.Lifecycle (goes_by g.K.Hash.hash_input g.We.Weighter g.B.BuildHasher
      g.B.Hasher.Hasher g.L.Lifecycle) g.L.RequestState.Default.is_default g.K.PartialEq.eq
      g.I.Iterator.next_gives c.args.pairs c.loop-key.yielded (c.in-Some.key, c.in-Some.value)
      c.in-Err.key c.in-Err.value c.in-Err.refusal c.next.new.self
      (c.loop-key.pairs, c.loop-key.yielded_by, c.in-Some.ensures.steps) c.in-Err.ensures.answers;
}

pub returns-in-Err-clause-fits : goal.returns-in-Err-clause-fits
returns-in-Err-clause-fits g c = Fits-refused g.L.Lifecycle (goes_by g.K.Hash.hash_input
    g.We.Weighter g.B.BuildHasher g.B.Hasher.Hasher g.L.Lifecycle)
    g.L.RequestState.Default.is_default g.K.PartialEq.eq g.I.Iterator.next_gives c.args.pairs
    g.L.Lifecycle.fits (c.in-Some.key, c.in-Some.value) c.in-Err.key c.in-Err.value
    c.in-Err.refusal c.in-Err.ensures.answers
    (c.requires.fits c.loop-key.yielded c.loop-key.pairs c.next.new.self
    (c.in-Some.key, c.in-Some.value) c.loop-key.yielded_by c.in-Some.ensures.steps)

-- one pair more was taken
pub loop-key-preserved : goal.loop-key-preserved
loop-key-preserved g c =
    let next = on _ c.in-Some.is c.next.ensures.goes c.loop-key.invariant.1 in (
      next.0,
      next.1,
      all-push (λ pair. Answers g.L.Lifecycle (goes_by g.K.Hash.hash_input g.We.Weighter
          g.B.BuildHasher g.B.Hasher.Hasher g.L.Lifecycle) g.L.RequestState.Default.is_default
          g.K.PartialEq.eq g.I.Iterator.next_gives c.args.pairs pair.0 pair.1 (Ok tt))
          c.loop-key.yielded (c.in-Some.key, c.in-Some.value) c.loop-key.invariant.2
          c.in_default-insert.ensures.answers,
    )

-- no pair is left
pub returns-clause-fills : goal.returns-clause-fills
returns-clause-fills g c = record {
  came = c.loop-key.yielded;
  takes = c.loop-key.invariant.2;
  ends = (_, (c.loop-key.pairs, c.loop-key.yielded_by, c.in_default.ensures.steps));
}
