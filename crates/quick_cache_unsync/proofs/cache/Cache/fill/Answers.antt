use Rattle.std.proofs.Common.{refl}
use Rattle.std.proofs.iter.Next.{on}
use Rattle.std.proofs.lemmas.Fn.{FoldsTo-push}
use Rattle.quick_cache_shard.specs.Steps.{goes_by}
use Rattle.quick_cache_unsync.specs.Many.{TakesPair}
use Rattle.quick_cache_unsync.proofs.ManyLemmas.{EndsInTurn-refused, KeepsTerms-on}
use Rattle.quick_cache_unsync.proofs.cache.Cache.fill.Goals as goal

-- the pair that was refused is the one that came last
pub returns-in-Err-clause-fills : goal.returns-in-Err-clause-fills
returns-in-Err-clause-fills g c = record {
  came = c.loop-key.yielded;
  full = c.loop-key.self;
  takes = c.loop-key.invariant.2;
  ends = EndsInTurn-refused (goes_by g.K.Hash.hash_input g.We.Weighter g.B.BuildHasher
      g.B.Hasher.Hasher g.L.Lifecycle) g.L.RequestState.Default.is_default g.K.PartialEq.eq
      g.I.Iterator.next_gives c.args.pairs c.loop-key.yielded c.loop-key.self c.insert.new.self
      (c.in-Some.key, c.in-Some.value) c.in-Err.key c.in-Err.value c.in-Err.refusal c.next.new.self
      (c.loop-key.pairs, c.loop-key.yielded_by, c.in-Some.ensures.steps)
      (record {
        inserts = c.in-Err.ensures.inserts;
        room = c.insert.ensures.room;
        work = c.insert.ensures.work;
        same = c.insert.ensures.same;
      });
}

-- one pair more was taken
pub loop-key-preserved : goal.loop-key-preserved
loop-key-preserved g c =
    let next = on _ c.in-Some.is c.next.ensures.goes c.loop-key.invariant.1 in (
      next.0,
      next.1,
      FoldsTo-push (TakesPair (goes_by g.K.Hash.hash_input g.We.Weighter g.B.BuildHasher
          g.B.Hasher.Hasher g.L.Lifecycle) g.L.RequestState.Default.is_default g.K.PartialEq.eq)
          c.args.self.now c.loop-key.yielded c.loop-key.self (c.in-Some.key, c.in-Some.value)
          c.insert.new.self c.loop-key.invariant.2
          (record {
            inserts = c.in_default-insert.ensures.inserts;
            room = c.insert.ensures.room;
            work = c.insert.ensures.work;
            same = c.insert.ensures.same;
          }),
      KeepsTerms-on c.args.self.now c.loop-key.self c.insert.new.self c.loop-key.invariant.3
          c.insert.ensures.same,
    )

-- no pair is left
pub returns-clause-fills : goal.returns-clause-fills
returns-clause-fills g c = record {
  came = c.loop-key.yielded;
  full = c.loop-key.self;
  takes = c.loop-key.invariant.2;
  ends = ((_, (c.loop-key.pairs, c.loop-key.yielded_by, c.in_default.ensures.steps)), refl);
}
