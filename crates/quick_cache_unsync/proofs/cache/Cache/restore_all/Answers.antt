use Rattle.std.proofs.Common.{refl}
use Rattle.std.proofs.iter.Next.{on}
use Rattle.std.proofs.lemmas.Fn.{FoldsTo-push}
use Rattle.quick_cache_shard.specs.Steps.{goes_by}
use Rattle.quick_cache_unsync.specs.Saving.{ComesBack}
use Rattle.quick_cache_unsync.proofs.ManyLemmas.{KeepsWork-on}
use Rattle.quick_cache_unsync.proofs.cache.Cache.restore_all.Goals as goal

-- the pair that came last was refused
pub returns-in-Err-clause-restores : goal.returns-in-Err-clause-restores
returns-in-Err-clause-restores g c = record {
  came = c.loop-key.yielded;
  full = c.loop-key.self;
  takes = c.loop-key.invariant.2;
  ends = record {
    pair = (c.in-Some.key, c.in-Some.value, c.in-Some.queue, c.in-Some.mark);
    rest = c.next.new.self;
    yields = (c.loop-key.pairs, c.loop-key.yielded_by, c.in-Some.ensures.steps);
    refuses = c.in-Err.ensures.refuses;
  };
}

-- one pair more came back or was left out
pub loop-key-preserved : goal.loop-key-preserved
loop-key-preserved g c =
    let next = on _ c.in-Some.is c.next.ensures.goes c.loop-key.invariant.1 in (
      next.0,
      next.1,
      FoldsTo-push (ComesBack (goes_by g.K.Hash.hash_input g.We.Weighter g.B.BuildHasher
          g.B.Hasher.Hasher g.L.Lifecycle) g.K.PartialEq.eq) c.args.self.now c.loop-key.yielded
          c.loop-key.self (c.in-Some.key, c.in-Some.value, c.in-Some.queue, c.in-Some.mark)
          c.restore_or_drop.new.self c.loop-key.invariant.2 c.in_default-restore_or_drop.ensures.comes,
      KeepsWork-on c.args.self.now c.loop-key.self c.restore_or_drop.new.self
          c.loop-key.invariant.3 c.restore_or_drop.ensures.same,
    )

-- no pair is left
pub returns-clause-restores : goal.returns-clause-restores
returns-clause-restores g c = record {
  came = c.loop-key.yielded;
  full = c.loop-key.self;
  takes = c.loop-key.invariant.2;
  ends = ((_, (c.loop-key.pairs, c.loop-key.yielded_by, c.in_default.ensures.steps)), refl);
}
