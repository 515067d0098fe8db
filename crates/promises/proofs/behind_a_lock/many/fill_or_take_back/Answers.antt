use Rattle.quick_cache_shard.specs.Shard.{Shard}
use Rattle.quick_cache_shard.specs.Steps.{goes_by}
use Rattle.quick_cache_locked.specs.Locked.{FromSome}
use Rattle.quick_cache_sync.specs.Answers.{InsertsAloneBy}
use Rattle.promises.proofs.ManyLemmas.{EndsSo-all, EndsSo-back}
use Rattle.promises.proofs.behind_a_lock.many.fill_or_take_back.Goals as goal

pub returns : goal.returns
returns g c =
    let told = c.fill.ensures.fills in
    let goes = goes_by g.K.Hash.hash_input g.We.Weighter g.B.BuildHasher g.B.Hasher.Hasher
    g.L.Lifecycle in
    record {
      all = EndsSo-all g.I.Iterator.next_gives c.args.pairs told.came
          (λ key value answer. FromSome g.L.Lifecycle g.K.PartialEq.eq
          (λ (shard : Shard g.row.K.Denot g.row.V.Denot g.row.We.Denot g.row.B.Denot g.row.L.Denot).
          InsertsAloneBy goes g.K.PartialEq.eq shard g.L.RequestState.Default.is_default key value
          answer)) c.fill.result told.ends;
      back = EndsSo-back g.I.Iterator.next_gives c.args.pairs told.came
          (λ key value answer. FromSome g.L.Lifecycle g.K.PartialEq.eq
          (λ (shard : Shard g.row.K.Denot g.row.V.Denot g.row.We.Denot g.row.B.Denot g.row.L.Denot).
          InsertsAloneBy goes g.K.PartialEq.eq shard g.L.RequestState.Default.is_default key value
          answer)) c.fill.result told.ends;
    }
