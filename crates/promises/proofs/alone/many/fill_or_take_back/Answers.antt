use Rattle.quick_cache_shard.specs.Steps.{goes_by}
use Rattle.promises.proofs.ManyLemmas.{EndsInTurn-all, EndsInTurn-back}
use Rattle.promises.proofs.alone.many.fill_or_take_back.Goals as goal

pub returns : goal.returns
returns g c =
    let goes = goes_by g.K.Hash.hash_input g.We.Weighter g.B.BuildHasher g.B.Hasher.Hasher
    g.L.Lifecycle in
    let told = c.fill.ensures.fills in
    record {
      all = EndsInTurn-all g.I.Iterator.next_gives c.args.pairs told.came goes
          g.L.RequestState.Default.is_default g.K.PartialEq.eq told.full c.fill.new.self c.fill.result
          told.ends;
      back = EndsInTurn-back g.I.Iterator.next_gives c.args.pairs told.came goes
          g.L.RequestState.Default.is_default g.K.PartialEq.eq told.full c.fill.new.self c.fill.result
          told.ends;
    }
