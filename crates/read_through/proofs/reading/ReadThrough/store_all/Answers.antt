use Rattle.std.proofs.Common.{rules}
use Rattle.read_through.proofs.ManyLemmas.{AllZip-at}
use Rattle.read_through.proofs.reading.ReadThrough.store_all.Goals as goal

pub store_one-requires-clause-gave : goal.store_one-requires-clause-gave
store_one-requires-clause-gave g c =
    AllZip-at (λ key. g.S.Source.gives key c.args.now) c.args.keys.now c.args.values.now
    c.loop-index.index c.index-keys-index.result c.index-values-index.result (search rules)
    c.index-keys-index.is c.index-values-index.is c.requires.gave
