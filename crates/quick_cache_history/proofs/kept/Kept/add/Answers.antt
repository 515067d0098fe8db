use Rattle.quick_cache_shard.specs.Goes.{goes_by}
use Rattle.quick_cache_history.proofs.KeptLemmas.{StandsAtEnd-push}
use Rattle.quick_cache_history.proofs.kept.Kept.add.Goals as goal

-- the shard made one more of its calls
pub returns-clause-stands : goal.returns-clause-stands
returns-clause-stands g c =
    StandsAtEnd-push
    (goes_by g.K.Hash.hash_input g.We.Weighter g.B.BuildHasher g.B.Hasher.Hasher g.L.Lifecycle)
    g.L.RequestState.Default.is_default g.K.PartialEq.eq c.args.past.now.shard c.args.past.now.log
    c.add.new.seat.seen c.args.shard.now c.args.entry.ask c.add.ensures.first c.add.ensures.one_more
    c.requires.made
