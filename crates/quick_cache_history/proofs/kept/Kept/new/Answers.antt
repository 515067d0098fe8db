use Rattle.std.proofs.Common.{ap, ◌∙◌, sym}
use Rattle.quick_cache_shard.specs.Goes.{goes_by}
use Rattle.quick_cache_history.proofs.KeptLemmas.{StandsAtEnd-begins}
use Rattle.quick_cache_history.proofs.kept.Kept.new.Goals as goal

-- no call was made
pub invariant_of-result : goal.invariant_of-result
invariant_of-result g c =
    StandsAtEnd-begins
    (goes_by g.K.Hash.hash_input g.We.Weighter g.B.BuildHasher g.B.Hasher.Hasher g.L.Lifecycle)
    g.L.RequestState.Default.is_default g.K.PartialEq.eq c.args.past.shard c.args.past.log
    c.in_ok-shard.shard c.requires.none
    (ap (λ s. s.state) c.in_ok-shard.ensures.makes ∙ sym c.requires.empty)
