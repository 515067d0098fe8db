use Rattle.quick_cache_shard.specs.Steps.{goes_by, rules_in}
use Rattle.quick_cache_locked.specs.Touches.{any_touches}
use Rattle.quick_cache_locked.proofs.FitWrites.{AllFit-restored}
use Rattle.quick_cache_locked.proofs.locked.LockedShard.restore.Goals as goal

-- the pair fits, and the others stay
pub invariant_of-self : goal.invariant_of-self
invariant_of-self g c = AllFit-restored g.L.Lifecycle.fits
    (rules_in (goes_by g.K.Hash.hash_input g.We.Weighter g.B.BuildHasher g.B.Hasher.Hasher
    g.L.Lifecycle) any_touches c.self.inside.shard) g.K.PartialEq.eq c.args.key c.args.value
    c.args.queue c.args.mark c.self.inside.shard.state c.restore.new.self.state c.restore.result
    c.restore.ensures.answers c.requires.fits c.self.invariant

pub returns-clause-places : goal.returns-clause-places
returns-clause-places g c = rw (← c.self.view_is) c.restore.ensures.places
