use Rattle.quick_cache_locked.proofs.FitWrites.{AllFit-replaced, replaced-gives}
use Rattle.quick_cache_locked.proofs.locked.LockedShard.replace.Goals as goal

-- the pair fits, and eviction keeps the others so
pub invariant_of-self : goal.invariant_of-self
invariant_of-self g c = AllFit-replaced g.L.Lifecycle
    (λ l was k v now left. g.met.L.Lifecycle.keeps_fits l was k v now left)
    c.self.inside.shard.lifecycle c.self.inside.shard.state c.replace_pair.new.self.state _
    g.K.PartialEq.eq _ c.args.key c.args.value _ c.requires.fits c.self.invariant c.args.soft _
    c.replace_pair.ensures.replaces

pub returns-clause-places : goal.returns-clause-places
returns-clause-places g c = rw (← c.self.view_is) c.replace_pair.ensures.places

-- a pair that comes back is what `before_evict` left of this one, or of another that fits
pub returns-clause-fits : goal.returns-clause-fits
returns-clause-fits g c = replaced-gives g.L.Lifecycle
    (λ l was k v now left. g.met.L.Lifecycle.keeps_fits l was k v now left)
    c.self.inside.shard.lifecycle c.self.inside.shard.state c.replace_pair.new.self.state _
    g.K.PartialEq.eq _ c.args.key c.args.value _ c.requires.fits c.self.invariant c.args.soft _
    c.replace_pair.ensures.replaces
