use Rattle.quick_cache_shard.proofs.shard.CacheShard.find_copy.Goals as goal

pub invariant_of-self : goal.invariant_of-self
invariant_of-self g c = c.look_up_copy-found.ensures.sound _ c.self.invariant
