use Rattle.quick_cache_shard.proofs.shard.CacheShard.restore.Goals as goal

-- the rules are those of what the shard was made with
pub returns-clause-answers : goal.returns-clause-answers
returns-clause-answers g c = rw (← c.self.view_is) c.restore.ensures.answers

pub returns-clause-places : goal.returns-clause-places
returns-clause-places g c = rw (← c.self.view_is) c.restore.ensures.places
