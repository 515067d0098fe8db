use Rattle.quick_cache_shard.proofs.shard.CacheShard.insert_pair.Goals as goal

-- the rules and the hooks are those of what the shard was made with
pub returns-clause-inserts : goal.returns-clause-inserts
returns-clause-inserts g c = rw (← c.self.view_is) c.insert-answer.ensures.answers

pub returns-clause-places : goal.returns-clause-places
returns-clause-places g c = rw (← c.self.view_is) c.insert-answer.ensures.stays.places
