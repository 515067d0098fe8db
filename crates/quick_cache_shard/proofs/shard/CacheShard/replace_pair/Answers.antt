use Rattle.quick_cache_shard.proofs.shard.CacheShard.replace_pair.Goals as goal

-- the rules and the hooks are those of what the shard was made with
pub returns-clause-replaces : goal.returns-clause-replaces
returns-clause-replaces g c = rw (← c.self.view_is) c.replace-answer.ensures.answers

pub returns-clause-places : goal.returns-clause-places
returns-clause-places g c = rw (← c.self.view_is) c.replace-answer.ensures.stays.places
