use Rattle.quick_cache_shard.proofs.shard.CacheShard.replace_placeholder.Goals as goal

-- the rules and the hooks are those of what the shard was made with
pub returns-clause-fills : goal.returns-clause-fills
returns-clause-fills g c = rw (← c.self.view_is) c.replace_placeholder-answer.ensures.fills

pub returns-clause-places : goal.returns-clause-places
returns-clause-places g c = rw (← c.self.view_is) c.replace_placeholder-answer.ensures.stays.places
