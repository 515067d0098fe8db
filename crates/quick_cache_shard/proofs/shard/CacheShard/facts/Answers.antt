use Rattle.quick_cache_shard.proofs.ShardLemmas.{IsSound-shard}
use Rattle.quick_cache_shard.proofs.shard.CacheShard.facts.Goals as goal

pub returns : goal.returns
returns g c =
    rw (← c.self.view_is)
    (IsSound-shard g.P.SharedPlaceholder.ticket_of g.K.PartialEq.eq _ c.self.inside.contents
    c.self.invariant c.facts.ensures.within c.facts.ensures.apart g.met.K.Eq.laws _ _ _)
