use Rattle.quick_cache_sync.proofs.SumLemmas.{AddsUp-more}
use Rattle.quick_cache_sync.proofs.cache.Cache.added_up.Goals as goal

-- one more shard has answered
pub loop-index-preserved : goal.loop-index-preserved
loop-index-preserved g c = AddsUp-more g.L.Lifecycle g.K.PartialEq.eq _ c.loop-index.index
    c.loop-index.total c.count.result _ c.loop-index.invariant
    (record { shard = _; kept = c.count.ensures.kept; holds = c.count.ensures.shows })
    c.saturating_add-total.ensures
