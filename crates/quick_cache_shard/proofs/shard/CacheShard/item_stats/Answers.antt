use Rattle.quick_cache_model.specs.Lookups.{Sees}
use Rattle.quick_cache_policy.specs.Contents.{state_of}
use Rattle.quick_cache_shard.proofs.StatsLemmas.{ShowsReads-exact}
use Rattle.quick_cache_shard.proofs.shard.CacheShard.item_stats.Goals as goal

pub returns-in_err-access_count-clause-exact : goal.returns-in_err-access_count-clause-exact
returns-in_err-access_count-clause-exact g c = λ none.
    rw (← c.self.view_is, c.from_residual.ensures) (Sees.is_absent (c.in_err-access_count.ensures))

pub returns-clause-exact : goal.returns-clause-exact
returns-clause-exact g c = λ none.
    rw (← c.self.view_is)
    (ShowsReads-exact g.P.Touch.Touches.may_count (g.Q.Equivalent.equivalent c.args.query.now)
    (state_of g.P.SharedPlaceholder.ticket_of c.self.inside.contents)
    c.in_ok-access_count.access_count none c.in_ok-access_count.ensures)
