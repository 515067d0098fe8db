use Rattle.std.proofs.Common.{rules, ◌+◌, List, sym, subst}
use Rattle.quick_cache_locked.specs.declared.heated.Heated.{Heated}
use Rattle.quick_cache_locked.specs.Saving.{ShowsSaved}
use Rattle.quick_cache_sync.specs.InTurn.{ShowInTurn}
use Rattle.quick_cache_sync.proofs.HottestLemmas.{ShowsSaved-fits}
use Rattle.quick_cache_sync.proofs.cache.Cache.saved.Goals as goal

-- no shard has shown any
pub loop-index-init : goal.loop-index-init
loop-index-init g c =
    subst (λ (list : List (Heated g.row.K.Denot g.row.V.Denot)). ShowInTurn g.L.Lifecycle
    g.K.PartialEq.eq g.row.We.Denot g.row.B.Denot
    (ShowsSaved g.K.Clone.is_clone g.V.Clone.is_clone) 0 list) (sym c.new-list.ensures.items)
    ShowInTurn.none

-- one more shard has
pub loop-index-preserved : goal.loop-index-preserved
loop-index-preserved g c =
    let shows = c.in_ok-show_saved.ensures.shows in
    subst (λ (list : List (Heated g.row.K.Denot g.row.V.Denot)). ShowInTurn g.L.Lifecycle
    g.K.PartialEq.eq g.row.We.Denot g.row.B.Denot
    (ShowsSaved g.K.Clone.is_clone g.V.Clone.is_clone) (c.loop-index.index + 1) list)
    (sym shows.appends)
    (ShowInTurn.one_more c.loop-index.index c.loop-index.list.items shows.shown
    c.loop-index.invariant
    (record { shard = _; kept = c.show_saved.ensures.kept; holds = shows.shows }))

-- all shards have
pub returns-clause-shows : goal.returns-clause-shows
returns-clause-shows g c =
    subst (λ shards. ShowInTurn g.L.Lifecycle g.K.PartialEq.eq g.row.We.Denot g.row.B.Denot
    (ShowsSaved g.K.Clone.is_clone g.V.Clone.is_clone) shards c.loop-index.list.items)
    (search rules) c.loop-index.invariant

-- each shard has values that fit
pub returns-clause-fits : goal.returns-clause-fits
returns-clause-fits g c = λ keys clones. ShowsSaved-fits g.L.Lifecycle g.K.PartialEq.eq
    g.K.Clone.is_clone g.V.Clone.is_clone g.met.L.Lifecycle.same_fits keys clones g.row.We.Denot
    g.row.B.Denot c.args.self.now.shards c.loop-index.list.items (returns-clause-shows g c)
