use Rattle.std.proofs.Common.{rules, ◌+◌, List, sym, subst}
use Rattle.std.proofs.lemmas.List.Sorted.{IsNonDecreasingBy-from_sort, answers_always}
use Rattle.quick_cache_locked.specs.declared.heated.Heated.{Heated}
use Rattle.quick_cache_locked.specs.Hottest.{coolness}
use Rattle.quick_cache_sync.specs.Hottest.{ShowsHeat}
use Rattle.quick_cache_sync.specs.InTurn.{ShowInTurn}
use Rattle.quick_cache_sync.proofs.HottestLemmas.{ShowsHottest-fits}
use Rattle.quick_cache_sync.proofs.cache.Cache.hottest.Goals as goal

-- no shard has shown any
pub loop-index-init : goal.loop-index-init
loop-index-init g c =
    subst (λ (list : List (Heated g.row.K.Denot g.row.V.Denot)). ShowInTurn g.L.Lifecycle
    g.K.PartialEq.eq g.row.We.Denot g.row.B.Denot
    (ShowsHeat g.K.Clone.is_clone g.V.Clone.is_clone c.args.count) 0 list)
    (sym c.new-list.ensures.items) ShowInTurn.none

-- one more shard has
pub loop-index-preserved : goal.loop-index-preserved
loop-index-preserved g c =
    let shows = c.in_ok-show_hottest.ensures.shows in
    subst (λ (list : List (Heated g.row.K.Denot g.row.V.Denot)). ShowInTurn g.L.Lifecycle
    g.K.PartialEq.eq g.row.We.Denot g.row.B.Denot
    (ShowsHeat g.K.Clone.is_clone g.V.Clone.is_clone c.args.count) (c.loop-index.index + 1) list)
    (sym shows.1)
    (ShowInTurn.one_more c.loop-index.index c.loop-index.list.items shows.0 c.loop-index.invariant
    (record { shard = _; kept = c.show_hottest.ensures.kept; holds = shows.2 }))

-- all shards have, and the hottest of these are first
pub returns-clause-shows : goal.returns-clause-shows
returns-clause-shows g c = record {
  shown = c.loop-index.list.items;
  in_turn = subst (λ shards. ShowInTurn g.L.Lifecycle g.K.PartialEq.eq g.row.We.Denot
      g.row.B.Denot (ShowsHeat g.K.Clone.is_clone g.V.Clone.is_clone c.args.count) shards
      c.loop-index.list.items)
      (search rules) c.loop-index.invariant;
  sorted = c.sort_unstable_by_key.new.self.items;
  same = c.sort_unstable_by_key.ensures.permutation;
  order = IsNonDecreasingBy-from_sort coolness c.sort_unstable_by_key.new.self.items
      (c.sort_unstable_by_key.ensures.sorted coolness
      (answers_always _ _ _ (λ f a r next called. search rules)));
  first = search rules;
}

-- each shard has values that fit
pub returns-clause-fits : goal.returns-clause-fits
returns-clause-fits g c = λ keys clones. ShowsHottest-fits g.L.Lifecycle g.K.PartialEq.eq
    g.K.Clone.is_clone g.V.Clone.is_clone g.met.L.Lifecycle.same_fits keys clones g.row.We.Denot
    g.row.B.Denot c.args.count c.args.self.now.shards c.truncate.new.self.items
    (returns-clause-shows g c)
