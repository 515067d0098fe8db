use Rattle.std.proofs.Common.{rules}
use Rattle.quick_cache_model.proofs.OrderLaws.{UpToOrder-map}
use Rattle.quick_cache_shard.specs.Predicates.{Answers}
use Rattle.quick_cache_sync.proofs.AskedLemmas.{RetainsAsked-says}
use Rattle.quick_cache_sync.proofs.SumLemmas.{AddsUp-more}
use Rattle.quick_cache_sync.proofs.cache.Cache.retain.Goals as goal

-- one more shard was asked, by a reference to the predicate
pub loop-index-preserved : goal.loop-index-preserved
loop-index-preserved g c = AddsUp-more g.L.Lifecycle g.K.PartialEq.eq _ c.loop-index.index
    c.loop-index.total c.retain-gone.result _ c.loop-index.invariant
    (record {
      shard = _;
      kept = c.retain-gone.ensures.kept;
      holds = record {
        new = c.retain-gone.new.self.state;
        step = UpToOrder-map _ _ c.retain-gone.new.self.state
            (λ state. RetainsAsked-says _ (Answers g.F.Fn c.args.keep)
            (λ key value answer told. record {
              shown_key = told.shown_key;
              shown_value = told.shown_value;
              shows = told.shows;
              says = search rules;
            }) _ state) c.retain-gone.ensures.asks;
        counts = c.retain-gone.ensures.counts;
      };
    })
    c.saturating_add-total.ensures
