use Rattle.std.proofs.Common.{◌≡◌, length}
use Rattle.quick_cache_store.specs.Views.{items_of}
use Rattle.quick_cache_policy.specs.Contents.{IsSound}
use Rattle.quick_cache_policy.specs.Places.{places_in, LosesOnly}
use Rattle.quick_cache_policy.proofs.ColdLemmas.{HasPassed}
use Rattle.quick_cache_policy.proofs.contents.Contents.search_cold.Given as goal

abbrev pub invariant-loop : goal.invariant-loop
invariant-loop g l = record {
  passed : HasPassed (g.M.Policy.steady l.terms) (g.M.Policy.pinned l.terms)
      l.initial.self.mark_cut g.P.Touch.Touches.may_count (items_of l.initial.self.lists.cold) l.counter
      (items_of l.self.lists.cold);
  sound : IsSound g.P.SharedPlaceholder.ticket_of g.K.PartialEq.eq (g.M.Policy.hashed l.terms)
      l.self;
  count : length l.self.lists.cold ≡ length l.initial.self.lists.cold;
  places : LosesOnly (places_in l.initial.self.lists.cold) (places_in l.self.lists.cold);
  same : l.self ≡ record l.initial.self {
    lists = record l.initial.self.lists { cold = l.self.lists.cold };
  };
}
