use Rattle.std.proofs.Common.{◌+◌, ◌≡◌, false}
use Rattle.std.specs.Fn.{FnReturnsAt}
use Rattle.std.specs.List.{AllByRecursion}
use Rattle.quick_cache_model.specs.CacheState.{UpToOrder}
use Rattle.quick_cache_model.specs.Refusals.{slots_taken}
use Rattle.quick_cache_shard.specs.Shard.{LosesOnly}
use Rattle.quick_cache_locked.specs.Invalidates.{InvalidatesAsked}
use Rattle.quick_cache_locked.proofs.AskedLemmas.{IsAsked, tickets_above}
use Rattle.quick_cache_locked.proofs.locked.LockedShard.invalidate_if.Given as goal

-- No item moved, and what is gone was answered yes. The keys of the tickets so far were answered no,
-- and the number is of what is gone.
abbrev pub invariant-loop-shared : goal.invariant-loop-shared
invariant-loop-shared g l = record {
  places : LosesOnly l.fn.self.places l.self.places;
  asks : UpToOrder (InvalidatesAsked (FnReturnsAt g.F.Fn l.fn.test) l.fn.self.state) l.self.state;
  asked : AllByRecursion (IsAsked (λ key. FnReturnsAt g.F.Fn l.fn.test key false) l.above)
      l.self.state.loading;
  number : l.gone + slots_taken l.self.state ≡ slots_taken l.fn.self.state;
}

abbrev pub decreases-loop-shared : goal.decreases-loop-shared
decreases-loop-shared g l = tickets_above l.above
