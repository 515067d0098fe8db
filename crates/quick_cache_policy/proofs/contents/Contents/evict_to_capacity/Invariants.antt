use Rattle.std.proofs.Common.{◌+◌, ◌*◌, length}
use Rattle.quick_cache_model.specs.Eviction.{EvictsToCapacity}
use Rattle.quick_cache_model.specs.Hooks.{Calls}
use Rattle.quick_cache_policy.specs.Contents.{state_of}
use Rattle.quick_cache_policy.specs.Policies.{rules_by}
use Rattle.quick_cache_policy.specs.Stays.{MakesRoom}
use Rattle.quick_cache_policy.proofs.LoopLemmas.{GoesOn}
use Rattle.quick_cache_policy.proofs.contents.Contents.evict_to_capacity.Given as goal

abbrev pub invariant-loop-self : goal.invariant-loop-self
invariant-loop-self g l = record {
  so_far : Calls (g.M.Policy.hooks l.terms)
      (GoesOn (g.M.Policy.hooks l.terms) (g.M.Policy.steady l.terms)
      (EvictsToCapacity (rules_by g.M.Policy g.P.Touch.Touches.may_count l.terms) l.need)
      (state_of g.P.SharedPlaceholder.ticket_of l.initial.self)
      (state_of g.P.SharedPlaceholder.ticket_of l.self)) l.initial.state l.state;
  stays : MakesRoom g.P.SharedPlaceholder.ticket_of g.K.PartialEq.eq (g.M.Policy.hashed l.terms) 0
      l.initial.self l.self;
}

abbrev pub decreases-loop-self : goal.decreases-loop-self
decreases-loop-self g l = length l.self.lists.hot + 2 * length l.self.lists.cold
