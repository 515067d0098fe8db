use Rattle.std.proofs.Common.{◌<◌, ◌≤◌, ◌+◌, arith, true, false}
use Rattle.quick_cache_model.specs.CacheState.{total_weight}
use Rattle.quick_cache_model.specs.Eviction.{AdvancesCold, EvictsToCapacity}
use Rattle.quick_cache_model.proofs.OrderLaws.{SameButOrder-refl, EvictsToCapacity-has_room, EvictsToCapacity-gives_up}
use Rattle.quick_cache_model.proofs.OrderLaws.{EvictsToCapacity-goes_on}
use Rattle.quick_cache_store.proofs.lists.CallerLemmas.{weight_of-items}
use Rattle.quick_cache_policy.specs.Contents.{state_of}
use Rattle.quick_cache_policy.specs.Policies.{rules_by}
use Rattle.quick_cache_policy.proofs.LoopLemmas.{GoesOn-begins, GoesOn-steps, GoesOn-stops, GoesOn-ends}
use Rattle.quick_cache_policy.proofs.StaysLemmas.{MakesRoom-none, MakesRoom-then, MakesRoom-paid}
use Rattle.quick_cache_policy.proofs.contents.Contents.evict_to_capacity.Goals as goal

pub loop-self-init : goal.loop-self-init
loop-self-init g c = record {
  so_far = GoesOn-begins (g.M.Policy.hooks c.args.terms.now) (g.M.Policy.steady c.args.terms.now)
      (EvictsToCapacity (rules_by g.M.Policy g.P.Touch.Touches.may_count c.args.terms.now)
      c.args.need)
      (state_of g.P.SharedPlaceholder.ticket_of c.args.self.now) c.args.state.now;
  stays = MakesRoom-none g.P.SharedPlaceholder.ticket_of g.K.PartialEq.eq
      (g.M.Policy.hashed c.args.terms.now) c.args.self.now c.requires.sound
      c.facts.ensures.advances c.facts.ensures.visits;
}

-- all weighs more than the capacity, and the advance answers no
pub returns-then-not-advance_cold-clause-evicts : goal.returns-then-not-advance_cold-clause-evicts
returns-then-not-advance_cold-clause-evicts g c =
    let rules = rules_by g.M.Policy g.P.Touch.Touches.may_count c.args.terms.now in
    let mid = state_of g.P.SharedPlaceholder.ticket_of c.loop-self.self in
    let above : mid.capacity < total_weight mid + c.args.need =
    omega (
      arith,
      c.loop-self-test.true,
      c.weight.ensures.weight,
      c.weight-in-loop-self.ensures.weight,
      c.from.ensures,
      c.from-in-loop-self.ensures,
      weight_of-items c.loop-self.self.lists.hot,
      weight_of-items c.loop-self.self.lists.cold,
    ) in
    GoesOn-stops (g.M.Policy.hooks c.args.terms.now) (g.M.Policy.steady c.args.terms.now)
    (EvictsToCapacity rules c.args.need)
    (state_of g.P.SharedPlaceholder.ticket_of c.args.self.now) mid
    c.args.state.now c.loop-self.state c.loop-self.invariant.so_far (λ state. AdvancesCold rules state false)
    (state_of g.P.SharedPlaceholder.ticket_of c.advance_cold.new.self) c.advance_cold.new.state
    c.if-not-advance_cold.ensures.advances
    (λ calls. EvictsToCapacity-gives_up rules c.args.need mid
    (state_of g.P.SharedPlaceholder.ticket_of c.advance_cold.new.self) calls above)

pub returns-then-not-advance_cold-clause-stays : goal.returns-then-not-advance_cold-clause-stays
returns-then-not-advance_cold-clause-stays g c =
    MakesRoom-then g.P.SharedPlaceholder.ticket_of g.K.PartialEq.eq
    (g.M.Policy.hashed c.args.terms.now) 1 c.args.self.now c.loop-self.self c.advance_cold.new.self
    c.loop-self.invariant.stays c.if-not-advance_cold.ensures.stays

pub loop-self-preserved : goal.loop-self-preserved
loop-self-preserved g c =
    let rules = rules_by g.M.Policy g.P.Touch.Touches.may_count c.args.terms.now in
    let mid = state_of g.P.SharedPlaceholder.ticket_of c.loop-self.self in
    let new = state_of g.P.SharedPlaceholder.ticket_of c.advance_cold.new.self in
    let i = c.loop-self.invariant in
    let e = c.if-not-advance_cold.ensures in
    let above : mid.capacity < total_weight mid + c.args.need =
    omega (
      arith,
      c.loop-self-test.true,
      c.weight.ensures.weight,
      c.weight-in-loop-self.ensures.weight,
      c.from.ensures,
      c.from-in-loop-self.ensures,
      weight_of-items c.loop-self.self.lists.hot,
      weight_of-items c.loop-self.self.lists.cold,
    ) in
    record {
      so_far = GoesOn-steps (g.M.Policy.hooks c.args.terms.now)
          (g.M.Policy.steady c.args.terms.now) (EvictsToCapacity rules c.args.need)
          (state_of g.P.SharedPlaceholder.ticket_of c.args.self.now) mid c.args.state.now
          c.loop-self.state i.so_far (λ state. AdvancesCold rules state true) new c.advance_cold.new.state
          e.advances
          (λ calls rest end.
          EvictsToCapacity-goes_on rules c.args.need mid new end calls rest above);
      stays = MakesRoom-then g.P.SharedPlaceholder.ticket_of g.K.PartialEq.eq
          (g.M.Policy.hashed c.args.terms.now) 0 c.args.self.now c.loop-self.self
          c.advance_cold.new.self i.stays e.stays;
    }

-- there is room for what is needed
pub returns-clause-evicts : goal.returns-clause-evicts
returns-clause-evicts g c =
    let rules = rules_by g.M.Policy g.P.Touch.Touches.may_count c.args.terms.now in
    let mid = state_of g.P.SharedPlaceholder.ticket_of c.loop-self.self in
    let within : total_weight mid + c.args.need ≤ mid.capacity =
    omega (
      arith,
      c.loop-self-test.false,
      c.weight.ensures.weight,
      c.weight-in-loop-self.ensures.weight,
      c.from.ensures,
      c.from-in-loop-self.ensures,
      weight_of-items c.loop-self.self.lists.hot,
      weight_of-items c.loop-self.self.lists.cold,
    ) in
    GoesOn-ends (g.M.Policy.hooks c.args.terms.now) (g.M.Policy.steady c.args.terms.now)
    (EvictsToCapacity rules c.args.need)
    (state_of g.P.SharedPlaceholder.ticket_of c.args.self.now) mid
    c.args.state.now c.loop-self.state c.loop-self.invariant.so_far
    (EvictsToCapacity-has_room rules c.args.need mid mid within (SameButOrder-refl mid))

pub returns-clause-stays : goal.returns-clause-stays
returns-clause-stays g c =
    MakesRoom-paid g.P.SharedPlaceholder.ticket_of g.K.PartialEq.eq
    (g.M.Policy.hashed c.args.terms.now) c.args.self.now c.loop-self.self
    c.loop-self.invariant.stays
