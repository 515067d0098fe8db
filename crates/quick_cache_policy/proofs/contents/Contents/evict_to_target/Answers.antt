use Rattle.std.proofs.Common.{◌<◌, ◌≤◌, ◌∙◌, arith, refl, true, false}
use Rattle.quick_cache_model.specs.CacheState.{hot_weight}
use Rattle.quick_cache_model.specs.Eviction.{AdvancesHot, EvictsToTarget}
use Rattle.quick_cache_model.proofs.OrderLaws.{SameButOrder-refl, EvictsToTarget-has_room, EvictsToTarget-gives_up, EvictsToTarget-goes_on}
use Rattle.quick_cache_store.proofs.lists.CallerLemmas.{weight_of-items}
use Rattle.quick_cache_policy.specs.Contents.{state_of}
use Rattle.quick_cache_policy.specs.Policies.{rules_by}
use Rattle.quick_cache_policy.proofs.LoopLemmas.{GoesOn-begins, GoesOn-steps, GoesOn-stops, GoesOn-ends}
use Rattle.quick_cache_policy.proofs.StaysLemmas.{MakesRoom-none, MakesRoom-then, MakesRoom-paid}
use Rattle.quick_cache_policy.proofs.contents.Contents.evict_to_target.Goals as goal

pub loop-self-init : goal.loop-self-init
loop-self-init g c = record {
  so_far = GoesOn-begins (g.M.Policy.hooks c.args.terms.now) (g.M.Policy.steady c.args.terms.now)
      (EvictsToTarget (rules_by g.M.Policy g.P.Touch.Touches.may_count c.args.terms.now))
      (state_of g.P.SharedPlaceholder.ticket_of c.args.self.now) c.args.state.now;
  stays = MakesRoom-none g.P.SharedPlaceholder.ticket_of g.K.PartialEq.eq
      (g.M.Policy.hashed c.args.terms.now) c.args.self.now c.requires.sound
      c.facts.ensures.advances c.facts.ensures.visits;
  fewer = omega arith;
  cold = refl;
}

-- the hot ring weighs more than its target, and the advance answers no
pub returns-then-not-advance_hot-clause-evicts : goal.returns-then-not-advance_hot-clause-evicts
returns-then-not-advance_hot-clause-evicts g c =
    let rules = rules_by g.M.Policy g.P.Touch.Touches.may_count c.args.terms.now in
    let mid = state_of g.P.SharedPlaceholder.ticket_of c.loop-self.self in
    let above : mid.hot_target < hot_weight mid =
    omega (
      arith,
      c.loop-self-test.true,
      c.weight.ensures.weight,
      c.from.ensures,
      weight_of-items c.loop-self.self.lists.hot,
    ) in
    GoesOn-stops (g.M.Policy.hooks c.args.terms.now) (g.M.Policy.steady c.args.terms.now)
    (EvictsToTarget rules) (state_of g.P.SharedPlaceholder.ticket_of c.args.self.now) mid
    c.args.state.now c.loop-self.state c.loop-self.invariant.so_far (λ state. AdvancesHot rules state false)
    (state_of g.P.SharedPlaceholder.ticket_of c.advance_hot.new.self) c.advance_hot.new.state
    c.if-not-advance_hot.ensures.advances
    (λ calls. EvictsToTarget-gives_up rules mid
    (state_of g.P.SharedPlaceholder.ticket_of c.advance_hot.new.self) calls above)

pub returns-then-not-advance_hot-clause-stays : goal.returns-then-not-advance_hot-clause-stays
returns-then-not-advance_hot-clause-stays g c =
    MakesRoom-then g.P.SharedPlaceholder.ticket_of g.K.PartialEq.eq
    (g.M.Policy.hashed c.args.terms.now) 1 c.args.self.now c.loop-self.self c.advance_hot.new.self
    c.loop-self.invariant.stays c.if-not-advance_hot.ensures.stays

pub loop-self-preserved : goal.loop-self-preserved
loop-self-preserved g c =
    let rules = rules_by g.M.Policy g.P.Touch.Touches.may_count c.args.terms.now in
    let mid = state_of g.P.SharedPlaceholder.ticket_of c.loop-self.self in
    let new = state_of g.P.SharedPlaceholder.ticket_of c.advance_hot.new.self in
    let i = c.loop-self.invariant in
    let e = c.if-not-advance_hot.ensures in
    let above : mid.hot_target < hot_weight mid =
    omega (
      arith,
      c.loop-self-test.true,
      c.weight.ensures.weight,
      c.from.ensures,
      weight_of-items c.loop-self.self.lists.hot,
    ) in
    record {
      so_far = GoesOn-steps (g.M.Policy.hooks c.args.terms.now)
          (g.M.Policy.steady c.args.terms.now) (EvictsToTarget rules)
          (state_of g.P.SharedPlaceholder.ticket_of c.args.self.now) mid c.args.state.now
          c.loop-self.state i.so_far (λ state. AdvancesHot rules state true) new c.advance_hot.new.state
          e.advances
          (λ calls rest end. EvictsToTarget-goes_on rules mid new end calls rest above);
      stays = MakesRoom-then g.P.SharedPlaceholder.ticket_of g.K.PartialEq.eq
          (g.M.Policy.hashed c.args.terms.now) 0 c.args.self.now c.loop-self.self
          c.advance_hot.new.self i.stays e.stays;
      fewer = omega (arith, i.fewer, e.falls);
      cold = e.cold ∙ i.cold;
    }

-- the hot ring weighs no more than its target
pub returns-clause-evicts : goal.returns-clause-evicts
returns-clause-evicts g c =
    let rules = rules_by g.M.Policy g.P.Touch.Touches.may_count c.args.terms.now in
    let mid = state_of g.P.SharedPlaceholder.ticket_of c.loop-self.self in
    let within : hot_weight mid ≤ mid.hot_target =
    omega (
      arith,
      c.loop-self-test.false,
      c.weight.ensures.weight,
      c.from.ensures,
      weight_of-items c.loop-self.self.lists.hot,
    ) in
    GoesOn-ends (g.M.Policy.hooks c.args.terms.now) (g.M.Policy.steady c.args.terms.now)
    (EvictsToTarget rules) (state_of g.P.SharedPlaceholder.ticket_of c.args.self.now) mid
    c.args.state.now c.loop-self.state c.loop-self.invariant.so_far
    (EvictsToTarget-has_room rules mid mid within (SameButOrder-refl mid))

pub returns-clause-stays : goal.returns-clause-stays
returns-clause-stays g c =
    MakesRoom-paid g.P.SharedPlaceholder.ticket_of g.K.PartialEq.eq
    (g.M.Policy.hashed c.args.terms.now) c.args.self.now c.loop-self.self
    c.loop-self.invariant.stays
