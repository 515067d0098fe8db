use Rattle.std.proofs.Common.{rules, ◌∙◌, ap, subst, arith, length, true}
use Rattle.quick_cache_model.specs.declared.queue.Queue.{Queue}
use Rattle.quick_cache_model.specs.CacheState.{CacheState}
use Rattle.quick_cache_model.specs.Eviction.{AdvancesHot, AdvancesCold, EvictsToTarget}
use Rattle.quick_cache_model.specs.Hooks.{Calls}
use Rattle.quick_cache_store.specs.Views.{items_of}
use Rattle.quick_cache_policy.specs.declared.contents.Contents.{Contents}
use Rattle.quick_cache_policy.specs.Advances.{AreEvictions, Evicting, FirstIsEvicted, FirstIsPromoted}
use Rattle.quick_cache_policy.specs.Contents.{state_of, work_of}
use Rattle.quick_cache_policy.specs.Policies.{rules_by}
use Rattle.quick_cache_policy.proofs.ColdAdvances.{AdvancesCold-promoted, AdvancesCold-evicted, AdvancesCold-passed}
use Rattle.quick_cache_policy.proofs.KeyLemmas.{FirstIsEvicted-keys, FirstIsPromoted-keys, Searches-keys, keys_by-cold}
use Rattle.quick_cache_policy.proofs.LoopLemmas.{Calls-map}
use Rattle.quick_cache_policy.proofs.PlaceLemmas.{LosesOnly-cold}
use Rattle.quick_cache_policy.proofs.WorkLemmas.{PaysFor-evicted}
use Rattle.std.proofs.lemmas.Grind.{common_steps}
use Rattle.quick_cache_policy.proofs.StaysLemmas.{KeepsNumbers-from}
use Rattle.quick_cache_policy.proofs.contents.Contents.advance_cold.Goals as goal

pub returns-in-Marked-clause-advances : goal.returns-in-Marked-clause-advances
returns-in-Marked-clause-advances g c =
    let rules = rules_by g.M.Policy g.P.Touch.Touches.may_count c.args.terms.now in
    let old = state_of g.P.SharedPlaceholder.ticket_of c.args.self.now in
    let cold = items_of c.search_cold.new.self.lists.cold in
    let is = ap (λ (r : Contents _ _ _ _ _ _). state_of g.P.SharedPlaceholder.ticket_of r)
    c.search_cold.ensures.same in
    let mid = state_of g.P.SharedPlaceholder.ticket_of c.promote_first.new.self in
    let new = state_of g.P.SharedPlaceholder.ticket_of c.evict_to_target.new.self in
    let steady = g.M.Policy.steady c.args.terms.now in
    Calls-map (g.M.Policy.hooks c.args.terms.now) (Evicting steady (EvictsToTarget rules) mid new)
    (Evicting steady (λ state. AdvancesCold rules state true) old new)
    c.args.state.now c.evict_to_target.new.state
    (λ calls. AdvancesCold-promoted rules steady old cold mid new calls
    c.in-Marked.ensures.searches
    (subst (λ (s : CacheState _ _). FirstIsPromoted s mid) is c.promote_first.ensures.promotes))
    c.evict_to_target.ensures.evicts

pub returns-in-Victim-clause-advances : goal.returns-in-Victim-clause-advances
returns-in-Victim-clause-advances g c =
    let rules = rules_by g.M.Policy g.P.Touch.Touches.may_count c.args.terms.now in
    let old = state_of g.P.SharedPlaceholder.ticket_of c.args.self.now in
    let cold = items_of c.search_cold.new.self.lists.cold in
    let is = ap (λ (r : Contents _ _ _ _ _ _). state_of g.P.SharedPlaceholder.ticket_of r)
    c.search_cold.ensures.same in
    let new = state_of g.P.SharedPlaceholder.ticket_of c.evict_cold.new.self in
    let steady = g.M.Policy.steady c.args.terms.now in
    Calls-map (g.M.Policy.hooks c.args.terms.now)
    (λ calls. FirstIsEvicted rules Queue.Cold (record old { cold = cold }) calls new
    × AreEvictions calls)
    (Evicting steady (λ state. AdvancesCold rules state true) old new)
    c.args.state.now c.evict_cold.new.state
    (λ calls. AdvancesCold-evicted rules steady old cold new calls
    c.in-Victim.ensures.searches)
    (subst (λ (s : CacheState _ _). Calls (g.M.Policy.hooks c.args.terms.now)
    (λ calls. FirstIsEvicted rules Queue.Cold s calls new × AreEvictions calls)
    c.args.state.now c.evict_cold.new.state) is c.evict_cold.ensures.evicts)

pub returns-in-Victim-clause-falls : goal.returns-in-Victim-clause-falls
returns-in-Victim-clause-falls g c = omega (
  arith,
  c.evict_cold.ensures.falls,
  c.evict_cold.ensures.hot,
  c.search_cold.ensures.count,
  ap (λ (r : Contents _ _ _ _ _ _). length r.lists.hot) c.search_cold.ensures.same,
)

pub returns-in-AllPassed-clause-advances : goal.returns-in-AllPassed-clause-advances
returns-in-AllPassed-clause-advances g c =
    let rules = rules_by g.M.Policy g.P.Touch.Touches.may_count c.args.terms.now in
    let old = state_of g.P.SharedPlaceholder.ticket_of c.args.self.now in
    let cold = items_of c.search_cold.new.self.lists.cold in
    let is = ap (λ (r : Contents _ _ _ _ _ _). state_of g.P.SharedPlaceholder.ticket_of r)
    c.search_cold.ensures.same in
    let new = state_of g.P.SharedPlaceholder.ticket_of c.advance_hot.new.self in
    let steady = g.M.Policy.steady c.args.terms.now in
    Calls-map (g.M.Policy.hooks c.args.terms.now)
    (Evicting steady (λ state. AdvancesHot rules state c.advance_hot.result)
    (record old { cold = cold }) new)
    (Evicting steady (λ state. AdvancesCold rules state c.advance_hot.result) old new)
    c.args.state.now c.advance_hot.new.state
    (λ calls. AdvancesCold-passed rules steady old cold c.advance_hot.result new calls
    c.in-AllPassed.ensures.searches)
    (subst (λ (s : CacheState _ _). Calls (g.M.Policy.hooks c.args.terms.now)
    (Evicting steady (λ state. AdvancesHot rules state c.advance_hot.result) s new)
    c.args.state.now c.advance_hot.new.state) is c.advance_hot.ensures.advances)

-- the search turns the ring
pub returns-in-Marked-clause-stays : goal.returns-in-Marked-clause-stays
returns-in-Marked-clause-stays g c =
    record {
      sound = c.evict_to_target.ensures.stays.sound;
      keys = λ test. omega (
        arith,
        keys_by-cold g.P.SharedPlaceholder.ticket_of test c.args.self.now c.search_cold.new.self
            c.search_cold.ensures.same
            (Searches-keys test (g.M.Policy.steady c.args.terms.now)
            (g.M.Policy.pinned c.args.terms.now) c.args.self.now.mark_cut
            g.P.Touch.Touches.may_count
            (items_of c.args.self.now.lists.cold) (items_of c.search_cold.new.self.lists.cold)
            c.search_cold.result c.search_cold.ensures.searches),
        FirstIsPromoted-keys test (state_of g.P.SharedPlaceholder.ticket_of c.search_cold.new.self)
            (state_of g.P.SharedPlaceholder.ticket_of c.promote_first.new.self)
            c.promote_first.ensures.promotes,
        c.evict_to_target.ensures.stays.keys test,
      );
      places = λ place there. LosesOnly-cold c.args.self.now.lists c.search_cold.new.self.lists
          (ap (λ (r : Contents _ _ _ _ _ _). r.lists) c.search_cold.ensures.same)
          c.search_cold.ensures.places place
          (c.promote_first.ensures.stays.places place (c.evict_to_target.ensures.stays.places place
          there));
      room = omega (
        arith,
        ap (λ (r : Contents _ _ _ _ _ _). r.lists.room)
            c.search_cold.ensures.same,
      );
      work = grind (arith, common_steps);
      same = search rules;
    }

pub returns-in-Victim-clause-stays : goal.returns-in-Victim-clause-stays
returns-in-Victim-clause-stays g c =
    let e = c.evict_cold.ensures.evicts in
    let rules = rules_by g.M.Policy g.P.Touch.Touches.may_count c.args.terms.now in
    record {
      sound = c.evict_cold.ensures.stays.sound;
      keys = λ test. omega (
        arith,
        keys_by-cold g.P.SharedPlaceholder.ticket_of test c.args.self.now c.search_cold.new.self
            c.search_cold.ensures.same
            (Searches-keys test (g.M.Policy.steady c.args.terms.now)
            (g.M.Policy.pinned c.args.terms.now) c.args.self.now.mark_cut
            g.P.Touch.Touches.may_count
            (items_of c.args.self.now.lists.cold) (items_of c.search_cold.new.self.lists.cold)
            c.search_cold.result c.search_cold.ensures.searches),
        FirstIsEvicted-keys test rules Queue.Cold
            (state_of g.P.SharedPlaceholder.ticket_of c.search_cold.new.self)
            (state_of g.P.SharedPlaceholder.ticket_of c.evict_cold.new.self) e.calls e.holds.0,
      );
      places = λ place there. LosesOnly-cold c.args.self.now.lists c.search_cold.new.self.lists
          (ap (λ (r : Contents _ _ _ _ _ _). r.lists) c.search_cold.ensures.same)
          c.search_cold.ensures.places place
          (c.evict_cold.ensures.stays.places place there);
      room = omega (
        arith,
        ap (λ (r : Contents _ _ _ _ _ _). r.lists.room)
            c.search_cold.ensures.same,
      );
      work = PaysFor-evicted c.args.self.now.mark_cut (length c.args.self.now.lists.hot)
          (length c.args.self.now.lists.cold)
          (length c.evict_cold.new.self.lists.hot) (length c.evict_cold.new.self.lists.cold)
          (work_of c.args.self.now) (work_of c.evict_cold.new.self)
          (c.evict_cold.ensures.hot
          ∙ ap (λ (r : Contents _ _ _ _ _ _). length r.lists.hot) c.search_cold.ensures.same)
          (omega (arith, c.evict_cold.ensures.falls, c.search_cold.ensures.count))
          (ap (λ (r : Contents _ _ _ _ _ _). work_of r) c.evict_cold.ensures.stays.same
          ∙ ap (λ (r : Contents _ _ _ _ _ _). work_of r) c.search_cold.ensures.same)
          c.facts.ensures.advances c.facts.ensures.visits;
      same = KeepsNumbers-from c.args.self.now c.evict_cold.new.self c.evict_cold.new.self.lists _ _
          (c.evict_cold.ensures.stays.same
          ∙ ap (λ (r : Contents _ _ _ _ _ _). record r { lists = c.evict_cold.new.self.lists })
          c.search_cold.ensures.same);
    }

pub returns-in-AllPassed-clause-stays : goal.returns-in-AllPassed-clause-stays
returns-in-AllPassed-clause-stays g c =
    record {
      sound = c.advance_hot.ensures.stays.sound;
      keys = λ test. omega (
        arith,
        keys_by-cold g.P.SharedPlaceholder.ticket_of test c.args.self.now c.search_cold.new.self
            c.search_cold.ensures.same
            (Searches-keys test (g.M.Policy.steady c.args.terms.now)
            (g.M.Policy.pinned c.args.terms.now) c.args.self.now.mark_cut
            g.P.Touch.Touches.may_count
            (items_of c.args.self.now.lists.cold) (items_of c.search_cold.new.self.lists.cold)
            c.search_cold.result c.search_cold.ensures.searches),
        c.advance_hot.ensures.stays.keys test,
      );
      places = λ place there. LosesOnly-cold c.args.self.now.lists c.search_cold.new.self.lists
          (ap (λ (r : Contents _ _ _ _ _ _). r.lists) c.search_cold.ensures.same)
          c.search_cold.ensures.places place
          (c.advance_hot.ensures.stays.places place there);
      room = omega (
        arith,
        ap (λ (r : Contents _ _ _ _ _ _). r.lists.room)
            c.search_cold.ensures.same,
      );
      work = search rules;
      same = search rules;
    }
