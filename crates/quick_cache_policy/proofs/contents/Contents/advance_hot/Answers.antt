use Rattle.std.proofs.Common.{rules, ap, ◌∙◌, arith}
use Rattle.quick_cache_model.specs.declared.queue.Queue.{Queue}
use Rattle.quick_cache_policy.specs.declared.contents.Contents.{Contents}
use Rattle.quick_cache_policy.specs.Contents.{state_of, ring_count}
use Rattle.quick_cache_policy.specs.Policies.{rules_by}
use Rattle.quick_cache_policy.proofs.KeyLemmas.{FirstIsEvicted-keys, SeekEnds-keys, keys_by-hot}
use Rattle.quick_cache_policy.proofs.PlaceLemmas.{LosesOnly-hot}
use Rattle.quick_cache_policy.proofs.HotAdvanceLemmas.{PaysFor-advance, AdvancesHot-gives_up, AdvancesHot-evicts, visits-an_item}
use Rattle.quick_cache_policy.proofs.StaysLemmas.{KeepsNumbers-from}
use Rattle.quick_cache_policy.proofs.contents.Contents.advance_hot.Goals as goal

pub returns-then-not-seek_victim-clause-advances : goal.returns-then-not-seek_victim-clause-advances
returns-then-not-seek_victim-clause-advances g c =
    AdvancesHot-gives_up g.P.SharedPlaceholder.ticket_of (g.M.Policy.steady c.args.terms.now)
    (rules_by g.M.Policy g.P.Touch.Touches.may_count c.args.terms.now)
    (g.M.Policy.hooks c.args.terms.now) c.args.self.now c.seek_victim.new.self
    c.saturating_add-self.result c.seek_victim.result c.seek_victim.ensures.ends
    c.seek_victim.ensures.same c.if-not-seek_victim.true c.args.state.now

pub returns-clause-advances : goal.returns-clause-advances
returns-clause-advances g c =
    AdvancesHot-evicts g.P.SharedPlaceholder.ticket_of (g.M.Policy.steady c.args.terms.now)
    (rules_by g.M.Policy g.P.Touch.Touches.may_count c.args.terms.now)
    (g.M.Policy.hooks c.args.terms.now) c.args.self.now c.seek_victim.new.self
    c.saturating_add-self.result c.seek_victim.result c.seek_victim.ensures.ends
    c.seek_victim.ensures.same c.if-not-seek_victim.false c.evict_hot.new.self
    c.args.state.now c.evict_hot.new.state c.evict_hot.ensures.evicts

pub returns-clause-cold : goal.returns-clause-cold
returns-clause-cold g c =
    c.evict_hot.ensures.cold
    ∙ ap (λ (s : Contents _ _ _ _ _ _). ring_count Queue.Cold s) c.seek_victim.ensures.same

-- the visits lower marks
-- the visits move none
pub returns-then-not-seek_victim-clause-stays : goal.returns-then-not-seek_victim-clause-stays
returns-then-not-seek_victim-clause-stays g c =
    let s = c.seek_victim.ensures in
    let within = visits-an_item g.P.SharedPlaceholder.ticket_of (g.M.Policy.steady c.args.terms.now)
    (rules_by g.M.Policy g.P.Touch.Touches.may_count c.args.terms.now)
    (g.M.Policy.hooks c.args.terms.now) c.args.self.now c.seek_victim.new.self
    c.saturating_add-self.result c.seek_victim.result s.ends s.same in
    record {
      sound = search rules;
      keys = λ test. omega (
        arith,
        keys_by-hot g.P.SharedPlaceholder.ticket_of test c.args.self.now c.seek_victim.new.self
            c.saturating_add-self.result s.same
            (SeekEnds-keys test (g.M.Policy.steady c.args.terms.now)
            (g.M.Policy.pinned c.args.terms.now) c.args.self.now.mark_cut
            g.P.Touch.Touches.may_count c.seek_victim.result
            _ _ s.ends.visits s.ends.ends),
      );
      places = LosesOnly-hot c.args.self.now.lists c.seek_victim.new.self.lists
          (ap (λ (r : Contents _ _ _ _ _ _). r.lists) s.same) s.places;
      room = omega (arith, ap (λ (r : Contents _ _ _ _ _ _). r.lists.room) s.same);
      work = PaysFor-advance _ 1 _ _ _ _ s.ends.visits _ _
          (ap (λ (x : Contents _ _ _ _ _ _). x.advances) s.same ∙ c.saturating_add-self.ensures)
          s.ends.counted within (omega (arith, s.count)) (omega (arith, s.count))
          (ap (λ (x : Contents _ _ _ _ _ _). ring_count Queue.Cold x) s.same);
      same = search rules;
    }

-- and the victim leaves, or stays with its key
pub returns-clause-stays : goal.returns-clause-stays
returns-clause-stays g c =
    let s = c.seek_victim.ensures in
    let within = visits-an_item g.P.SharedPlaceholder.ticket_of (g.M.Policy.steady c.args.terms.now)
    (rules_by g.M.Policy g.P.Touch.Touches.may_count c.args.terms.now)
    (g.M.Policy.hooks c.args.terms.now) c.args.self.now c.seek_victim.new.self
    c.saturating_add-self.result c.seek_victim.result s.ends s.same in
    let e = c.evict_hot.ensures.evicts in
    let rules = rules_by g.M.Policy g.P.Touch.Touches.may_count c.args.terms.now in
    record {
      sound = c.evict_hot.ensures.stays.sound;
      keys = λ test. omega (
        arith,
        keys_by-hot g.P.SharedPlaceholder.ticket_of test c.args.self.now c.seek_victim.new.self
            c.saturating_add-self.result s.same
            (SeekEnds-keys test (g.M.Policy.steady c.args.terms.now)
            (g.M.Policy.pinned c.args.terms.now) c.args.self.now.mark_cut
            g.P.Touch.Touches.may_count c.seek_victim.result
            _ _ s.ends.visits s.ends.ends),
        FirstIsEvicted-keys test rules Queue.Hot
            (state_of g.P.SharedPlaceholder.ticket_of c.seek_victim.new.self)
            (state_of g.P.SharedPlaceholder.ticket_of c.evict_hot.new.self) e.calls e.holds.0,
      );
      places = λ place there. LosesOnly-hot c.args.self.now.lists c.seek_victim.new.self.lists
          (ap (λ (r : Contents _ _ _ _ _ _). r.lists) s.same) s.places place
          (c.evict_hot.ensures.stays.places place there);
      room = omega (arith, ap (λ (r : Contents _ _ _ _ _ _). r.lists.room) s.same);
      work = PaysFor-advance _ 0 _ _ _ _ s.ends.visits _ _
          (ap (λ (x : Contents _ _ _ _ _ _). x.advances) c.evict_hot.ensures.stays.same
          ∙ ap (λ (x : Contents _ _ _ _ _ _). x.advances) s.same ∙ c.saturating_add-self.ensures)
          (ap (λ (x : Contents _ _ _ _ _ _). x.visits) c.evict_hot.ensures.stays.same ∙
          s.ends.counted)
          within
          (omega (arith, c.evict_hot.ensures.falls, s.count))
          (omega (arith, c.evict_hot.ensures.falls, s.count))
          (c.evict_hot.ensures.cold
          ∙ ap (λ (x : Contents _ _ _ _ _ _). ring_count Queue.Cold x) s.same);
      same = KeepsNumbers-from c.args.self.now c.evict_hot.new.self c.evict_hot.new.self.lists _ _
          (c.evict_hot.ensures.stays.same
          ∙ ap (λ (r : Contents _ _ _ _ _ _). record r { lists = c.evict_hot.new.self.lists })
          s.same);
    }
