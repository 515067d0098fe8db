use Rattle.std.proofs.Common.{rules, ◌+◌, sym, ap, subst, ◌∙◌, Some, None, arith}
use Rattle.quick_cache_model.specs.declared.queue.Queue.{Queue}
use Rattle.quick_cache_model.specs.Kinds.{replacement}
use Rattle.quick_cache_model.specs.Hooks.{Calls}
use Rattle.quick_cache_store.specs.Lists.{Finds}
use Rattle.quick_cache_policy.specs.Contents.{state_of, ring_count, work_of}
use Rattle.quick_cache_policy.specs.Policies.{rules_by}
use Rattle.quick_cache_policy.specs.Work.{WorksWithin}
use Rattle.quick_cache_policy.specs.Writing.{WritingAdmitted}
use Rattle.quick_cache_policy.proofs.AdmissionLemmas.{Finds-no_item}
use Rattle.quick_cache_policy.proofs.FindLemmas.{AreHashed-under}
use Rattle.quick_cache_policy.proofs.AnswerLemmas.{WorksWithin-none, Writing-admitted, Writing-too_heavy, provided-replace}
use Rattle.quick_cache_policy.proofs.AnswerLemmas.{WritingAdmitted-gives_back, Rejecting-gives_back, replacement-is, strategy_of-replace}
use Rattle.quick_cache_policy.proofs.LoopLemmas.{Calls-then}
use Rattle.quick_cache_policy.proofs.WrittenPlaces.{LosesOnly-keeps, WritesPlace-keeps}
use Rattle.quick_cache_policy.proofs.contents.Contents.replace.Goals as goal

pub overwrite-requires-clause-found : goal.overwrite-requires-clause-found
overwrite-requires-clause-found g c =
    subst (Finds (g.K.PartialEq.eq c.args.key) c.args.hash c.args.self.now.lists) c.in-Item.is
    c.find-found.ensures

-- there is no item
pub returns-in_default-clause-answers : goal.returns-in_default-clause-answers
returns-in_default-clause-answers g c =
    let steady = g.M.Policy.steady c.args.terms.now in
    let hooks = g.M.Policy.hooks c.args.terms.now in
    let rules = rules_by g.M.Policy g.P.Touch.Touches.may_count c.args.terms.now in
    let equal = g.K.PartialEq.eq in
    let ticket = g.P.SharedPlaceholder.ticket_of in
    let old = c.args.self.now in
    let key = c.args.key in
    let strategy = replacement c.args.soft in
    let under = AreHashed-under (equal key) c.args.hash old.lists rules.hash
    (λ k same. sym (c.requires.hash_is ∙ g.met.M.Policy.same_hash c.args.terms.now key k same))
    c.requires.sound.hashed in
    record {
      provided = provided-replace (equal key) (rules.hash key) (state_of ticket old) c.args.soft;
      step = Calls-then hooks _ _ _ c.args.state.now c.admit.new.state c.admit.new.state
          (Writing-admitted steady rules (equal key) key strategy (state_of ticket old) c.args.value
          (Some (key, c.in-Admitted.weighed.value)) (state_of ticket old) c.in-Admitted.weighed)
          c.in-Admitted.ensures.checks
          (WritingAdmitted-gives_back hooks steady rules (equal key) key
          c.in-Admitted.weighed.value strategy (state_of ticket old) c.admit.new.state
          (replacement-is c.args.soft)
          (Finds-no_item ticket equal key c.args.hash old c.requires.sound.valid under
          c.find-found.result c.find-found.ensures c.in_default.not-Item));
    }

-- the pair was written over it
pub returns-in-Item-clause-answers : goal.returns-in-Item-clause-answers
returns-in-Item-clause-answers g c =
    let steady = g.M.Policy.steady c.args.terms.now in
    let hooks = g.M.Policy.hooks c.args.terms.now in
    let rules = rules_by g.M.Policy g.P.Touch.Touches.may_count c.args.terms.now in
    let equal = g.K.PartialEq.eq in
    let ticket = g.P.SharedPlaceholder.ticket_of in
    let old = c.args.self.now in
    let key = c.args.key in
    let strategy = replacement c.args.soft in
    let new = state_of ticket c.overwrite.new.self in
    record {
      provided = provided-replace (equal key) (rules.hash key) (state_of ticket old) c.args.soft;
      step = Calls-then hooks _ _ _ c.args.state.now c.admit.new.state c.overwrite.new.state
          (Writing-admitted steady rules (equal key) key strategy (state_of ticket old) c.args.value
          None new c.in-Admitted.weighed)
          c.in-Admitted.ensures.checks
          (subst (λ s. Calls hooks (WritingAdmitted steady rules (equal key) key s
          (state_of ticket old) c.in-Admitted.weighed.value None new) c.admit.new.state
          c.overwrite.new.state) (strategy_of-replace c.args.soft) c.overwrite.ensures.writes);
    }

-- the pair is too heavy, and the item was taken out
pub returns-in-TooHeavy-clause-answers : goal.returns-in-TooHeavy-clause-answers
returns-in-TooHeavy-clause-answers g c =
    let steady = g.M.Policy.steady c.args.terms.now in
    let hooks = g.M.Policy.hooks c.args.terms.now in
    let rules = rules_by g.M.Policy g.P.Touch.Touches.may_count c.args.terms.now in
    let equal = g.K.PartialEq.eq in
    let ticket = g.P.SharedPlaceholder.ticket_of in
    let old = c.args.self.now in
    let key = c.args.key in
    let strategy = replacement c.args.soft in
    let new = state_of ticket c.take_out_item.new.self in
    let t = c.take_out_item.ensures.takes in
    record {
      provided = provided-replace (equal key) (rules.hash key) (state_of ticket old) c.args.soft;
      step = Calls-then hooks _ _ _ c.args.state.now c.admit.new.state c.take_out_item.new.state
          (Writing-too_heavy steady rules (equal key) key strategy (state_of ticket old) c.args.value
          (Some (key, c.in-TooHeavy.value)) new c.in-TooHeavy.value)
          c.in-TooHeavy.ensures.checks
          (record {
            calls = t.calls;
            holds = Rejecting-gives_back (equal key) key (state_of ticket old) new
                c.in-TooHeavy.value t.calls t.holds.0 t.holds.1 strategy
                (replacement-is c.args.soft);
            runs = t.runs;
          });
    }

-- nothing moved
pub returns-in_default-clause-stays : goal.returns-in_default-clause-stays
returns-in_default-clause-stays g c =
    let old = c.args.self.now in
    record {
      sound = c.requires.sound;
      places = LosesOnly-keeps g.P.SharedPlaceholder.ticket_of old g.K.PartialEq.eq
          g.met.K.Eq.laws c.requires.sound.valid _ (λ place there. there);
      room = omega arith;
      work = WorksWithin-none old.mark_cut
          (ring_count Queue.Hot old + ring_count Queue.Cold old + 1) (work_of old)
          c.facts.ensures.advances c.facts.ensures.visits;
      same = search rules;
    }

pub returns-in-Item-clause-stays : goal.returns-in-Item-clause-stays
returns-in-Item-clause-stays g c =
    record {
      sound = search rules;
      places = WritesPlace-keeps g.P.SharedPlaceholder.ticket_of c.args.self.now g.K.PartialEq.eq
          g.met.K.Eq.laws c.requires.sound.valid c.args.key _ c.overwrite.ensures.stays.places;
      room = omega arith;
      work = search rules;
      same = search rules;
    }

-- a rejection takes no work
pub returns-in-TooHeavy-clause-stays : goal.returns-in-TooHeavy-clause-stays
returns-in-TooHeavy-clause-stays g c =
    let old = c.args.self.now in
    record {
      sound = search rules;
      places = LosesOnly-keeps g.P.SharedPlaceholder.ticket_of old g.K.PartialEq.eq
          g.met.K.Eq.laws c.requires.sound.valid _ c.take_out_item.ensures.stays.places;
      room = omega arith;
      work = subst (WorksWithin old.mark_cut
          (ring_count Queue.Hot old + ring_count Queue.Cold old + 1)
          (work_of old))
          (sym (ap work_of c.take_out_item.ensures.stays.same))
          (WorksWithin-none old.mark_cut (ring_count Queue.Hot old + ring_count Queue.Cold old + 1)
          (work_of old) (omega arith) (omega arith));
      same = search rules;
    }
