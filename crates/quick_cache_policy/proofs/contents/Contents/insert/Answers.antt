use Rattle.std.proofs.Common.{rules, ℕ, ◌+◌, refl, sym, ap, subst, ◌∙◌, None, arith}
use Rattle.quick_cache_model.specs.declared.queue.Queue.{Queue}
use Rattle.quick_cache_model.specs.Hooks.{Calls}
use Rattle.quick_cache_model.specs.Writes.{Insert}
use Rattle.quick_cache_store.specs.Lists.{Lists, Finds}
use Rattle.quick_cache_policy.specs.Contents.{state_of, ring_count, work_of}
use Rattle.quick_cache_policy.specs.Policies.{rules_by}
use Rattle.quick_cache_policy.specs.Work.{WorksWithin}
use Rattle.quick_cache_policy.specs.Writing.{Writing}
use Rattle.quick_cache_policy.proofs.FindLemmas.{AreHashed-under, Finds-room}
use Rattle.quick_cache_policy.proofs.AnswerLemmas.{WorksWithin-none, Writing-admitted, Writing-too_heavy, Provides-provided}
use Rattle.quick_cache_policy.proofs.AnswerLemmas.{Provides-refused}
use Rattle.quick_cache_policy.proofs.LoopLemmas.{Calls-then}
use Rattle.quick_cache_policy.specs.declared.contents.Contents.{Contents}
use Rattle.quick_cache_policy.specs.Places.{places_of, LosesOnly, WritesPlace}
use Rattle.quick_cache_policy.proofs.PlaceLemmas.{LosesOnly-same}
use Rattle.quick_cache_policy.proofs.WrittenPlaces.{LosesOnly-keeps, WritesPlace-keeps}
use Rattle.quick_cache_policy.proofs.contents.Contents.insert.Goals as goal

-- where there was no room, nothing changed
pub returns-in-Err-clause-answers : goal.returns-in-Err-clause-answers
returns-in-Err-clause-answers g c =
    let equal_to = g.K.PartialEq.eq c.args.key in
    let ticket = g.P.SharedPlaceholder.ticket_of in
    let old = c.args.self.now in
    let hash = g.M.Policy.hashed c.args.terms.now c.args.key in
    let under = AreHashed-under equal_to hash old.lists (g.M.Policy.hashed c.args.terms.now)
    (λ k same. sym (g.met.M.Policy.same_hash c.args.terms.now c.args.key k same))
    c.requires.sound.hashed in
    record {
      key_back = refl;
      value_back = refl;
      unchanged = ap (state_of ticket) c.provide.ensures.lists;
      no_hook = refl;
      cause = (Provides-refused ticket equal_to hash old c.provide.new.self.lists.room under
          c.find-found.result
          (subst (λ (h : ℕ). Finds equal_to h old.lists c.find-found.result) c.requires.hash_is
          c.find-found.ensures) c.in-Err.refusal c.in-Err.ensures.provides).1;
    }

-- making room changes nothing that is found
pub insert_admitted-requires-clause-found : goal.insert_admitted-requires-clause-found
insert_admitted-requires-clause-found g c =
    let equal_to = g.K.PartialEq.eq c.args.key in
    subst (λ (lists : Lists _ _ _). Finds equal_to c.args.hash lists c.find-found.result)
    (sym (ap (λ s. s.lists) c.provide.ensures.lists))
    (Finds-room equal_to c.args.hash c.args.self.now.lists c.provide.new.self.lists.room
    c.find-found.result c.find-found.ensures)

pub turn_away-requires-clause-found : goal.turn_away-requires-clause-found
turn_away-requires-clause-found g c =
    let equal_to = g.K.PartialEq.eq c.args.key in
    subst (λ (lists : Lists _ _ _). Finds equal_to c.args.hash lists c.find-found.result)
    (sym (ap (λ s. s.lists) c.provide.ensures.lists))
    (Finds-room equal_to c.args.hash c.args.self.now.lists c.provide.new.self.lists.room
    c.find-found.result c.find-found.ensures)

-- there was room, and the pair was written
pub returns-in-Admitted-clause-answers : goal.returns-in-Admitted-clause-answers
returns-in-Admitted-clause-answers g c =
    let steady = g.M.Policy.steady c.args.terms.now in
    let hooks = g.M.Policy.hooks c.args.terms.now in
    let rules = rules_by g.M.Policy g.P.Touch.Touches.may_count c.args.terms.now in
    let equal = g.K.PartialEq.eq in
    let ticket = g.P.SharedPlaceholder.ticket_of in
    let old = c.args.self.now in
    let key = c.args.key in
    record {
      provided = Provides-provided ticket (equal key) (rules.hash key) old
          c.provide.new.self.lists.room c.find-found.result
          (subst (λ (h : ℕ). Finds (equal key) h old.lists c.find-found.result) c.requires.hash_is
          c.find-found.ensures) c.in_default.ensures.provides;
      step = subst (λ state. Calls hooks (Writing steady rules (equal key) key Insert state
          c.args.value None (state_of ticket c.insert_admitted.new.self)) c.args.state.now
          c.insert_admitted.new.state) (ap (state_of ticket) c.provide.ensures.lists)
          (Calls-then hooks _ _ _ c.args.state.now c.admit.new.state c.insert_admitted.new.state
          (Writing-admitted steady rules (equal key) key Insert (state_of ticket c.provide.new.self) c.args.value
          None (state_of ticket c.insert_admitted.new.self) c.in-Admitted.weighed)
          c.in-Admitted.ensures.checks c.insert_admitted.ensures.writes);
    }

-- or turned away
pub returns-in-TooHeavy-clause-answers : goal.returns-in-TooHeavy-clause-answers
returns-in-TooHeavy-clause-answers g c =
    let steady = g.M.Policy.steady c.args.terms.now in
    let hooks = g.M.Policy.hooks c.args.terms.now in
    let rules = rules_by g.M.Policy g.P.Touch.Touches.may_count c.args.terms.now in
    let equal = g.K.PartialEq.eq in
    let ticket = g.P.SharedPlaceholder.ticket_of in
    let old = c.args.self.now in
    let key = c.args.key in
    record {
      provided = Provides-provided ticket (equal key) (rules.hash key) old
          c.provide.new.self.lists.room c.find-found.result
          (subst (λ (h : ℕ). Finds (equal key) h old.lists c.find-found.result) c.requires.hash_is
          c.find-found.ensures) c.in_default.ensures.provides;
      step = subst (λ state. Calls hooks (Writing steady rules (equal key) key Insert state
          c.args.value None (state_of ticket c.turn_away.new.self)) c.args.state.now
          c.turn_away.new.state) (ap (state_of ticket) c.provide.ensures.lists)
          (Calls-then hooks _ _ _ c.args.state.now c.admit.new.state c.turn_away.new.state
          (Writing-too_heavy steady rules (equal key) key Insert (state_of ticket c.provide.new.self) c.args.value
          None (state_of ticket c.turn_away.new.self) c.in-TooHeavy.value)
          c.in-TooHeavy.ensures.checks c.turn_away.ensures.rejects);
    }

-- nothing moved
pub returns-in-Err-clause-stays : goal.returns-in-Err-clause-stays
returns-in-Err-clause-stays g c =
    let old = c.args.self.now in
    record {
      sound = search rules;
      places = LosesOnly-keeps g.P.SharedPlaceholder.ticket_of c.args.self.now g.K.PartialEq.eq
          g.met.K.Eq.laws
          c.requires.sound.valid _ (LosesOnly-same _ _ (ap
          (λ (r : Contents _ _ _ _ _ _). places_of r.lists) c.provide.ensures.lists));
      room = omega arith;
      work = subst (WorksWithin old.mark_cut
          (ring_count Queue.Hot old + ring_count Queue.Cold old + 1)
          (work_of old))
          (sym (ap work_of c.provide.ensures.lists))
          (WorksWithin-none old.mark_cut (ring_count Queue.Hot old + ring_count Queue.Cold old + 1)
          (work_of old) (omega arith)
          (omega arith));
      same = search rules;
    }

pub returns-in-Admitted-clause-stays : goal.returns-in-Admitted-clause-stays
returns-in-Admitted-clause-stays g c =
    record {
      sound = search rules;
      places = WritesPlace-keeps g.P.SharedPlaceholder.ticket_of c.args.self.now g.K.PartialEq.eq
          g.met.K.Eq.laws c.requires.sound.valid c.args.key _
          (subst (λ l. WritesPlace g.K.PartialEq.eq c.args.key l
          (places_of c.insert_admitted.new.self.lists))
          (ap (λ (r : Contents _ _ _ _ _ _). places_of r.lists) c.provide.ensures.lists)
          c.insert_admitted.ensures.stays.places);
      room = omega arith;
      work = search rules;
      same = search rules;
    }

pub returns-in-TooHeavy-clause-stays : goal.returns-in-TooHeavy-clause-stays
returns-in-TooHeavy-clause-stays g c =
    let old = c.args.self.now in
    let away = c.turn_away.ensures.stays in
    record {
      sound = away.sound;
      places = LosesOnly-keeps g.P.SharedPlaceholder.ticket_of old g.K.PartialEq.eq
          g.met.K.Eq.laws c.requires.sound.valid _
          (subst (λ l. LosesOnly l (places_of c.turn_away.new.self.lists))
          (ap (λ (r : Contents _ _ _ _ _ _). places_of r.lists) c.provide.ensures.lists)
          away.places);
      room = omega arith;
      work = subst (WorksWithin old.mark_cut
          (ring_count Queue.Hot old + ring_count Queue.Cold old + 1)
          (work_of old))
          (sym (ap work_of away.same ∙ ap work_of c.provide.ensures.lists))
          (WorksWithin-none old.mark_cut (ring_count Queue.Hot old + ring_count Queue.Cold old + 1)
          (work_of old) (omega arith) (omega arith));
      same = search rules;
    }
