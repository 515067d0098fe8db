use Rattle.std.proofs.Common.{◌+◌, sym, ap, subst, ◌∙◌, arith, ◌==◌}
use Rattle.std.specs.Int.NonZero.{non_zero_u32_get as number}
use Rattle.quick_cache_model.specs.declared.refusal.Refusal.{Refusal}
use Rattle.quick_cache_model.specs.Refusals.{IsProvided, MayRefuse, needs_of_replacement}
use Rattle.quick_cache_policy.specs.declared.contents.Contents.{Contents}
use Rattle.quick_cache_policy.specs.Contents.{state_of}
use Rattle.quick_cache_policy.specs.Policies.{rules_by}
use Rattle.quick_cache_policy.proofs.EntryLemmas.{refused-acts}
use Rattle.quick_cache_policy.proofs.WrittenLemmas.{replaces-written, replaces-sound}
use Rattle.std.specs.List.{Contains}
use Rattle.quick_cache_policy.specs.Places.{places_of, LosesOnly}
use Rattle.quick_cache_policy.proofs.KeptPlaces.{left-places, awaited-places}
use Rattle.quick_cache_policy.proofs.contents.Contents.replace_item.Goals as goal

-- tickets are spent
pub returns-then-self-clause-replaces : goal.returns-then-self-clause-replaces
returns-then-self-clause-replaces g c =
    let state = state_of g.P.SharedPlaceholder.ticket_of c.args.self.now in
    let acts = refused-acts (rules_by g.M.Policy g.P.Touch.Touches.may_count c.args.terms.now)
    (g.Q.Equivalent.equivalent c.args.query.now) state state
    (state_of g.P.SharedPlaceholder.ticket_of c.weigh_item.new.self) c.weigh_item.ensures.reweighs
    Refusal.TicketsSpent (MayRefuse.tickets_spent tt (omega (arith, c.if-self.true))) in
    (acts.item, acts.step)

-- there is no memory for the placeholder
pub returns-in-Err-clause-replaces : goal.returns-in-Err-clause-replaces
returns-in-Err-clause-replaces g c =
    let state = state_of g.P.SharedPlaceholder.ticket_of c.args.self.now in
    let provided : IsProvided needs_of_replacement state = record {
      ticket = λ _. omega (arith, c.if-self.false);
      slot = λ none. absurd none;
    } in
    let acts = refused-acts (rules_by g.M.Policy g.P.Touch.Touches.may_count c.args.terms.now)
    (g.Q.Equivalent.equivalent c.args.query.now) state state
    (state_of g.P.SharedPlaceholder.ticket_of c.weigh_item-in-Err.new.self)
    c.weigh_item-in-Err.ensures.reweighs c.in-Err.refusal
    (subst (λ r. MayRefuse needs_of_replacement state r) (sym c.in-Err.ensures.refused)
    (MayRefuse.memory_refused provided tt)) in
    (acts.item, acts.step)

-- it was replaced
pub returns-clause-replaces : goal.returns-clause-replaces
returns-clause-replaces g c =
    let old = c.args.self.now in
    let state = state_of g.P.SharedPlaceholder.ticket_of old in
    let mid = c.take_weighed-key.new.self in
    let gone = c.take_weighed-key.result in
    let takes = c.take_weighed-key.ensures in
    let provided : IsProvided needs_of_replacement state = record {
      ticket = λ _. omega (arith, c.if-self.false);
      slot = λ none. absurd none;
    } in (
      takes.item,
      replaces-written g.P.SharedPlaceholder.ticket_of old mid c.facts.ensures.apart
          (number c.args.token) (g.Q.Equivalent.equivalent c.args.query.now) c.args.hash
          c.requires.found (rules_by g.M.Policy g.P.Touch.Touches.may_count c.args.terms.now) gone
          takes {X = g.row.P-Touch.Denot} c.put.new.self (number c.put.result)
          (record { key = gone.0.0; queue = gone.1; placeholder = c.keep.result })
          c.put.ensures.last (mid.next_ticket + 1)
          (ap (λ (s : Contents _ _ _ _ _ _). s.next_ticket + 1) takes.rest)
          (ap (λ (p : g.row.K.Denot × g.row.V.Denot). p.0) takes.pair) takes.queue
          (c.keep.ensures ∙ c.in-Ok.ensures.ticket) provided,
      c.in-Ok.ensures.ticket,
      ap (λ (p : g.row.K.Denot × g.row.V.Denot). p.1) takes.pair,
    )

pub returns-clause-sound : goal.returns-clause-sound
returns-clause-sound g c =
    let old = c.args.self.now in
    let state = state_of g.P.SharedPlaceholder.ticket_of old in
    let mid = c.take_weighed-key.new.self in
    let gone = c.take_weighed-key.result in
    let takes = c.take_weighed-key.ensures in
    let provided : IsProvided needs_of_replacement state = record {
      ticket = λ _. omega (arith, c.if-self.false);
      slot = λ none. absurd none;
    } in
    replaces-sound g.P.SharedPlaceholder.ticket_of old mid c.facts.ensures.apart
    (number c.args.token) (g.Q.Equivalent.equivalent c.args.query.now) c.args.hash
    c.requires.found (rules_by g.M.Policy g.P.Touch.Touches.may_count c.args.terms.now) gone
    takes {X = g.row.P-Touch.Denot} c.put.new.self (number c.put.result)
    (record { key = gone.0.0; queue = gone.1; placeholder = c.keep.result })
    c.put.ensures.last (mid.next_ticket + 1)
    (ap (λ (s : Contents _ _ _ _ _ _). s.next_ticket + 1) takes.rest)
    (ap (λ (p : g.row.K.Denot × g.row.V.Denot). p.0) takes.pair) takes.queue
    (c.keep.ensures ∙ c.in-Ok.ensures.ticket) provided g.K.PartialEq.eq g.met.K.Eq.laws
    c.requires.sound

-- the placeholder stands beside the items that are left
pub returns-clause-places : goal.returns-clause-places
returns-clause-places g c = λ place there.
    let mid = c.take_weighed-key.new.self in
    let takes = c.take_weighed-key.ensures in
    subst (λ (s : Contents _ _ _ _ _ _). LosesOnly (places_of c.args.self.now.lists)
    (places_of s.lists)) (sym takes.rest)
    (left-places (g.M.Policy.weight_of c.args.terms.now takes.item.key takes.item.value == 0)
    (number c.args.token) c.args.self.now.lists) place
    (subst (λ l. Contains l place)
    (awaited-places {T = g.row.P-Touch.Denot} mid.lists c.put.new.self (number c.put.result)
    c.args.hash (record {
      key = c.take_weighed-key.result.0.0;
      queue = c.take_weighed-key.result.1;
      placeholder = c.keep.result;
    }) c.put.ensures.last) there)
