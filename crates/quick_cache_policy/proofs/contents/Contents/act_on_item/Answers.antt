use Rattle.std.proofs.Common.{◌≡◌, ap, subst, ◌∙◌}
use Rattle.quick_cache_model.specs.CacheState.{Item}
use Rattle.quick_cache_model.specs.Entries.{Retain, Remove, ReplaceWithGuard, Kept, Removed, Replaced, Refused}
use Rattle.quick_cache_policy.specs.declared.contents.Contents.{Contents}
use Rattle.quick_cache_model.specs.declared.calls.entry.EntryAction.{EntryAction}
use Rattle.quick_cache_policy.specs.Contents.{state_of}
use Rattle.quick_cache_model.specs.Callbacks.{Leaves}
use Rattle.quick_cache_policy.specs.Policies.{rules_by}
use Rattle.quick_cache_policy.proofs.EntryLemmas.{written-acts, written-item}
use Rattle.quick_cache_policy.proofs.ReferenceLemmas.{keys_by-query}
use Rattle.std.specs.List.{Contains}
use Rattle.quick_cache_policy.proofs.contents.Contents.act_on_item.Goals as goal

pub keep_item-requires-clause-sound : goal.keep_item-requires-clause-sound
keep_item-requires-clause-sound g c =
    c.show_item.ensures.sound (g.M.Policy.hashed c.args.terms.now) c.requires.sound

pub remove_item-key-requires-clause-sound : goal.remove_item-key-requires-clause-sound
remove_item-key-requires-clause-sound g c =
    c.show_item.ensures.sound (g.M.Policy.hashed c.args.terms.now) c.requires.sound

pub replace_item-requires-clause-sound : goal.replace_item-requires-clause-sound
replace_item-requires-clause-sound g c =
    c.show_item.ensures.sound (g.M.Policy.hashed c.args.terms.now) c.requires.sound

-- it stays
pub returns-in-Retain-clause-answers : goal.returns-in-Retain-clause-answers
returns-in-Retain-clause-answers g c =
    let ticket_of = g.P.SharedPlaceholder.ticket_of in
    let rules = rules_by g.M.Policy g.P.Touch.Touches.may_count c.args.terms.now in
    let stands_for = g.Q.Equivalent.equivalent c.args.query.now in
    let shows = c.show_item.ensures.shows in
    let sound = c.show_item.ensures.sound (g.M.Policy.hashed c.args.terms.now) c.requires.sound in
    let found = c.show_item.ensures.found in
    let old = state_of ticket_of c.args.self.now in
    let mid = state_of ticket_of c.show_item.new.self in
    let new = state_of ticket_of c.keep_item.new.self in
    let single = keys_by-query stands_for g.K.PartialEq.eq
    (g.met.Q.Equivalent.same_key c.args.query.now) mid sound.valid found.item.key found.passes in
    let acts = c.keep_item.ensures.acts in
    record {
      item = shows.item;
      left = shows.left;
      called = subst (λ (a : EntryAction g.row.T.Denot). Leaves g.F.FnMut c.args.callback.now
          shows.item.key shows.item.value a c.show_item.new.callback shows.left) c.in-Retain.is
          shows.called;
      step = written-acts rules stands_for old shows.place shows.before shows.item shows.after
          shows.left shows.at mid shows.rest single Retain Kept acts.item new acts.step;
      given = tt;
    }

-- it goes
pub returns-in-Remove-clause-answers : goal.returns-in-Remove-clause-answers
returns-in-Remove-clause-answers g c =
    let ticket_of = g.P.SharedPlaceholder.ticket_of in
    let rules = rules_by g.M.Policy g.P.Touch.Touches.may_count c.args.terms.now in
    let stands_for = g.Q.Equivalent.equivalent c.args.query.now in
    let shows = c.show_item.ensures.shows in
    let sound = c.show_item.ensures.sound (g.M.Policy.hashed c.args.terms.now) c.requires.sound in
    let found = c.show_item.ensures.found in
    let old = state_of ticket_of c.args.self.now in
    let mid = state_of ticket_of c.show_item.new.self in
    let new = state_of ticket_of c.remove_item-key.new.self in
    let single = keys_by-query stands_for g.K.PartialEq.eq
    (g.met.Q.Equivalent.same_key c.args.query.now) mid sound.valid found.item.key found.passes in
    let acts = c.remove_item-key.ensures.removes in
    let is : acts.item ≡ record shows.item { value = shows.left } = written-item rules stands_for old
    shows.place shows.before shows.item shows.after shows.left shows.at mid shows.rest single
    Remove Removed acts.item new acts.step in
    record {
      item = shows.item;
      left = shows.left;
      called = subst (λ (a : EntryAction g.row.T.Denot). Leaves g.F.FnMut c.args.callback.now
          shows.item.key shows.item.value a c.show_item.new.callback shows.left) c.in-Remove.is
          shows.called;
      step = written-acts rules stands_for old shows.place shows.before shows.item shows.after
          shows.left shows.at mid shows.rest single Remove Removed acts.item new acts.step;
      given = (
        ap (λ (p : g.row.K.Denot × g.row.V.Denot). p.0) acts.gives
            ∙ ap (λ (i : Item g.row.K.Denot g.row.V.Denot). i.key) is,
        ap (λ (p : g.row.K.Denot × g.row.V.Denot). p.1) acts.gives
            ∙ ap (λ (i : Item g.row.K.Denot g.row.V.Denot). i.value) is,
      );
    }

-- it gives its slot to a placeholder
pub returns-in-Ok-clause-answers : goal.returns-in-Ok-clause-answers
returns-in-Ok-clause-answers g c =
    let ticket_of = g.P.SharedPlaceholder.ticket_of in
    let rules = rules_by g.M.Policy g.P.Touch.Touches.may_count c.args.terms.now in
    let stands_for = g.Q.Equivalent.equivalent c.args.query.now in
    let shows = c.show_item.ensures.shows in
    let sound = c.show_item.ensures.sound (g.M.Policy.hashed c.args.terms.now) c.requires.sound in
    let found = c.show_item.ensures.found in
    let old = state_of ticket_of c.args.self.now in
    let mid = state_of ticket_of c.show_item.new.self in
    let new = state_of ticket_of c.replace_item.new.self in
    let single = keys_by-query stands_for g.K.PartialEq.eq
    (g.met.Q.Equivalent.same_key c.args.query.now) mid sound.valid found.item.key found.passes in
    let acts = c.in-Ok.ensures.replaces in
    let is : acts.0 ≡ record shows.item { value = shows.left } = written-item rules stands_for old
    shows.place shows.before shows.item shows.after shows.left shows.at mid shows.rest single
    ReplaceWithGuard Replaced acts.0 new acts.1 in
    record {
      item = shows.item;
      left = shows.left;
      called = subst (λ (a : EntryAction g.row.T.Denot). Leaves g.F.FnMut c.args.callback.now
          shows.item.key shows.item.value a c.show_item.new.callback shows.left) c.in-ReplaceWithGuard.is
          shows.called;
      step = written-acts rules stands_for old shows.place shows.before shows.item shows.after
          shows.left shows.at mid shows.rest single ReplaceWithGuard Replaced acts.0 new acts.1;
      given = (
        acts.2 ∙ ap (λ (s : Contents _ _ _ _ _ _). s.next_ticket) c.show_item.ensures.same,
        acts.3 ∙ ap (λ (i : Item g.row.K.Denot g.row.V.Denot). i.value) is,
      );
    }

-- it stays, as the callback wrote it
pub returns-in-Err-clause-answers : goal.returns-in-Err-clause-answers
returns-in-Err-clause-answers g c =
    let ticket_of = g.P.SharedPlaceholder.ticket_of in
    let rules = rules_by g.M.Policy g.P.Touch.Touches.may_count c.args.terms.now in
    let stands_for = g.Q.Equivalent.equivalent c.args.query.now in
    let shows = c.show_item.ensures.shows in
    let sound = c.show_item.ensures.sound (g.M.Policy.hashed c.args.terms.now) c.requires.sound in
    let found = c.show_item.ensures.found in
    let old = state_of ticket_of c.args.self.now in
    let mid = state_of ticket_of c.show_item.new.self in
    let new = state_of ticket_of c.replace_item.new.self in
    let single = keys_by-query stands_for g.K.PartialEq.eq
    (g.met.Q.Equivalent.same_key c.args.query.now) mid sound.valid found.item.key found.passes in
    let acts = c.in-Err.ensures.replaces in
    record {
      item = shows.item;
      left = shows.left;
      called = subst (λ (a : EntryAction g.row.T.Denot). Leaves g.F.FnMut c.args.callback.now
          shows.item.key shows.item.value a c.show_item.new.callback shows.left) c.in-ReplaceWithGuard.is
          shows.called;
      step = written-acts rules stands_for old shows.place shows.before shows.item shows.after
          shows.left shows.at mid shows.rest single ReplaceWithGuard (Refused c.in-Err.refusal) acts.0 new acts.1;
      given = tt;
    }

pub returns-in-Retain-clause-places : goal.returns-in-Retain-clause-places
returns-in-Retain-clause-places g c = λ place there.
    subst (λ l. Contains l place) c.show_item.ensures.places
    (c.keep_item.ensures.places place there)

pub returns-in-Remove-clause-places : goal.returns-in-Remove-clause-places
returns-in-Remove-clause-places g c = λ place there.
    subst (λ l. Contains l place) c.show_item.ensures.places
    (c.remove_item-key.ensures.stays.places place there)

pub returns-in-Ok-clause-places : goal.returns-in-Ok-clause-places
returns-in-Ok-clause-places g c = λ place there.
    subst (λ l. Contains l place) c.show_item.ensures.places
    (c.replace_item.ensures.places place there)

pub returns-in-Err-clause-places : goal.returns-in-Err-clause-places
returns-in-Err-clause-places g c = λ place there.
    subst (λ l. Contains l place) c.show_item.ensures.places
    (c.replace_item.ensures.places place there)
