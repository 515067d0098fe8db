use Rattle.quick_cache_policy.specs.Contents.{state_of}
use Rattle.quick_cache_policy.specs.Policies.{rules_by}
use Rattle.quick_cache_policy.proofs.ReferenceLemmas.{keys_by-query}
use Rattle.quick_cache_policy.proofs.EntryLemmas.{kept-acts}
use Rattle.std.proofs.Common.{subst}
use Rattle.std.specs.List.{Contains}
use Rattle.quick_cache_policy.proofs.contents.Contents.keep_item.Goals as goal

pub weigh_item-requires-clause-sound : goal.weigh_item-requires-clause-sound
weigh_item-requires-clause-sound g c =
    c.count_hit.ensures.sound (g.M.Policy.hashed c.args.terms.now) c.requires.sound

-- it was looked up, and then weighed
pub returns-clause-acts : goal.returns-clause-acts
returns-clause-acts g c =
    let ticket_of = g.P.SharedPlaceholder.ticket_of in
    let stands_for = g.Q.Equivalent.equivalent c.args.query.now in
    let mid = state_of ticket_of c.count_hit.new.self in
    let sound = c.count_hit.ensures.sound (g.M.Policy.hashed c.args.terms.now) c.requires.sound in
    kept-acts (rules_by g.M.Policy g.P.Touch.Touches.may_count c.args.terms.now) stands_for
    (state_of ticket_of c.args.self.now) mid (state_of ticket_of c.weigh_item.new.self)
    c.count_hit.ensures.counts
    (keys_by-query stands_for g.K.PartialEq.eq (g.met.Q.Equivalent.same_key c.args.query.now) mid
    sound.valid c.count_hit.ensures.found.item.key c.count_hit.ensures.found.passes)
    c.weigh_item.ensures.reweighs

pub returns-clause-places : goal.returns-clause-places
returns-clause-places g c = λ place there.
    subst (λ l. Contains l place) c.count_hit.ensures.places
    (c.weigh_item.ensures.stays.places place there)
