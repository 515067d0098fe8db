use Rattle.std.proofs.Common.{◌≡◌, ◌∙◌, ap, true, refl}
use Rattle.std.specs.Int.NonZero.{non_zero_u32_get as number}
use Rattle.quick_cache_model.specs.CacheState.{Item}
use Rattle.quick_cache_store.specs.Lists.{with_weight}
use Rattle.quick_cache_policy.specs.Policies.{rules_by}
use Rattle.quick_cache_policy.proofs.ReferenceLemmas.{found-value, reweighed-under, reweighed-sound}
use Rattle.quick_cache_policy.proofs.EnterLemmas.{Rewrites-room}
use Rattle.quick_cache_policy.proofs.KeptPlaces.{reweighed-places}
use Rattle.quick_cache_policy.proofs.ThereLemmas.{rewritten-there}
use Rattle.quick_cache_policy.proofs.contents.Contents.reweigh_token.Goals as goal

-- the item that was weighed is the one under any query that stands for its key
pub returns-clause-reweighs : goal.returns-clause-reweighs
returns-clause-reweighs g c = λ stands_for hash found.
    let rules = rules_by g.M.Policy g.P.Touch.Touches.may_count c.args.terms.now in
    let t = number c.args.token in
    let same = found-value g.P.SharedPlaceholder.ticket_of c.args.self.now c.facts.ensures.apart t
    stands_for hash found c.item-item.result c.item-item.ensures in
    let weight : c.weigh-weight.result ≡ rules.weight found.item.key found.item.value =
    c.weigh-weight.ensures
    ∙ (λ i. rules.weight (c.key.ensures i) (c.value.ensures i))
    ∙ ap (λ (item : Item g.row.K.Denot g.row.V.Denot). rules.weight item.key item.value) same in
    reweighed-under g.P.SharedPlaceholder.ticket_of c.args.self.now c.facts.ensures.apart t
    stands_for hash found g.K.PartialEq.eq g.met.K.Eq.laws rules c.requires.sound
    c.reweigh.new.self c.weigh-weight.result weight c.reweigh.ensures

pub returns-clause-stays : goal.returns-clause-stays
returns-clause-stays g c =
    let rules = rules_by g.M.Policy g.P.Touch.Touches.may_count c.args.terms.now in
    let t = number c.args.token in
    let is = c.item-item.ensures in
    let weight : c.weigh-weight.result
    ≡ rules.weight c.item-item.result.key c.item-item.result.value =
    c.weigh-weight.ensures ∙ (λ i. rules.weight (c.key.ensures i) (c.value.ensures i)) in
    record {
      sound = reweighed-sound g.P.SharedPlaceholder.ticket_of c.args.self.now c.facts.ensures.apart
          t
          (λ key. true) is.0 (record { item = c.item-item.result; stands = is.1; passes = refl })
          g.K.PartialEq.eq g.met.K.Eq.laws rules c.requires.sound
          c.reweigh.new.self c.weigh-weight.result weight c.reweigh.ensures;
      places = reweighed-places c.args.self.now.lists c.reweigh.new.self (number c.args.token)
          c.weigh-weight.result c.reweigh.ensures;
      room = Rewrites-room c.args.self.now.lists c.reweigh.new.self (number c.args.token) _ _
          c.reweigh.ensures.1;
      same = refl;
    }

pub returns-clause-there : goal.returns-clause-there
returns-clause-there g c =
    let was = c.reweigh.ensures.0 in (
      was.key,
      rewritten-there c.args.self.now.lists c.reweigh.new.self (number c.args.token)
          (with_weight c.weigh-weight.result was) was c.reweigh.ensures.1,
    )
