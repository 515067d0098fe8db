use Rattle.std.specs.Int.NonZero.{non_zero_u32_get as number}
use Rattle.quick_cache_policy.specs.Policies.{rules_by}
use Rattle.quick_cache_policy.proofs.WrittenLemmas.{removes-written, removes-sound}
use Rattle.std.proofs.Common.{ap, arith, rules, ◌==◌, sym, subst}
use Rattle.quick_cache_policy.specs.Places.{places_of, LosesOnly}
use Rattle.quick_cache_policy.proofs.KeptPlaces.{left-places}
use Rattle.quick_cache_policy.specs.declared.contents.Contents.{Contents}
use Rattle.quick_cache_policy.proofs.contents.Contents.remove_item.Goals as goal

pub returns-clause-removes : goal.returns-clause-removes
returns-clause-removes g c =
    removes-written g.P.SharedPlaceholder.ticket_of c.args.self.now c.take_weighed-pair.new.self
    c.facts.ensures.apart (number c.args.token) (g.Q.Equivalent.equivalent c.args._query.now)
    c.args.hash c.requires.found
    (rules_by g.M.Policy g.P.Touch.Touches.may_count c.args.terms.now) c.take_weighed-pair.result
    c.take_weighed-pair.ensures

pub returns-clause-stays : goal.returns-clause-stays
returns-clause-stays g c =
    let takes = c.take_weighed-pair.ensures in
    record {
      sound = removes-sound g.P.SharedPlaceholder.ticket_of c.args.self.now
          c.take_weighed-pair.new.self
          c.facts.ensures.apart (number c.args.token) (g.Q.Equivalent.equivalent c.args._query.now)
          c.args.hash c.requires.found
          (rules_by g.M.Policy g.P.Touch.Touches.may_count c.args.terms.now)
          c.take_weighed-pair.result
          c.take_weighed-pair.ensures g.K.PartialEq.eq g.met.K.Eq.laws c.requires.sound;
      places = subst (λ (s : Contents _ _ _ _ _ _). LosesOnly (places_of c.args.self.now.lists)
          (places_of s.lists)) (sym takes.rest)
          (left-places (g.M.Policy.weight_of c.args.terms.now takes.item.key takes.item.value == 0)
          (number c.args.token) c.args.self.now.lists);
      room = omega (arith, ap (λ (s : Contents _ _ _ _ _ _). s.lists.room) takes.rest);
      same = search rules;
    }
