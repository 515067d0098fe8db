use Rattle.std.proofs.Common.{[], arith, refl, sym, ap, subst, ◌∙◌, inl, inr}
use Rattle.std.specs.Int.NonZero.{non_zero_u32_get as number}
use Rattle.quick_cache_model.specs.CacheState.{Item}
use Rattle.quick_cache_policy.specs.Contents.{state_of}
use Rattle.quick_cache_policy.specs.Finding.{EntersAt, at_ghost, at_loading}
use Rattle.quick_cache_policy.specs.Policies.{rules_by}
use Rattle.quick_cache_policy.specs.Writing.{AreAdmittedCalls, IsReplacement}
use Rattle.quick_cache_policy.proofs.BoundLemmas.{PaysFor-within}
use Rattle.quick_cache_policy.proofs.FindLemmas.{AreHashed-under}
use Rattle.quick_cache_policy.proofs.OverwriteLemmas.{EntersAt-enters}
use Rattle.quick_cache_policy.proofs.WrittenPlaces.{no-place, replaced-places}
use Rattle.quick_cache_policy.proofs.contents.Contents.enter_at.Goals as goal

pub replace-requires : goal.replace-requires
replace-requires g c = elim c.requires.enters [
  | at_ghost found hot none ↦ inr (inr (_, found.1, refl))
  | at_loading found same one ↦ inr (inl (found.waiting, found.stands, found.named))
]

-- the lists are sound once the item stands there
pub evict_to_capacity-requires : goal.evict_to_capacity-requires
evict_to_capacity-requires g c =
    let rules = rules_by g.M.Policy g.P.Touch.Touches.may_count c.args.terms.now in
    let key = c.args.key in
    let lists = c.args.self.now.lists in
    let under = AreHashed-under (g.K.PartialEq.eq key) (rules.hash key) lists rules.hash
    (λ k same. sym (g.met.M.Policy.same_hash c.args.terms.now key k same))
    c.requires.sound.hashed in
    let enters = subst (λ h. EntersAt (g.K.PartialEq.eq key) h lists c.args.token c.args.queue
    c.args.mark) c.requires.hash_is c.requires.enters in
    let entered = EntersAt-enters g.P.SharedPlaceholder.ticket_of c.args.self.now
    c.facts.ensures.apart g.K.PartialEq.eq g.met.K.Eq.laws rules key c.args.weighed.value
    c.args.token c.args.queue c.args.mark under enters c.new-entered.result c.replace.result
    c.replace.new.self c.replace.ensures c.requires.sound
    (c.new-entered.ensures ∙ (λ i. record c.new-entered.result {
      key = key;
      value = c.args.weighed.value;
      weight = c.requires.weight_is i;
      mark = c.args.mark;
      reads = 0;
      queue = c.args.queue;
    })) in
    record { sound = entered.sound }

pub returns-clause-writes : goal.returns-clause-writes
returns-clause-writes g c =
    let rules = rules_by g.M.Policy g.P.Touch.Touches.may_count c.args.terms.now in
    let key = c.args.key in
    let lists = c.args.self.now.lists in
    let under = AreHashed-under (g.K.PartialEq.eq key) (rules.hash key) lists rules.hash
    (λ k same. sym (g.met.M.Policy.same_hash c.args.terms.now key k same))
    c.requires.sound.hashed in
    let enters = subst (λ h. EntersAt (g.K.PartialEq.eq key) h lists c.args.token c.args.queue
    c.args.mark) c.requires.hash_is c.requires.enters in
    let entered = EntersAt-enters g.P.SharedPlaceholder.ticket_of c.args.self.now
    c.facts.ensures.apart g.K.PartialEq.eq g.met.K.Eq.laws rules key c.args.weighed.value
    c.args.token c.args.queue c.args.mark under enters c.new-entered.result c.replace.result
    c.replace.new.self c.replace.ensures c.requires.sound
    (c.new-entered.ensures ∙ (λ i. record c.new-entered.result {
      key = key;
      value = c.args.weighed.value;
      weight = c.requires.weight_is i;
      mark = c.args.mark;
      reads = 0;
      queue = c.args.queue;
    })) in
    let evicts = c.evict_to_capacity.ensures.evicts in
    record {
      calls = evicts.calls;
      holds = (
        λ steady. entered.writes _ evicts.calls (evicts.holds.0 steady),
        AreAdmittedCalls.writes [] evicts.calls IsReplacement.none evicts.holds.1,
        entered.tells (state_of g.P.SharedPlaceholder.ticket_of c.evict_to_capacity.new.self)
            evicts.calls evicts.holds.2,
      );
      runs = evicts.runs;
    }

-- the key stood nowhere
pub returns-clause-stays : goal.returns-clause-stays
returns-clause-stays g c =
    let rules = rules_by g.M.Policy g.P.Touch.Touches.may_count c.args.terms.now in
    let key = c.args.key in
    let lists = c.args.self.now.lists in
    let under = AreHashed-under (g.K.PartialEq.eq key) (rules.hash key) lists rules.hash
    (λ k same. sym (g.met.M.Policy.same_hash c.args.terms.now key k same))
    c.requires.sound.hashed in
    let enters = subst (λ h. EntersAt (g.K.PartialEq.eq key) h lists c.args.token c.args.queue
    c.args.mark) c.requires.hash_is c.requires.enters in
    let entered = EntersAt-enters g.P.SharedPlaceholder.ticket_of c.args.self.now
    c.facts.ensures.apart g.K.PartialEq.eq g.met.K.Eq.laws rules key c.args.weighed.value
    c.args.token c.args.queue c.args.mark under enters c.new-entered.result c.replace.result
    c.replace.new.self c.replace.ensures c.requires.sound
    (c.new-entered.ensures ∙ (λ i. record c.new-entered.result {
      key = key;
      value = c.args.weighed.value;
      weight = c.requires.weight_is i;
      mark = c.args.mark;
      reads = 0;
      queue = c.args.queue;
    })) in
    record {
      sound = c.evict_to_capacity.ensures.stays.sound;
      places = λ place there. elim (replaced-places {T = g.row.P-Touch.Denot} lists
          c.replace.new.self (number c.args.token) c.new-entered.result c.replace.result
          c.replace.ensures place (c.evict_to_capacity.ensures.stays.places place there)) [
            | inl stood ↦ inl stood
            | inr made ↦ inr (
              ap (λ p. p.1) made ∙ ap (λ (i : Item _ _). i.key) c.new-entered.ensures,
              λ other there same. absurd (no-place g.P.SharedPlaceholder.ticket_of c.args.self.now
                  (g.K.PartialEq.eq key) entered.absent other there same),
            )
          ];
      room = omega arith;
      work = PaysFor-within _ _ _ _ _ _ _ _ entered.count c.evict_to_capacity.ensures.stays.work;
      same = c.evict_to_capacity.ensures.stays.same;
    }
