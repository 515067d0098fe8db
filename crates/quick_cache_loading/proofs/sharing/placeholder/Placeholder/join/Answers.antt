use Rattle.std.proofs.Common.{◌≡◌, ◌∙◌, false, true≢false, refl, sym, rules}
use Rattle.quick_cache_loading.specs.Waiters.{has_ended}
use Rattle.quick_cache_loading.proofs.waiting.JoinLemmas.{came-wanted}
use Rattle.quick_cache_loading.proofs.sharing.placeholder.Placeholder.join.Goals.{then-ticket-self-via-then-ticket-self, then-ticket-self-via-else-ticket-self+then-has_ended}
use Rattle.quick_cache_loading.proofs.sharing.placeholder.Placeholder.join.Goals as goal

-- it looks again where the state is another's, or the load has ended for it
pub returns-then-ticket-self-clause-enters : goal.returns-then-ticket-self-clause-enters
returns-then-ticket-self-clause-enters g c = record {
  old = c.deref.result.now;
  new = c.deref.result.now;
  holds = record {
    elsewhere = λ other. refl;
    ended = λ over. refl;
    enters = λ own goes_on. elim c.then-ticket-self.branch [
      | then-ticket-self-via-then-ticket-self w ↦ absurd (search rules)
      | then-ticket-self-via-else-ticket-self+then-has_ended w ↦ absurd (search rules)
    ];
  };
}

-- else as the state says
pub returns-clause-enters : goal.returns-clause-enters
returns-clause-enters g c =
    let goes_on : has_ended c.args.wants c.deref_mut.result.now.core.life ≡ false = search rules in
    let own : c.args.self.now.ticket ≡ c.deref_mut.result.now.ticket = search rules in
    record {
      old = c.deref_mut.result.now;
      new = c.join.new.self;
      holds = record {
        elsewhere = λ other. absurd (other (sym own));
        ended = λ over. absurd (true≢false (sym over ∙ goes_on));
        enters = λ _ _. c.join.ensures.enters;
      };
    }

-- one who wants no value is shown none
pub returns-clause-told : goal.returns-clause-told
returns-clause-told g c =
    let goes_on : has_ended c.args.wants c.deref_mut.result.now.core.life ≡ false = search rules in
    let own : c.args.self.now.ticket ≡ c.deref_mut.result.now.ticket = search rules in
    let stands = g.Q.Equivalent.equivalent c.args.query.now c.deref_mut.result.now.key in
    rw own (came-wanted _ stands _ _ _ _ _ c.args.wants _ _ goes_on c.join.ensures.enters
    c.join.ensures.told)
