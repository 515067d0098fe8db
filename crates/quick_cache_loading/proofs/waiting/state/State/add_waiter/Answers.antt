use Rattle.std.proofs.Common.{◌≡◌, ◌∙◌, ap, sym, rules}
use Rattle.quick_cache_loading.specs.Tasks.{with_slot}
use Rattle.quick_cache_loading.proofs.waiting.SlotLemmas.{joined, not-joined, slot-back}
use Rattle.quick_cache_loading.proofs.waiting.TaskLemmas.{joined-other}
use Rattle.quick_cache_loading.proofs.waiting.state.State.add_waiter.Goals as goal

-- who joins has the last slot, by a number that nobody had
pub invariant_of-self-in-Joined : goal.invariant_of-self-in-Joined
invariant_of-self-in-Joined g c =
    let added : c.add.new.self ≡ with_slot c.self.inside.next c.self.inside.tasks = search rules in (
      search rules,
      search rules,
      search rules,
      rw added (joined c.self.inside.next c.self.inside.tasks c.self.inside.core
          c.step-answer.result c.step-answer.new.core g.V.Clone.is_clone c.self.inside.core.life
          c.in-Joined.is c.step-answer.ensures.step c.self.invariant.3),
    )

-- who does not join changes nothing, and its slot is gone
pub invariant_of-self-in_default : goal.invariant_of-self-in_default
invariant_of-self-in_default g c =
    let core =
    not-joined c.self.inside.next c.self.inside.tasks c.self.inside.core c.step-answer.result
    c.step-answer.new.core g.V.Clone.is_clone c.self.inside.core.life c.in_default.not-Joined
    c.step-answer.ensures.step in
    let slots =
    slot-back c.self.inside.next c.self.inside.tasks c.self.inside.core.life c.add.new.self
    c.wake.new.self (search rules) c.wake.ensures c.self.invariant.3 in
    rw (core, slots) c.self.invariant

pub returns-in_default : goal.returns-in_default
returns-in_default g c =
    let slots =
    slot-back c.self.inside.next c.self.inside.tasks c.self.inside.core.life c.add.new.self
    c.wake.new.self (search rules) c.wake.ensures c.self.invariant.3 in
    record {
      event = search rules;
      gives = sym (joined-other c.step-answer.result c.in_default.not-Joined);
      place = tt;
      joined = search rules;
      alone =
          (ap (λ s. s.next) c.self.view_is, slots ∙ ap (λ s. s.tasks) c.self.view_is);
      same = search rules;
      fits = search rules;
    }
