use Rattle.std.proofs.Common.{◌≡◌, rules}
use Rattle.quick_cache_loading.specs.LoadingStep.{LoadingStep}
use Rattle.quick_cache_loading.specs.Joining.{BeginsOrJoins}
use Rattle.quick_cache_loading.specs.declared.protocol.events.Event.{Event}
use Rattle.quick_cache_loading.specs.declared.protocol.events.Answer.{Answer}
use Rattle.quick_cache_loading.proofs.waiting.JoinLemmas.{went_on, came}
use Rattle.quick_cache_loading.proofs.waiting.state.State.join.Goals as goal

-- a share comes where a life began
pub returns-in-Some-clause-enters : goal.returns-in-Some-clause-enters
returns-in-Some-clause-enters g c =
    BeginsOrJoins.begins c.in-Some.share c.create.new.self.core c.in-Some.ensures.event

-- where none comes, the life went on
pub returns-then-is_over-clause-enters : goal.returns-then-is_over-clause-enters
returns-then-is_over-clause-enters g c =
    let step : LoadingStep g.V.Clone.is_clone c.args.self.now.core Event.Create Answer.NotNow
    c.create.new.self.core = search rules in
    let on = went_on _ _ c.args.self.now.core.life step in
    let key : c.create.new.self.key ≡ c.args.self.now.key = search rules in
    let next : c.create.new.self.next ≡ c.args.self.now.next = search rules in
    BeginsOrJoins.polls_at_once _ _ c.if-is_over.true (rw on at step)
    (rw (key, on, next) at c.poll_at_once.ensures.looks)

pub returns-clause-enters : goal.returns-clause-enters
returns-clause-enters g c =
    let step : LoadingStep g.V.Clone.is_clone c.args.self.now.core Event.Create Answer.NotNow
    c.create.new.self.core = search rules in
    let on = went_on _ _ c.args.self.now.core.life step in
    let next : c.create.new.self.next ≡ c.args.self.now.next = search rules in
    let key : c.add_waiter-answer.new.self.key ≡ c.args.self.now.key = search rules in
    let tells = c.told_joiner.ensures.tells c.create.new.self.next (search rules) in
    came _ _ _ _ _ c.add_waiter-answer.result.0 _ c.create.new.self.core c.add_waiter-answer.new.self.core
    c.if-is_over.false (rw on at step) on (rw next at c.add_waiter-answer.ensures.event)
    (rw (key, next) at tells)

-- or no number is left
pub returns-then-self-clause-enters : goal.returns-then-self-clause-enters
returns-then-self-clause-enters g c =
    let step : LoadingStep g.V.Clone.is_clone c.args.self.now.core Event.Create Answer.NotNow
    c.create.new.self.core = search rules in
    let on = went_on _ _ c.args.self.now.core.life step in
    let next : c.self.inside.next ≡ c.args.self.now.next = search rules in
    rw on (BeginsOrJoins.all_spent (rw next at c.if-self.true) c.if-is_over.false (rw on at step))
