use Rattle.std.proofs.Common.{◌≡◌, rules}
use Rattle.quick_cache_guard.proofs.future.JoinFuture.poll_once.Goals as goal

-- whoever looks again was told so
pub returns-in-Looks-clause-again : goal.returns-in-Looks-clause-again
returns-in-Looks-clause-again g c =
    let query : c.self.inside.query.now ≡ c.args.self.now.query = search rules in
    rw query at c.join.ensures.again

pub returns-in-Waits-clause-again : goal.returns-in-Waits-clause-again
returns-in-Waits-clause-again g c =
    let query : c.self.inside.query.now ≡ c.args.self.now.query = search rules in
    rw query at c.wait.ensures.again

-- so was whoever answers
pub returns-in-Looks-clause-cause : goal.returns-in-Looks-clause-cause
returns-in-Looks-clause-cause g c = λ _.
    let query : c.self.inside.query.now ≡ c.args.self.now.query = search rules in
    rw query at c.join.ensures.cause

pub returns-in-Waits-clause-cause : goal.returns-in-Waits-clause-cause
returns-in-Waits-clause-cause g c = λ _.
    let query : c.self.inside.query.now ≡ c.args.self.now.query = search rules in
    rw query at c.wait.ensures.cause
