use Rattle.std.proofs.Common.{◌≡◌, rules}
use Rattle.quick_cache_guard.proofs.tasks.GetOrInsert.poll_once.Goals as goal

-- query and loader are those of the call
pub returns-in-Asks-clause-cause : goal.returns-in-Asks-clause-cause
returns-in-Asks-clause-cause g c = λ _.
    let query : c.self.inside.query.now ≡ c.args.self.now.query = search rules in
    let loader : c.self.inside.loader ≡ c.args.self.now.loader = search rules in
    rw query at (rw loader at c.ask.ensures.cause)

pub returns-in-Loads-clause-cause : goal.returns-in-Loads-clause-cause
returns-in-Loads-clause-cause g c = λ _.
    let query : c.self.inside.query.now ≡ c.args.self.now.query = search rules in
    let loader : c.self.inside.loader ≡ c.args.self.now.loader = search rules in
    rw query at (rw loader at c.load.ensures.cause)
