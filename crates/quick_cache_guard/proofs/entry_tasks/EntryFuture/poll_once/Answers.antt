use Rattle.std.proofs.Common.{◌≡◌, false, rules}
use Rattle.quick_cache_guard.proofs.entry_tasks.EntryFuture.poll_once.Goals as goal

-- query and callback are those of the call
pub returns-in-Looks-clause-chosen : goal.returns-in-Looks-clause-chosen
returns-in-Looks-clause-chosen g c =
    let same : c.self.inside.callback ≡ c.args.self.now.callback = search rules in
    let query : c.self.inside.query.now ≡ c.args.self.now.query = search rules in
    rw query at (rw same at c.act.ensures.chosen)

-- they stay while it waits
pub returns-in-Ready-None-clause-chosen : goal.returns-in-Ready-None-clause-chosen
returns-in-Ready-None-clause-chosen g c =
    let same : c.wait.new.self.callback ≡ c.args.self.now.callback = search rules in
    let query : c.wait.new.self.query ≡ c.args.self.now.query = search rules in
    rw query at (rw same at c.act-in-Ready-None.ensures.chosen)

-- what the callback leaves still fits
pub act-requires-in-Ready-None-clause-leaves : goal.act-requires-in-Ready-None-clause-leaves
act-requires-in-Ready-None-clause-leaves g c =
    let same : c.wait.new.self.callback ≡ c.args.self.now.callback = search rules in
    let begins : c.args.self.now.is_finished ≡ false = search rules in
    rw same (c.requires.leaves begins)

-- and whoever looks again was told so
pub returns-in-Looks-clause-again : goal.returns-in-Looks-clause-again
returns-in-Looks-clause-again g c =
    let query : c.self.inside.query.now ≡ c.args.self.now.query = search rules in
    rw query at c.act.ensures.again

pub returns-in-Ready-None-clause-again : goal.returns-in-Ready-None-clause-again
returns-in-Ready-None-clause-again g c =
    let query : c.wait.new.self.query ≡ c.args.self.now.query = search rules in
    rw query at c.act-in-Ready-None.ensures.again

-- and whoever is refused
pub returns-in-Looks-clause-cause : goal.returns-in-Looks-clause-cause
returns-in-Looks-clause-cause g c = λ _.
    let query : c.self.inside.query.now ≡ c.args.self.now.query = search rules in
    rw query at c.act.ensures.cause

pub returns-in-Ready-None-clause-cause : goal.returns-in-Ready-None-clause-cause
returns-in-Ready-None-clause-cause g c = λ _.
    let query : c.wait.new.self.query ≡ c.args.self.now.query = search rules in
    rw query at c.act-in-Ready-None.ensures.cause
