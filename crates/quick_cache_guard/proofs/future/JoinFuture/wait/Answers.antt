use Rattle.std.proofs.Common.{◌≡◌, rules}
use Rattle.quick_cache_guard.proofs.future.JoinFuture.wait.Goals as goal

-- it was told so where it has its place
pub give-requires-clause-cause : goal.give-requires-clause-cause
give-requires-clause-cause g c =
    let query : c.self.inside.query.now ≡ c.args.self.now.query = search rules in
    rw query at c.in-Ok.ensures.cause
