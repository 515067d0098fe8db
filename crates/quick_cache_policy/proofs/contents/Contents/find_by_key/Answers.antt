use Rattle.quick_cache_policy.proofs.FindLemmas.{Finds-under}
use Rattle.quick_cache_policy.proofs.contents.Contents.find_by_key.Goals as goal

-- what was found by keys alone has the query's hash
pub returns : goal.returns
returns g c =
    Finds-under (g.Q.Equivalent.equivalent c.args.query.now) c.args.hash c.args.self.now.lists
    c.requires.under c.find_by_key.result c.find_by_key.ensures
