use Rattle.quick_cache_policy.proofs.FindLemmas.{found-under}
use Rattle.quick_cache_policy.proofs.contents.Contents.find_item.Goals as goal

-- what was found by keys alone has the query's hash
pub returns : goal.returns
returns g c =
    found-under (g.Q.Equivalent.equivalent c.args.query.now) c.args.hash c.args.self.now.lists
    c.requires.under c.find_item.result c.find_item.ensures
