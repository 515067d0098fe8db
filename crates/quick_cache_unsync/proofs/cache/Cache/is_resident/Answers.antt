use Rattle.std.proofs.Common.{rules}
use Rattle.quick_cache_unsync.proofs.LoadLemmas.{tells-item}
use Rattle.quick_cache_unsync.proofs.cache.Cache.is_resident.Goals as goal

pub returns : goal.returns
returns g c =
    tells-item (g.Q.Equivalent.equivalent c.args.query.now) c.args.self.now.state c.contains_from.result
    (search rules) (search rules)
