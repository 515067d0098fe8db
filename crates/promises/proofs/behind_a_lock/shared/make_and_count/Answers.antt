use Rattle.std.proofs.Common.{◌<◌, subst, sym}
use Rattle.promises.proofs.SharedLemmas.{two-shards}
use Rattle.promises.proofs.behind_a_lock.shared.make_and_count.Goals as goal

-- there are as many as a cache for 64 items is divided into
pub returns-clause-items : goal.returns-clause-items
returns-clause-items c = subst (λ count. 1 < count) (sym c.num_shards.ensures.value)
    (two-shards _ c.in_ok-by_items.ensures.shards)
