use Rattle.std.proofs.Common.{arith}
use Rattle.quick_cache_unsync.specs.Hottest.{by_heat}
use Rattle.promises.proofs.ManyLemmas.{shown-within}
use Rattle.promises.proofs.alone.many.count_the_hottest.Goals as goal

pub returns : goal.returns
returns g c = omega (
  arith,
  c.len.ensures,
  c.in_ok-list.list.ok,
  shown-within c.args.count c.in_ok-list.list.items (by_heat c.args.cache.now.state)
      c.in_ok-list.ensures.shows,
)
