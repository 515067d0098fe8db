use Rattle.std.proofs.Common.{◌≡◌, ℕ, List, length}
use Rattle.quick_cache_policy.specs.Predicates.{Answers}
use Rattle.quick_cache_shard.specs.RetainsSome.{RetainsTo}
use Rattle.quick_cache_shard.specs.Stays.{IdlesWithin}
use Rattle.quick_cache_shard.specs.WalksFrom.{number_or_zero}
use Rattle.quick_cache_shard.proofs.shard.CacheShard.retain_some.Given as goal

-- so many items were passed
abbrev pub invariant-loop : goal.invariant-loop
invariant-loop g l =
    ((passed : List (ℕ × g.row.K.Denot)) × (length passed ≡ l.counter)
    × RetainsTo (Answers g.F.Fn l.keep) (number_or_zero l.fn.after) l.fn.self passed
    (number_or_zero l.at) l.self)
    × IdlesWithin g.K.PartialEq.eq 0 l.fn.self l.self
