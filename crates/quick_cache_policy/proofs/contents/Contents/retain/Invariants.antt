use Rattle.std.proofs.Common.{ℕ, ◌-◌}
use Rattle.quick_cache_store.specs.Lists.{number_or_zero}
use Rattle.quick_cache_policy.specs.Contents.{IsSound}
use Rattle.quick_cache_policy.specs.Predicates.{Answers}
use Rattle.quick_cache_policy.proofs.RetainLemmas.{IsSifting}
use Rattle.quick_cache_policy.proofs.contents.Contents.retain.Given as goal

abbrev pub invariant-loop-token : goal.invariant-loop-token
invariant-loop-token g l =
    IsSifting (Answers g.F.Fn l.fn.keep) (number_or_zero l.at) l.fn.self l.self
    × ((hashed : g.row.K.Denot → ℕ)
    → IsSound g.P.SharedPlaceholder.ticket_of g.K.PartialEq.eq hashed l.fn.self
    → IsSound g.P.SharedPlaceholder.ticket_of g.K.PartialEq.eq hashed l.self)

abbrev pub decreases-loop-token : goal.decreases-loop-token
decreases-loop-token g l = 4294967296 - number_or_zero l.at
