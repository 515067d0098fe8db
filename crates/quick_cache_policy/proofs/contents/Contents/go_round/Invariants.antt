use Rattle.quick_cache_policy.proofs.HotRoundLemmas.{GoesRound}
use Rattle.quick_cache_policy.proofs.contents.Contents.go_round.Given as goal

-- So many items were visited, and passed, as the counter says.
abbrev pub invariant-loop : goal.invariant-loop
invariant-loop g l = GoesRound (g.M.Policy.hashed l.terms) (g.M.Policy.steady l.terms)
    (g.M.Policy.pinned l.terms) l.takes_touches g.P.Touch.Touches.may_count l.counter l.is_unpinned
    l.initial.self l.self
