use Rattle.quick_cache_store.specs.Views.{items_of}
use Rattle.quick_cache_policy.specs.Rounds.{advance_measure}
use Rattle.quick_cache_policy.proofs.HotSeekLemmas.{SeeksVictim}
use Rattle.quick_cache_policy.proofs.contents.Contents.seek_victim.Given as goal

-- Whole rounds were made, none of which was the last.
abbrev pub invariant-loop-takes_touches : goal.invariant-loop-takes_touches
invariant-loop-takes_touches g l = SeeksVictim g.P.SharedPlaceholder.ticket_of g.K.PartialEq.eq
    (g.M.Policy.hashed l.terms) (g.M.Policy.steady l.terms) (g.M.Policy.pinned l.terms)
    g.P.Touch.Touches.may_count l.takes_touches l.initial.self l.self

abbrev pub decreases-loop-takes_touches : goal.decreases-loop-takes_touches
decreases-loop-takes_touches g l =
    advance_measure l.takes_touches l.self.mark_cut (items_of l.self.lists.hot)
