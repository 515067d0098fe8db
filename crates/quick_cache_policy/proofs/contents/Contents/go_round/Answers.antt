use Rattle.std.proofs.Common.{◌<◌, length, arith}
use Rattle.quick_cache_policy.proofs.HotRoundLemmas.{GoesRound-begins, GoesRound-length, GoesRound-passes_pinned, GoesRound-passes_marked}
use Rattle.quick_cache_policy.proofs.HotRoundLemmas.{GoesRound-stops, GoesRound-over_pinned, GoesRound-over_unpinned}
use Rattle.quick_cache_policy.proofs.contents.Contents.go_round.Goals.{in-Pinned, in-Marked}
use Rattle.quick_cache_policy.proofs.contents.Contents.go_round.Goals as goal

pub loop-init : goal.loop-init
loop-init g c = GoesRound-begins (g.M.Policy.hashed c.args.terms.now)
    (g.M.Policy.steady c.args.terms.now) (g.M.Policy.pinned c.args.terms.now) c.args.takes_touches
    g.P.Touch.Touches.may_count c.args.self.now c.requires.sound.hashed.hot (omega arith)

pub visit_first-requires : goal.visit_first-requires
visit_first-requires g c =
    omega (arith, c.count-end.ensures, GoesRound-length _ _ _ _ _ _ _ _ _ c.loop.invariant)

pub loop-preserved : goal.loop-preserved
loop-preserved g c =
    let lt : c.loop.counter < length c.args.self.now.lists.hot =
    omega (arith, c.count-end.ensures) in
    elim c.match-visit_first.branch [
      | in-Pinned w ↦ GoesRound-passes_pinned _ _ _ _ _ _ _ _ _ _ _ _ w.is_unpinned-is
          c.loop.invariant lt w.in-Pinned.ensures c.turn.ensures
      | in-Marked w ↦ GoesRound-passes_marked _ _ _ _ _ _ _ _ _ _ _ _ w.is_unpinned-is
          c.loop.invariant lt w.in-Marked.ensures c.turn.ensures
    ]

pub returns-in-Victim-clause-ends : goal.returns-in-Victim-clause-ends
returns-in-Victim-clause-ends g c =
    (GoesRound-stops _ _ _ _ _ g.P.SharedPlaceholder.ticket_of g.K.PartialEq.eq _ _ _ _ _
    g.P.Touch.Touches.none_counted c.requires.sound c.loop.invariant
    (omega (arith, c.count-end.ensures)) c.in-Victim.ensures).ends

pub returns-in-Victim-clause-sound : goal.returns-in-Victim-clause-sound
returns-in-Victim-clause-sound g c =
    (GoesRound-stops _ _ _ _ _ g.P.SharedPlaceholder.ticket_of g.K.PartialEq.eq _ _ _ _ _
    g.P.Touch.Touches.none_counted c.requires.sound c.loop.invariant
    (omega (arith, c.count-end.ensures)) c.in-Victim.ensures).sound

pub returns-in-Victim-clause-count : goal.returns-in-Victim-clause-count
returns-in-Victim-clause-count g c =
    (GoesRound-stops _ _ _ _ _ g.P.SharedPlaceholder.ticket_of g.K.PartialEq.eq _ _ _ _ _
    g.P.Touch.Touches.none_counted c.requires.sound c.loop.invariant
    (omega (arith, c.count-end.ensures)) c.in-Victim.ensures).count

pub returns-then-is_unpinned-clause-ends : goal.returns-then-is_unpinned-clause-ends
returns-then-is_unpinned-clause-ends g c =
    (GoesRound-over_unpinned _ _ _ _ _ g.P.SharedPlaceholder.ticket_of g.K.PartialEq.eq _ _ _ _
    c.if-is_unpinned.true c.requires.sound c.loop.invariant
    (omega (arith, c.count-end.ensures))).ends

pub returns-then-is_unpinned-clause-sound : goal.returns-then-is_unpinned-clause-sound
returns-then-is_unpinned-clause-sound g c =
    (GoesRound-over_unpinned _ _ _ _ _ g.P.SharedPlaceholder.ticket_of g.K.PartialEq.eq _ _ _ _
    c.if-is_unpinned.true c.requires.sound c.loop.invariant
    (omega (arith, c.count-end.ensures))).sound

pub returns-then-is_unpinned-clause-count : goal.returns-then-is_unpinned-clause-count
returns-then-is_unpinned-clause-count g c = GoesRound-length _ _ _ _ _ _ _ _ _ c.loop.invariant

pub returns-clause-ends : goal.returns-clause-ends
returns-clause-ends g c =
    (GoesRound-over_pinned _ _ _ _ _ g.P.SharedPlaceholder.ticket_of g.K.PartialEq.eq _ _ _ _
    c.if-is_unpinned.false c.requires.sound c.loop.invariant
    (omega (arith, c.count-end.ensures))).ends

pub returns-clause-sound : goal.returns-clause-sound
returns-clause-sound g c =
    (GoesRound-over_pinned _ _ _ _ _ g.P.SharedPlaceholder.ticket_of g.K.PartialEq.eq _ _ _ _
    c.if-is_unpinned.false c.requires.sound c.loop.invariant
    (omega (arith, c.count-end.ensures))).sound

pub returns-clause-count : goal.returns-clause-count
returns-clause-count g c = GoesRound-length _ _ _ _ _ _ _ _ _ c.loop.invariant

pub returns-in-Victim-clause-places : goal.returns-in-Victim-clause-places
returns-in-Victim-clause-places g c =
    (GoesRound-stops _ _ _ _ _ g.P.SharedPlaceholder.ticket_of g.K.PartialEq.eq _ _ _ _ _
    g.P.Touch.Touches.none_counted c.requires.sound c.loop.invariant
    (omega (arith, c.count-end.ensures)) c.in-Victim.ensures).places

pub returns-then-is_unpinned-clause-places : goal.returns-then-is_unpinned-clause-places
returns-then-is_unpinned-clause-places g c = c.loop.invariant.changes.places

pub returns-clause-places : goal.returns-clause-places
returns-clause-places g c = c.loop.invariant.changes.places
