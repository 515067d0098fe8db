use Rattle.std.proofs.Common.{arith}
use Rattle.quick_cache_policy.proofs.HotSeekLemmas.{SeeksVictim-begins, SeeksVictim-goes_on, SeeksVictim-stops, SeeksVictim-gives_up}
use Rattle.quick_cache_policy.proofs.HotSeekLemmas.{advance_measure-seeks}
use Rattle.quick_cache_policy.proofs.contents.Contents.seek_victim.Goals as goal

pub loop-takes_touches-init : goal.loop-takes_touches-init
loop-takes_touches-init g c = SeeksVictim-begins _ _ _ _ _ _ c.args.self.now
    g.P.Touch.Touches.none_counted c.requires.sound (omega arith)

pub returns-in-AllPinned-clause-ends : goal.returns-in-AllPinned-clause-ends
returns-in-AllPinned-clause-ends g c =
    let e = c.in-AllPinned.ensures in
    (SeeksVictim-gives_up _ _ _ _ _ _ _ _ _ _ c.loop-takes_touches.invariant
    (record { ends = e.ends; sound = e.sound; count = e.count; places = e.places; same = e.same })).ends

pub returns-in-Victim-clause-ends : goal.returns-in-Victim-clause-ends
returns-in-Victim-clause-ends g c =
    let e = c.in-Victim.ensures in
    (SeeksVictim-stops _ _ _ _ _ _ _ _ _ _ c.loop-takes_touches.invariant
    (record { ends = e.ends; sound = e.sound; count = e.count; places = e.places; same = e.same })).ends

pub loop-takes_touches-smaller : goal.loop-takes_touches-smaller
loop-takes_touches-smaller g c =
    let e = c.in-SomeUnpinned.ensures in
    advance_measure-seeks _ _ _ _ _ _ _ _ _ _ c.loop-takes_touches.invariant
    (record { ends = e.ends; sound = e.sound; count = e.count; places = e.places; same = e.same })

pub loop-takes_touches-preserved : goal.loop-takes_touches-preserved
loop-takes_touches-preserved g c =
    let e = c.in-SomeUnpinned.ensures in
    SeeksVictim-goes_on _ _ _ _ _ _ _ _ _ _ c.requires.sound c.loop-takes_touches.invariant
    (record { ends = e.ends; sound = e.sound; count = e.count; places = e.places; same = e.same })

pub returns-in-AllPinned-clause-places : goal.returns-in-AllPinned-clause-places
returns-in-AllPinned-clause-places g c =
    let e = c.in-AllPinned.ensures in
    (SeeksVictim-gives_up _ _ _ _ _ _ _ _ _ _ c.loop-takes_touches.invariant
    (record { ends = e.ends; sound = e.sound; count = e.count; places = e.places; same = e.same })).places

pub returns-in-Victim-clause-places : goal.returns-in-Victim-clause-places
returns-in-Victim-clause-places g c =
    let e = c.in-Victim.ensures in
    (SeeksVictim-stops _ _ _ _ _ _ _ _ _ _ c.loop-takes_touches.invariant
    (record { ends = e.ends; sound = e.sound; count = e.count; places = e.places; same = e.same })).places
