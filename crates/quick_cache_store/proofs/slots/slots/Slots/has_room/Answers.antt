use Rattle.std.proofs.Common.{sym, true≢false, arith}
use Rattle.quick_cache_store.proofs.slots.JoinedEdits.{none_free}
use Rattle.quick_cache_store.proofs.slots.slots.Slots.has_room.Goals as goal

pub returns-then-not-has_room : goal.returns-then-not-has_room
returns-then-not-has_room g c =
    let beside = c.self.invariant.beside in
    let none = none_free c.self.inside.pool c.facts.ensures (omega arith) in
    rw (← c.self.view_is) (
      λ is. absurd (true≢false (sym is)),
      λ room. c.if-not-has_room.ensures.1 (omega arith),
    )
