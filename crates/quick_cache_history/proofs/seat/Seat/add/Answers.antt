use Rattle.std.proofs.Common.{◌≡◌, List, [], true, refl, ap, ◌∙◌, sym, subst}
use Rattle.std.proofs.lemmas.List.{append-nil}
use mathlib.Core.List.{IsPrefix}
use Rattle.quick_cache_history.specs.declared.entry.Entry.{Entry}
use Rattle.quick_cache_history.specs.Histories.{is_in}
use Rattle.quick_cache_history.specs.Laws.{AddsBehind}
use Rattle.quick_cache_history.specs.Seats.{Caller}
use Rattle.quick_cache_history.proofs.SeatLemmas.{AddsBehind-less, AddsBehind-mine, AddsBehind-turn}
use Rattle.quick_cache_history.proofs.seat.Seat.add.Goals as goal

-- the next turn is the one that the call tells
pub invariant_of-self : goal.invariant_of-self
invariant_of-self g c =
    let self = c.self.inside in
    let number = c.args.head.now.number in
    let entry = c.args.entry.ask in
    let both = c.learn.new.self.log in
    let new = c.add.new.seen.log in
    let mine : IsPrefix self.seen.log both = subst (λ (l : List (Entry _ _)). IsPrefix l both)
    (ap (λ s. s.log) c.again-seen.ensures) c.learn.ensures.2 in
    let added : AddsBehind number c.args.calls self.turn entry both new =
    subst (λ t. AddsBehind number c.args.calls t entry both new) c.replace-turn.ensures.value
    (c.add.ensures.adds c.if-add.true) in
    let behind = AddsBehind-less number c.args.calls self.turn entry self.seen.log both new mine
    added in
    let turn : is_in self.turn entry ≡ true =
    subst (λ (place : Caller _ _). is_in place.turn entry ≡ true) (sym c.self.view_is)
    c.requires.turn in
    rw (c.again.ensures) (
      c.add.ensures.book,
      c.add.ensures.names,
      ([], append-nil new),
      AddsBehind-turn number c.args.calls self.turn entry turn self.seen.log new behind self.first.key
          self.own.log c.self.invariant.2 c.self.invariant.3 ∙ c.requires.next
          ∙ sym c.replace-turn.ensures.after,
    )

-- the call ends the history, and is one more of the seat's
pub returns-then-add-clause-extends : goal.returns-then-add-clause-extends
returns-then-add-clause-extends g c =
    let self = c.self.inside in
    let number = c.args.head.now.number in
    let entry = c.args.entry.ask in
    let both = c.learn.new.self.log in
    let new = c.add.new.seen.log in
    let mine : IsPrefix self.seen.log both = subst (λ (l : List (Entry _ _)). IsPrefix l both)
    (ap (λ s. s.log) c.again-seen.ensures) c.learn.ensures.2 in
    let added : AddsBehind number c.args.calls self.turn entry both new =
    subst (λ t. AddsBehind number c.args.calls t entry both new) c.replace-turn.ensures.value
    (c.add.ensures.adds c.if-add.true) in
    let behind = AddsBehind-less number c.args.calls self.turn entry self.seen.log both new mine
    added in
    let turn : is_in self.turn entry ≡ true =
    subst (λ (place : Caller _ _). is_in place.turn entry ≡ true) (sym c.self.view_is)
    c.requires.turn in
    rw (c.again.ensures, ← c.self.view_is) (record {
      before = behind.before;
      longer = behind.longer;
      ends = behind.ends;
      one_more = AddsBehind-mine number c.args.calls self.turn entry turn self.seen.log new behind
          self.first.key self.own.log c.self.invariant.2 c.self.invariant.3;
      same = refl;
      all = refl;
    })

-- and came behind all that was seen here
pub returns-then-add-clause-behind : goal.returns-then-add-clause-behind
returns-then-add-clause-behind g c =
    let self = c.self.inside in
    let number = c.args.head.now.number in
    let entry = c.args.entry.ask in
    let both = c.learn.new.self.log in
    let new = c.add.new.seen.log in
    let mine : IsPrefix self.seen.log both = subst (λ (l : List (Entry _ _)). IsPrefix l both)
    (ap (λ s. s.log) c.again-seen.ensures) c.learn.ensures.2 in
    let added : AddsBehind number c.args.calls self.turn entry both new =
    subst (λ t. AddsBehind number c.args.calls t entry both new) c.replace-turn.ensures.value
    (c.add.ensures.adds c.if-add.true) in
    rw (← c.self.view_is) (AddsBehind-less number c.args.calls self.turn entry c.args.past.now.log both
    new c.learn.ensures.3 added)
