use Rattle.std.proofs.Common.{◌≡◌, [], ap, ◌∙◌}
use Rattle.std.proofs.lemmas.List.{append-nil}
use Rattle.quick_cache_history.specs.Histories.{calls_in}
use Rattle.quick_cache_history.proofs.SeatLemmas.{none_from}
use Rattle.quick_cache_history.proofs.seat.Seat.new.Goals as goal

pub invariant_of-result : goal.invariant_of-result
invariant_of-result g c =
    let log = c.args.seen.log in
    let none : calls_in c.args.first.key log ≡ [] =
    ap (λ t. calls_in t log) c.requires.first ∙ c.requires.unused in (
      c.requires.book,
      c.requires.names,
      rw (ap (λ s. s.log) c.again.ensures) ([], append-nil log),
      rw (ap (λ s. s.log) c.again.ensures)
          ((none_from c.args.first.key log none).1 ∙ c.requires.first),
    )

pub returns-clause-none : goal.returns-clause-none
returns-clause-none g c =
    let log = c.args.seen.log in
    let none : calls_in c.args.first.key log ≡ [] =
    ap (λ t. calls_in t log) c.requires.first ∙ c.requires.unused in
    rw (ap (λ s. s.log) c.again.ensures) (none_from c.args.first.key log none).0
