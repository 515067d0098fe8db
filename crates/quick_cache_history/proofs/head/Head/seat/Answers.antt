use Rattle.std.proofs.Common.{◌<◌, ap, ◌∙◌, sym, subst}
use Rattle.quick_cache_history.specs.Histories.{shards_in}
use Rattle.quick_cache_history.proofs.CountLemmas.{take_moves}
use Rattle.quick_cache_history.proofs.head.Head.seat.Goals as goal

-- whatever the history is, the exchange takes a turn that was not used
pub compare_exchange-requires : goal.compare_exchange-requires
compare_exchange-requires g c =
    let head = c.args.self.now in
    let seen = c.again-seen.result in
    let book = ap (λ s. s.book) c.again-seen.ensures ∙ head.book
    ∙ sym (ap (λ w. w.book) head.word_is) in
    let within : head.number < shards_in seen.log =
    subst (λ s. head.number < shards_in s.log) (sym c.again-seen.ensures) head.within in (
      ap (λ w. w.tracked) head.word_is,
      book,
      c.no_pen-pen.ensures.0 ∙ book,
      c.plain-offer.ensures.0,
      rw (ap (λ w. w.key) head.word_is, c.no_pen-pen.ensures.1)
          (take_moves head.number seen.log c.plain-offer.result.state c.plain-offer.result.ask within),
    )
