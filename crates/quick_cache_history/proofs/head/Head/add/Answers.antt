use Rattle.std.proofs.Common.{◌≡◌, true, ap, ◌∙◌, sym, subst, MatchBool}
use Rattle.quick_cache_history.specs.Histories.{is_in}
use Rattle.quick_cache_history.specs.Laws.{AddsBehind}
use Rattle.quick_cache_history.proofs.CountLemmas.{add_moves}
use Rattle.quick_cache_history.proofs.head.Head.add.Goals as goal

-- whatever the history is, the exchange adds the call or finds more of the shard
pub compare_exchange-found-requires : goal.compare_exchange-found-requires
compare_exchange-found-requires g c =
    let head = c.args.self.now in
    let pen = c.into_pen-pen in
    let book = sym (ap (λ w. w.book) head.word_is) in
    let turn = subst (λ t. is_in t c.args.entry.ask ≡ true) (sym pen.ensures.key) c.requires.turn in (
      ap (λ w. w.tracked) head.word_is,
      c.requires.book ∙ book,
      pen.ensures.book ∙ book,
      c.requires.names.1 ∙ sym c.requires.names.0,
      rw (ap (λ w. w.key) head.word_is)
          (add_moves head.number c.args.seen.now.log c.args.entry.state c.args.entry.ask
          c.requires.within c.args.calls c.requires.own pen.result.nib pen.ensures.right turn),
    )

-- and where it found as many as was thought, it added it
pub returns-clause-adds : goal.returns-clause-adds
returns-clause-adds g c = λ yes.
    let entry = c.args.entry.ask in
    let old = c.args.seen.now.log in
    let new = c.compare_exchange-found.new.seen.log in
    subst (λ k. AddsBehind k c.args.calls c.args.turn entry old new)
    (ap (λ w. w.key) c.args.self.now.word_is)
    (subst (λ t. AddsBehind c.args.self.now.word.key c.args.calls t entry old new)
    c.into_pen-pen.ensures.key
    (subst (λ b. MatchBool b (AddsBehind c.args.self.now.word.key c.args.calls
    c.into_pen-pen.result.nib.key entry old new) (Unit {0})) yes
    c.compare_exchange-found.ensures.7))
