use Rattle.std.proofs.Common.{◌≡◌, List, length, ap, ◌∙◌, sym, subst}
use mathlib.Core.List.{IsPrefix}
use Rattle.quick_cache_history.specs.declared.entry.Entry.{Entry}
use Rattle.quick_cache_history.specs.Histories.{calls_of}
use Rattle.quick_cache_history.proofs.PrefixLemmas.{prefix-trans}
use Rattle.quick_cache_history.proofs.PastLemmas.{same-calls, same-first}
use Rattle.quick_cache_history.proofs.past.Past.show.Goals as goal

-- as many calls of the shard are found as are known
pub returns-then-calls-self-clause-same : goal.returns-then-calls-self-clause-same
returns-then-calls-self-clause-same g c =
    let past = c.self.inside in
    let both = c.learn.new.self.log in
    let new = c.calls.new.seen.log in
    let number : c.args.head.now.number ≡ past.shard =
    c.requires.number ∙ ap (λ known. known.shard) (sym c.self.view_is) in
    rw (← c.self.view_is)
    (same-calls past.shard past.calls past.seen.log c.self.invariant.0 c.self.invariant.1 both new
    c.learn.ensures.3 c.calls.ensures.longer
    (sym c.if-calls-self.true ∙ c.calls.ensures.count
    ∙ ap (λ k. length (calls_of k new)) number))

pub returns-then-calls-self-clause-first : goal.returns-then-calls-self-clause-first
returns-then-calls-self-clause-first g c =
    let past = c.self.inside in
    rw (← c.self.view_is)
    (same-first past.shard past.calls past.seen.log c.self.invariant.0 c.self.invariant.1
    c.learn.new.self.log c.calls.new.seen.log c.learn.ensures.3 c.calls.ensures.longer)

pub returns-then-calls-self-clause-longer : goal.returns-then-calls-self-clause-longer
returns-then-calls-self-clause-longer g c =
    let both = c.learn.new.self.log in
    let mine : IsPrefix c.seat.inside.seen.log both =
    subst (λ (l : List (Entry _ _)). IsPrefix l both) (ap (λ s. s.log) c.again-seen.ensures)
    c.learn.ensures.2 in
    rw (← c.seat.view_is)
    (prefix-trans c.seat.inside.seen.log both c.calls.new.seen.log mine c.calls.ensures.longer)
