use Rattle.std.proofs.Common.{IsSome, ◌∙◌, rules, subst, sym}
use Rattle.promises.proofs.TestedLemmas.{GetsOrDrops-shown, copied-ok}
use Rattle.promises.proofs.alone.tested.peek_and_drop.Goals as goal

-- what is taken out is what was shown
pub returns-clause-failed : goal.returns-clause-failed
returns-clause-failed g c = λ is.
    c.copied.ensures ∙ copied-ok c.get_or_drop.result
    ∙ (GetsOrDrops-shown (g.K.PartialEq.eq c.args.key.now) _ (λ value said. search rules)
    c.args.cache.now (c.peek.ensures.sound.valid.one_entry_a_key c.args.key.now) _
    c.peek.ensures.sees _ _ c.get_or_drop.follows.holds-at-none).0
    (subst (λ shown. IsSome shown) c.copied-shown.ensures is)

pub returns-clause-absent : goal.returns-clause-absent
returns-clause-absent g c = λ is.
    c.copied.ensures ∙ copied-ok c.get_or_drop.result
    ∙ (GetsOrDrops-shown (g.K.PartialEq.eq c.args.key.now) _ (λ value said. search rules)
    c.args.cache.now (c.peek.ensures.sound.valid.one_entry_a_key c.args.key.now) _
    c.peek.ensures.sees _ _ c.get_or_drop.follows.holds-at-none).1
    (sym c.copied-shown.ensures ∙ is)
