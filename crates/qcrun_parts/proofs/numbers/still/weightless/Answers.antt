use Rattle.std.proofs.Common.{◌++◌, filter, sym, ap, ◌∙◌}
use Rattle.qcrun_parts.specs.Still.{is_weightless}
use Rattle.qcrun_parts.proofs.StillLemmas.{filter-weighty}
use Rattle.qcrun_parts.proofs.numbers.still.weightless.Goals as goal

-- the pair weighs something
pub loop-key-preserved : goal.loop-key-preserved
loop-key-preserved g c =
    ap (λ light. c.loop-key.light.items ++ light)
    (sym (ap (filter is_weightless) c.in-Some.ensures.steps
    ∙ filter-weighty c.in-Some.key.now c.in-Some.value.now c.weight_of.result c.next.new.self
    c.weight_of.ensures
    c.if-weight_of-eq0.false))
    ∙ c.loop-key.invariant
