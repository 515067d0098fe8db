use Rattle.quick_cache_traced.proofs.AnswerLemmas.{IfOk-both}
use Rattle.quick_cache_traced.proofs.traced.Traced.remove.Goals as goal

pub returns-clause-answers : goal.returns-clause-answers
returns-clause-answers g c =
    IfOk-both c.remove.result _ _ _ c.remove.ensures.removes
    c.remove.ensures.counts (λ answer does adds.
    record {
      old = c.deref_mut.result.now;
      new = c.remove.new.self;
      kept = c.remove.ensures.kept;
      holds = (does, adds);
    })
