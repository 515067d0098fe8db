use Rattle.quick_cache_traced.proofs.AnswerLemmas.{IfOk-both}
use Rattle.quick_cache_traced.proofs.traced.Traced.get.Goals as goal

pub returns-clause-answers : goal.returns-clause-answers
returns-clause-answers g c =
    IfOk-both c.get.result _ _ _ c.get.ensures.gets
    c.get.ensures.counts (λ answer does adds.
    record {
      old = c.deref_mut.result.now;
      new = c.get.new.self;
      kept = c.get.ensures.kept;
      holds = (does, adds);
    })
