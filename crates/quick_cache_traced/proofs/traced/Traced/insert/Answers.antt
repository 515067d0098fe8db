use Rattle.quick_cache_traced.proofs.AnswerLemmas.{OnOk-three, IfErr-both}
use Rattle.quick_cache_traced.proofs.traced.Traced.insert.Goals as goal

pub returns-clause-answers : goal.returns-clause-answers
returns-clause-answers g c =
    OnOk-three c.insert.result _ _ _ _ c.insert.ensures.inserts c.insert.ensures.notes
    c.insert.ensures.counts (λ does notes adds. record {
      old = c.deref_mut.result.now;
      new = c.insert.new.self;
      kept = c.insert.ensures.kept;
      holds = (does, notes, adds);
    })

pub returns-clause-why : goal.returns-clause-why
returns-clause-why g c =
    IfErr-both c.insert.result _ _ _ c.insert.ensures.why c.insert.ensures.refused (λ back cause
    stays. record {
      old = c.deref_mut.result.now;
      new = c.insert.new.self;
      kept = c.insert.ensures.kept;
      holds = (stays.0, cause);
    })
