use Rattle.quick_cache_laws.proofs.StepParts.{refusal_of, refused_insert_of}
use Rattle.quick_cache_laws.proofs.call_laws.call_refusal_law.Goals as goal

pub returns-clause-calls : goal.returns-clause-calls
returns-clause-calls g c = λ hash weight pinned answers old new call refusal calls step.
    refusal_of _ _ _ _ answers old call refusal calls new step

pub returns-clause-inserts : goal.returns-clause-inserts
returns-clause-inserts g c = λ hash weight pinned answers old new call key value refusal calls
    step.
    refused_insert_of _ _ _ _ answers old call key value refusal calls new step
