use Rattle.quick_cache_laws.proofs.CallWrites.{Loads-within}
use Rattle.quick_cache_laws.proofs.StepParts.{write_of, insert_of, fill_of}
use Rattle.quick_cache_laws.proofs.call_laws.call_write_law.Goals as goal

pub returns-clause-writes : goal.returns-clause-writes
returns-clause-writes g c = λ hash weight pinned answers old new call key value left calls
    is_write step passed within.
    let h = write_of _ _ _ _ answers old key value call calls new is_write step in
    c.write_law.ensures.within_capacity hash weight pinned _ key h.0 old new value left calls h.1
    passed within

pub returns-clause-fills : goal.returns-clause-fills
returns-clause-fills g c = λ hash weight pinned answers old new call reply key value calls valid
    is_fill step.
    Loads-within _ _ g.met.K.Eq.laws (c.fill_law.ensures hash weight pinned)
    (c.valid_law.ensures.steps hash weight pinned) key (hash key) old value calls new valid
    (fill_of _ _ _ _ answers old key value call reply calls new is_fill step)

pub returns-clause-resident : goal.returns-clause-resident
returns-clause-resident g c = λ hash weight pinned answers old new key value left calls nothing
    step passed.
    let kept = c.write_law.ensures.kept hash weight pinned _ key old new value left calls _
    (insert_of _ _ _ _ answers old key value calls new step) nothing passed in
    kept.1
