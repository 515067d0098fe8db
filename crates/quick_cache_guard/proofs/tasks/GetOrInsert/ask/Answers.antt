use Rattle.std.proofs.Common.{inl, rules}
use Rattle.quick_cache_guard.proofs.tasks.GetOrInsert.ask.Goals as goal

-- what was joined has its cause, for the same query
pub returns-in-Ready-Ok-Ok : goal.returns-in-Ready-Ok-Ok
returns-in-Ready-Ok-Ok g c =
    let value = rw c.in-Ready-Ok-Ok.field-0-is at c.in-Ready-Ok-Ok.field-0-0-is in
    let cause = rw c.requires.query at (rw value
    at (rw c.in-Ready-Ok-Ok.field-0-is at c.in-Ready-Ok-Ok.ensures.cause)) in
    record {
      gives = search rules;
      cause = rw c.in-Ready-Ok-Ok.field-0-is (rw value (inl (cause c.requires.goes_on)));
      once = search rules;
      registers = search rules;
      query = search rules;
      loader = search rules;
    }

pub returns : goal.returns
returns g c =
    let cause = rw c.requires.query
    at (rw c.in-Ready-Err.field-0-is at c.in-Ready-Err.ensures.cause) in
    record {
      gives = search rules;
      cause = rw c.in-Ready-Err.field-0-is (cause c.requires.goes_on);
      once = search rules;
      registers = search rules;
      query = search rules;
      loader = search rules;
    }
