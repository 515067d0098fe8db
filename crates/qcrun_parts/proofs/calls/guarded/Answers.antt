use Rattle.std.proofs.Common.{rules, ◌≡◌, [], refl}
use Rattle.qcrun_parts.proofs.LoadLemmas.{guarded-finds, guarded-refused, guarded-drops, guarded-fills}
use Rattle.qcrun_parts.proofs.calls.guarded.Goals as goal

-- an item was found, and its value read
pub returns-in-Ok-Ok-clause-serves : goal.returns-in-Ok-Ok-clause-serves
returns-in-Ok-Ok-clause-serves g c =
    let answers = rw c.in-Ok-Ok.field-0-is at c.in-Ok-Ok.ensures.answers in
    let left : c.cache-1.given.0 ≡ c.in-Ok-Ok.found.cache.now = search rules in
    record {
      calls = [];
      holds = rw left (guarded-finds _ _ _ c.args.key _ c.args.given _ answers.0 answers.1
          c.deref.ensures);
      runs = refl;
    }

-- a placeholder was taken, and filled
pub returns-in-Some-clause-serves : goal.returns-in-Some-clause-serves
returns-in-Some-clause-serves g c =
    let takes = rw c.in-Ok-Err.field-0-is at c.in-Ok-Err.ensures.answers in
    let same = rw c.in-Ok-Err.field-0-is at c.in-Ok-Err.ensures.same in
    let left : c.cache-in-Some-1.given.0 ≡ c.insert_with_lifecycle.new.self.0 = search rules in
    rw left (rw c.in-Some.is (guarded-fills _ _ _ _ c.args.key c.in-Ok-Err.guard.ticket takes _
    c.in-Some.value _ _ (rw same at c.insert_with_lifecycle.ensures.fills)))

-- or given up
pub returns-in-None-clause-serves : goal.returns-in-None-clause-serves
returns-in-None-clause-serves g c =
    let takes = rw c.in-Ok-Err.field-0-is at c.in-Ok-Err.ensures.answers in
    let left : c.cache-in-Ok-Err-1.given.0 ≡ c.drop-guard.new.self.0 = search rules in
    record {
      calls = [];
      holds = rw left (rw c.in-None.is (guarded-drops _ _ _ _ c.args.key c.in-Ok-Err.guard.ticket
          takes c.drop-guard.ensures.gives_up));
      runs = refl;
    }

pub returns-in-Err-clause-serves : goal.returns-in-Err-clause-serves
returns-in-Err-clause-serves g c =
    let none = rw c.in-Err.is at c.get_ref_or_guard.follows.holds-at-none in
    record {
      calls = [];
      holds = rw none.0.unchanged (guarded-refused _ _ c.args.key c.args.given c.in-Err.refusal
          none.0.cause);
      runs = refl;
    }
