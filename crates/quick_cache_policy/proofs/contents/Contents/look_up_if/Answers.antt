use Rattle.std.specs.Fn.{FnOnceReturnsAt}
use Rattle.quick_cache_policy.proofs.FindLemmas.{none-found}
use Rattle.quick_cache_policy.proofs.TestLemmas.{missed, missed-sound, fails, passed}
use Rattle.quick_cache_policy.proofs.contents.Contents.look_up_if.Goals as goal

-- nothing was found
pub returns-in_default-clause-tests : goal.returns-in_default-clause-tests
returns-in_default-clause-tests g c =
    (missed g.P.SharedPlaceholder.ticket_of c.args.self.now
    (g.Q.Equivalent.equivalent c.args.query.now)
    (none-found _ _ c.in_default.not-Some c.test_item.ensures) c.count_miss.new.self
    c.count_miss.ensures).value

pub returns-in_default-clause-sound : goal.returns-in_default-clause-sound
returns-in_default-clause-sound g c = λ hashed sound.
    missed-sound g.P.SharedPlaceholder.ticket_of c.args.self.now g.K.PartialEq.eq hashed
    c.count_miss.new.self c.count_miss.ensures sound

-- what was found fails
pub returns-then-not-passes-clause-tests : goal.returns-then-not-passes-clause-tests
returns-then-not-passes-clause-tests g c =
    fails g.P.SharedPlaceholder.ticket_of c.args.self.now
    (g.Q.Equivalent.equivalent c.args.query.now) c.args.hash
    (FnOnceReturnsAt g.F.FnOnce c.args.test) c.in-Some.token c.in-Some.passes c.in-Some.ensures
    c.if-not-passes.true c.count_miss-then-not-passes.new.self c.count_miss-then-not-passes.ensures

pub returns-then-not-passes-clause-sound : goal.returns-then-not-passes-clause-sound
returns-then-not-passes-clause-sound g c = λ hashed sound.
    missed-sound g.P.SharedPlaceholder.ticket_of c.args.self.now g.K.PartialEq.eq hashed
    c.count_miss-then-not-passes.new.self c.count_miss-then-not-passes.ensures sound

-- what passes was looked up
pub count_hit-requires : goal.count_hit-requires
count_hit-requires g c = record { found = c.in-Some.ensures.finds }

pub returns-clause-tests : goal.returns-clause-tests
returns-clause-tests g c =
    passed g.P.SharedPlaceholder.ticket_of c.args.self.now
    (g.Q.Equivalent.equivalent c.args.query.now) c.args.hash
    (FnOnceReturnsAt g.F.FnOnce c.args.test) c.in-Some.token c.in-Some.passes c.in-Some.ensures
    c.facts.ensures.apart c.if-not-passes.false c.count_hit.new.self c.count_hit.ensures.looks_up
