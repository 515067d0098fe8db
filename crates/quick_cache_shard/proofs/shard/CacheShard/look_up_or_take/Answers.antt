use Rattle.std.proofs.Common.{ap}
use Rattle.std.specs.Fn.{FnOnceReturnsAt}
use Rattle.quick_cache_policy.specs.Contents.{work_of}
use Rattle.quick_cache_policy.specs.declared.contents.Contents.{Contents}
use Rattle.quick_cache_shard.proofs.TestLemmas.{finds-or-takes, found-there}
use Rattle.quick_cache_shard.proofs.shard.CacheShard.look_up_or_take.Goals as goal

pub look_up_or_take-found-requires-clause-callable : goal.look_up_or_take-found-requires-clause-callable
look_up_or_take-found-requires-clause-callable g c = rw (← c.self.view_is) at c.requires.callable

pub invariant_of-self : goal.invariant_of-self
invariant_of-self g c = c.look_up_or_take-found.ensures.sound _ c.self.invariant

pub returns-clause-looks_up : goal.returns-clause-looks_up
returns-clause-looks_up g c =
    let work = ap (λ (now : Contents g.row.K.Denot g.row.V.Denot g.row.P.Denot g.row.A.Denot
    g.row.P-Touch.Denot g.row.P-Kept.Denot). work_of now) c.look_up_or_take-found.ensures.same in
    rw (← c.self.view_is)
    (finds-or-takes g.P.SharedPlaceholder.ticket_of c.self.inside.contents
    c.look_up_or_take-found.new.self (g.Q.Equivalent.equivalent c.args.query.now)
    (FnOnceReturnsAt g.F.FnOnce c.args.test) c.self.inside.terms.weigher
    c.self.inside.terms.builder c.self.inside.terms.lifecycle
    c.look_up_or_take-found.ensures.places c.look_up_or_take-found.ensures.room work c.look_up_or_take-found.result
    c.look_up_or_take-found.ensures.tests c.look_up_or_take-found.ensures.stays)

pub returns-clause-there : goal.returns-clause-there
returns-clause-there g c =
    found-there g.P.SharedPlaceholder.ticket_of c.self.inside.contents
    c.look_up_or_take-found.new.self (g.Q.Equivalent.equivalent c.args.query.now)
    (FnOnceReturnsAt g.F.FnOnce c.args.test) c.look_up_or_take-found.result
    c.look_up_or_take-found.ensures.tests
