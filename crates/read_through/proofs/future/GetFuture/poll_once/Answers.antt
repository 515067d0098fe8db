use Rattle.std.proofs.Common.{◌≡◌, Ok, rules}
use Rattle.read_through.proofs.AnswerLemmas.{IsOf-found}
use Rattle.read_through.proofs.future.GetFuture.poll_once.Goals as goal

-- what was found is the source's, of an equal key
pub take-requires-clause-source : goal.take-requires-clause-source
take-requires-clause-source g c =
    let found = c.in-Ready-Ok-Ok.found in
    let query : c.match-replace.waiting.query ≡ c.self.inside.key.now = search rules in
    let is : c.in-Ready-Ok-Ok.field-0 ≡ Ok (Ok found) = search rules in
    rw (c.in-Ready-Ok-Ok.found-is, ← query) (IsOf-found g.S.Source.gives g.K.PartialEq.eq
    g.met.K.Eq.laws g.V.Clone.is_clone c.self.invariant.1 c.match-replace.waiting.query _
    c.in-Ready-Ok-Ok.field-0 found is c.in-Ready-Ok-Ok.ensures.gives)

-- the loader is as it was
pub load-requires-clause-loads : goal.load-requires-clause-loads
load-requires-clause-loads g c =
    let loader : c.self.inside.reading.now.loader ≡ c.args.self.now.reading.loader = search rules in
    rw loader c.requires.loads
