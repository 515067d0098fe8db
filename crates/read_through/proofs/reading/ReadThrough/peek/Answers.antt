use Rattle.std.proofs.Common.{Ok, Err, subst}
use Rattle.read_through.specs.Serving.{TellsServing}
use Rattle.read_through.proofs.AnswerLemmas.{ClonesFit-loaded}
use Rattle.read_through.proofs.LookLemmas.{AnswersFor-tested, ShowsServing-tested}
use Rattle.read_through.proofs.reading.ReadThrough.peek.Goals as goal

-- the value passed the test, which is whether it serves
pub returns-in-Ok-Ok-clause-fresh : goal.returns-in-Ok-Ok-clause-fresh
returns-in-Ok-Ok-clause-fresh g c =
    let some = rw c.in-Ok-Ok.field-0-is at c.in-Ok-Ok.ensures.answers in
    rw (← c.self.view_is) (AnswersFor-tested (g.Q.Equivalent.equivalent c.args.query.now)
    g.V.Clone.is_clone (g.Li.Lives.life_of c.self.inside.lives c.args.query.now) c.args.now _
    (λ loaded said told. subst (λ it. TellsServing
    (g.Li.Lives.life_of c.self.inside.lives c.args.query.now) c.args.now it said) told.2 told.1) some.shard.state g.S.Source.gives g.K.PartialEq.eq
    (g.met.Li.Lives.keeps_life c.self.inside.lives c.args.query.now) c.in-Ok-Ok.found some.holds
    (rw c.in-Ok-Ok.field-0-is at c.in-Ok-Ok.ensures.fits (ClonesFit-loaded g.S.Source.gives
    g.K.PartialEq.eq g.met.K.Eq.laws g.V.Clone.is_clone c.requires.clones)))

pub returns-in-Ok-Ok-clause-shows : goal.returns-in-Ok-Ok-clause-shows
returns-in-Ok-Ok-clause-shows g c =
    let some = rw c.in-Ok-Ok.field-0-is at c.in-Ok-Ok.ensures.answers in
    rw (← c.self.view_is) (record {
      shard = some.shard;
      kept = some.kept;
      holds = ShowsServing-tested (g.Q.Equivalent.equivalent c.args.query.now) g.V.Clone.is_clone
          (g.Li.Lives.life_of c.self.inside.lives c.args.query.now) c.args.now _
          (λ loaded said told. subst (λ it. TellsServing
          (g.Li.Lives.life_of c.self.inside.lives c.args.query.now) c.args.now it said) told.2 told.1) some.shard.state (Ok (Ok c.in-Ok-Ok.found)) some.holds;
    })

-- or failed it, or none was there
pub returns-in-Ok-Err-clause-shows : goal.returns-in-Ok-Err-clause-shows
returns-in-Ok-Err-clause-shows g c =
    let some = rw c.in-Ok-Err.field-0-is at c.in-Ok-Err.ensures.answers in
    rw (← c.self.view_is) (record {
      shard = some.shard;
      kept = some.kept;
      holds = ShowsServing-tested (g.Q.Equivalent.equivalent c.args.query.now) g.V.Clone.is_clone
          (g.Li.Lives.life_of c.self.inside.lives c.args.query.now) c.args.now _
          (λ loaded said told. subst (λ it. TellsServing
          (g.Li.Lives.life_of c.self.inside.lives c.args.query.now) c.args.now it said) told.2 told.1) some.shard.state (Ok (Err _)) some.holds;
    })

-- or no clone could be made
pub returns-in-Err-clause-shows : goal.returns-in-Err-clause-shows
returns-in-Err-clause-shows g c =
    let some = c.in-Err.ensures.answers in
    rw (← c.self.view_is) (record {
      shard = some.shard;
      kept = some.kept;
      holds = ShowsServing-tested (g.Q.Equivalent.equivalent c.args.query.now) g.V.Clone.is_clone
          (g.Li.Lives.life_of c.self.inside.lives c.args.query.now) c.args.now _
          (λ loaded said told. subst (λ it. TellsServing
          (g.Li.Lives.life_of c.self.inside.lives c.args.query.now) c.args.now it said) told.2 told.1) some.shard.state (Err c.in-Err.refusal) some.holds;
    })
