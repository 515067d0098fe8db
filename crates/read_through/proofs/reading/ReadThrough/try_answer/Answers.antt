use Rattle.read_through.proofs.AnswerLemmas.{Answers-for}
use Rattle.read_through.proofs.reading.ReadThrough.try_answer.Goals as goal

-- the key was its own query
pub returns-in-Some-clause-fresh : goal.returns-in-Some-clause-fresh
returns-in-Some-clause-fresh g c =
    Answers-for g.S.Source.gives g.K.PartialEq.eq g.met.K.Eq.laws c.args.key.now
    (g.Li.Lives.life_of c.args.self.now.lives c.args.key.now) c.args.now c.in-Some.value
    c.in-Some.ensures.fresh
