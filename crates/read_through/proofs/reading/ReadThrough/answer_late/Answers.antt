use Rattle.read_through.specs.Answers.{Answers}
use Rattle.read_through.proofs.AnswerLemmas.{Answers-called, IfFresh-loaded}
use Rattle.read_through.proofs.reading.ReadThrough.answer_late.Goals as goal

-- what was loaded in the place of what was found is fresh
pub returns-in-Some-clause-fresh : goal.returns-in-Some-clause-fresh
returns-in-Some-clause-fresh g c =
    IfFresh-loaded
    (Answers g.S.Source.gives g.K.PartialEq.eq c.args.key.now
    (g.Li.Lives.life_of c.args.self.now.lives c.args.key.now) c.args.now)
    c.load-loaded.result
    (Answers-called g.S.Source.gives g.K.PartialEq.eq g.met.K.Eq.laws c.args.key.now
    (g.Li.Lives.life_of c.args.self.now.lives c.args.key.now) c.args.now
    (g.G.FnOnce.post c.args.load tt) c.requires.loads c.load-loaded.result c.load-loaded.ensures)
    c.renewed.result
    c.renewed.ensures.fresh
