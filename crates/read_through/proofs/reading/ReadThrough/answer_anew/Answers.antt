use Rattle.read_through.specs.Answers.{Answers}
use Rattle.read_through.proofs.AnswerLemmas.{Answers-called, IfFresh-loaded, IfOk-called}
use Rattle.read_through.proofs.reading.ReadThrough.answer_anew.Goals as goal

-- who has the guard loads
pub fill_or_keep-requires-clause-gave : goal.fill_or_keep-requires-clause-gave
fill_or_keep-requires-clause-gave g c =
    IfOk-called (g.G.FnOnce.post c.args.load tt) (g.S.Source.gives c.args.key.now c.args.now)
    c.requires.loads c.load-loaded.result c.load-loaded.ensures

pub returns-in-Replaced-clause-fresh : goal.returns-in-Replaced-clause-fresh
returns-in-Replaced-clause-fresh g c =
    IfFresh-loaded
    (Answers g.S.Source.gives g.K.PartialEq.eq c.args.key.now
    (g.Li.Lives.life_of c.args.self.now.lives c.args.key.now) c.args.now)
    c.load-loaded.result
    (Answers-called g.S.Source.gives g.K.PartialEq.eq g.met.K.Eq.laws c.args.key.now
    (g.Li.Lives.life_of c.args.self.now.lives c.args.key.now) c.args.now
    (g.G.FnOnce.post c.args.load tt) c.requires.loads c.load-loaded.result c.load-loaded.ensures)
    c.fill_or_keep.result
    c.fill_or_keep.ensures.fresh

pub fill_with-requires-clause-gave : goal.fill_with-requires-clause-gave
fill_with-requires-clause-gave g c =
    IfOk-called (g.G.FnOnce.post c.args.load tt) (g.S.Source.gives c.args.key.now c.args.now)
    c.requires.loads c.load-loaded-in-Vacant.result c.load-loaded-in-Vacant.ensures

pub returns-in-Vacant-clause-fresh : goal.returns-in-Vacant-clause-fresh
returns-in-Vacant-clause-fresh g c =
    IfFresh-loaded
    (Answers g.S.Source.gives g.K.PartialEq.eq c.args.key.now
    (g.Li.Lives.life_of c.args.self.now.lives c.args.key.now) c.args.now)
    c.load-loaded-in-Vacant.result
    (Answers-called g.S.Source.gives g.K.PartialEq.eq g.met.K.Eq.laws c.args.key.now
    (g.Li.Lives.life_of c.args.self.now.lives c.args.key.now) c.args.now
    (g.G.FnOnce.post c.args.load tt) c.requires.loads c.load-loaded-in-Vacant.result
    c.load-loaded-in-Vacant.ensures)
    c.fill_with.result
    c.fill_with.ensures.fresh

-- so does who can have none
pub returns-in-Removed-clause-fresh : goal.returns-in-Removed-clause-fresh
returns-in-Removed-clause-fresh g c =
    IfFresh-loaded
    (Answers g.S.Source.gives g.K.PartialEq.eq c.args.key.now
    (g.Li.Lives.life_of c.args.self.now.lives c.args.key.now) c.args.now)
    c.load-loaded-in-Removed.result
    (Answers-called g.S.Source.gives g.K.PartialEq.eq g.met.K.Eq.laws c.args.key.now
    (g.Li.Lives.life_of c.args.self.now.lives c.args.key.now) c.args.now
    (g.G.FnOnce.post c.args.load tt) c.requires.loads c.load-loaded-in-Removed.result
    c.load-loaded-in-Removed.ensures)
    c.as_given.result
    c.as_given.ensures.fresh
