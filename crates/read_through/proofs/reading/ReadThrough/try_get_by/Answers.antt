use Rattle.read_through.proofs.AnswerLemmas.{AnswersFor-tried, LoadsSome-tried}
use Rattle.read_through.proofs.reading.ReadThrough.try_get_by.Goals as goal

-- the query stands for the key that it gave, whose values live as long
pub returns-clause-fresh : goal.returns-clause-fresh
returns-clause-fresh g c =
    let key = c.in_ok-key.key in
    let gives = c.in_ok-key.ensures.gives in
    AnswersFor-tried g.S.Source.gives g.K.PartialEq.eq
    (g.Q.Equivalent.equivalent c.args.query.now) c.args.now key (c.requires.stands key gives) _ _
    (c.requires.lives key gives) c.try_get.result c.try_get.ensures.fresh

-- and the error is of that key
pub returns-clause-error : goal.returns-clause-error
returns-clause-error g c =
    LoadsSome-tried g.F.Fn c.args.self.now.loader _ c.args.now c.in_ok-key.key
    c.in_ok-key.ensures.gives c.try_get.result c.try_get.ensures.error
