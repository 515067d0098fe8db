use Rattle.read_through.proofs.AnswerLemmas.{AnswersFor-key}
use Rattle.read_through.proofs.reading.ReadThrough.get_by.Goals as goal

-- the query stands for the key that it gave, whose values live as long
pub returns-clause-fresh : goal.returns-clause-fresh
returns-clause-fresh g c =
    let key = c.in_ok-key.key in
    let gives = c.in_ok-key.ensures.gives in
    AnswersFor-key g.S.Source.gives g.K.PartialEq.eq (g.Q.Equivalent.equivalent c.args.query.now)
    c.args.now key (c.requires.stands key gives) _ _ (c.requires.lives key gives) c.get.result
    c.get.ensures.fresh
