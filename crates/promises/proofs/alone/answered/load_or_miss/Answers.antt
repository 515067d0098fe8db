use Rattle.promises.proofs.AnsweredLemmas.{AnswersLoad-absent}
use Rattle.promises.proofs.alone.answered.load_or_miss.Goals as goal

pub returns : goal.returns
returns g c = AnswersLoad-absent _ _ _ _ _ _ _ _ _ c.load.result c.load.new.self.state
    c.load.ensures.loads
