use Rattle.promises.proofs.AnsweredLemmas.{AnswersLoad-none}
use Rattle.promises.proofs.alone.answered.fail_to_load.Goals as goal

pub returns : goal.returns
returns g c = AnswersLoad-none _ c.args.cache.now.state c.requires.absent _ _ _ _ _ _ _
    (λ value gives. cc) c.load.result c.load.new.self.state c.load.ensures.loads
