use Rattle.promises.proofs.AnsweredLemmas.{Fetches-absent}
use Rattle.promises.proofs.alone.answered.load_absent.Goals as goal

pub returns : goal.returns
returns g c = Fetches-absent (g.Q.Equivalent.equivalent c.args.query.now) c.args.cache.now.state
    c.requires.absent _ _ _ _ _ _ _ _ _ c.get_or_load.result c.get_or_load.new.self.state
    c.get_or_load.ensures.fetches
