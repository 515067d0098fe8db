use Rattle.promises.proofs.OneThreadLemmas.{copies-count}
use Rattle.promises.proofs.alone.one_thread.copy_whole.Goals as goal

pub returns : goal.returns
returns g c = copies-count c.args.cache.now.state g.K.Clone.is_clone g.V.Clone.is_clone
    (λ copy. copy.state) c.try_clone.result c.try_clone.ensures.copies
