use Rattle.promises.proofs.OneThreadLemmas.{told-size}
use Rattle.promises.proofs.alone.one_thread.tell_size.Goals as goal

pub returns : goal.returns
returns g c = told-size c.args.cache.now.state c.iter.result c.iter.ensures c.size_hint.result
    c.size_hint.ensures.exact
