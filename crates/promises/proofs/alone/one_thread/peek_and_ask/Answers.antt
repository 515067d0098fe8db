use Rattle.promises.proofs.OneThreadLemmas.{asked-alike}
use Rattle.promises.proofs.alone.one_thread.peek_and_ask.Goals as goal

pub returns-clause-alike : goal.returns-clause-alike
returns-clause-alike g c = rw c.copied.ensures (asked-alike (g.K.PartialEq.eq c.args.key.now)
    c.args.cache.now.state (c.peek.ensures.sound.valid.one_entry_a_key c.args.key.now)
    c.contains_key.result _ c.contains_key.ensures.there c.contains_key.ensures.absent c.peek.ensures.sees)
