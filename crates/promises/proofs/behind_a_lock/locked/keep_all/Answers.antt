use Rattle.promises.proofs.RetainLemmas.{as-many}
use Rattle.promises.proofs.behind_a_lock.locked.keep_all.Goals as goal

-- each item was answered yes
pub returns : goal.returns
returns g c = as-many _ c.requires.passes c.args.shard.now.state c.retain.new.self.state
    c.retain.ensures.asks
