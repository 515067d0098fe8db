use Rattle.promises.proofs.RetainLemmas.{none-left}
use Rattle.promises.proofs.behind_a_lock.locked.drop_all.Goals as goal

-- each key was answered yes
pub returns : goal.returns
returns g c = none-left _ c.requires.passes c.args.shard.now.state c.invalidate_if.new.self.state
    c.invalidate_if.ensures.asks
