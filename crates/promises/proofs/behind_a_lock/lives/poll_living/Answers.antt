use Rattle.std.proofs.Common.{◌≡◌}
use Rattle.promises.proofs.behind_a_lock.lives.poll_living.Goals as goal

-- the loader that is called is that of the addresses
pub poll-requires : goal.poll-requires
poll-requires g c =
    let same : c.get_async-asks.result.reading ≡ c.args.addresses.now =
    c.get_async-asks.ensures.reading in
    rw same (c.requires.callable, c.requires.says)
