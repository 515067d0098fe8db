use Rattle.std.proofs.Common.{◌≡◌}
use Rattle.test_read_through.proofs.loader.tasks.asks.Goals as goal

-- the loader that is called is the one that may be
pub returns : goal.returns
returns g c =
    let same : c.get_async.result.reading ≡ c.args.loaded.now = c.get_async.ensures.reading in
    rw same c.requires
