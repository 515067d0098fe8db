use Rattle.promises.proofs.EndedLemmas.{FetchesAt-absent}
use Rattle.promises.proofs.alone.ending.load_absent.Goals as goal

-- none is there, so none is over, and the loader is asked
pub returns : goal.returns
returns g c =
    let ends = FetchesAt-absent _ c.args.now c.args.entries.now c.requires.absent _ _ _ _ _ _ _ _
    c.get_or_load.result c.get_or_load.new.self c.get_or_load.ensures.fetches in
    record { gave = ends.0; none = ends.1 }
