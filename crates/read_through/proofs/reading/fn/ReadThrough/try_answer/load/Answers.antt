use Rattle.std.proofs.Common.{refl}
use Rattle.read_through.proofs.reading.fn.ReadThrough.try_answer.load.Goals as goal

-- the closure calls the loader at its key and its moment
pub returns : goal.returns
returns g c = record { shown = c.captures.key; shows = refl; says = record { met = c.loader.ensures } }
