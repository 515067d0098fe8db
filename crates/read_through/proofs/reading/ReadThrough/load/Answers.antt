use Rattle.std.proofs.Common.{◌≡◌, ◌<◌, ◌^◌, refl, rules}
use Rattle.read_through.proofs.reading.ReadThrough.load.Goals as goal

-- the loader was called at this key and this moment
pub returns : goal.returns
returns g c =
    let same : c.self.inside.loader ≡ c.args.self.now.loader = search rules in
    let within : c.args.now < 2 ^ 64 = search rules in
    c.requires.loads c.args.key.now c.args.now c.call.result within (record {
      shown = c.args.key;
      shows = refl;
      says = record { met = rw same at c.call.ensures };
    })
