use Rattle.promises.proofs.ToldLemmas.{Inserts-fits}
use Rattle.promises.proofs.told.insert_fitting.Goals as goal

-- the hooks tell all that became of the residents
pub returns : goal.returns
returns g c = record {
  stay = Inserts-fits g.L.Lifecycle.fits _ _
      (λ was k v now left. g.met.L.Lifecycle.keeps_fits c.args.cache.now.lifecycle was k v now left)
      _ g.K.PartialEq.eq c.args.cache.now.state _ c.args.key c.args.value c.insert.new.self.state _
      c.insert.result c.insert.ensures.inserts.does c.requires.fits;
}
