use Rattle.read_through.proofs.RenewLemmas.{Claims-told}
use Rattle.read_through.proofs.reading.ReadThrough.claims.Goals as goal
use Rattle.read_through.proofs.reading.ReadThrough.claims.Goals.{in-Retained, in_default}

-- what the callback told to be claimed was due
pub returns : goal.returns
returns g c = record {
  claims = elim c.match-entry.branch [
    | in-Retained w ↦
        let told = w.in-Retained.ensures.told in
        rw w.result-is (Claims-told _ _ (g.K.PartialEq.eq c.args.key.now) _ c.args.pace
        c.args.now w.in-Retained.claimed told told.called.called)
    | in_default w ↦ rw w.result-is tt
  ];
}
