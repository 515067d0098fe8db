use Rattle.std.proofs.Common.{◌≡◌, true, false, IsTrue, sym, subst, ◌∙◌}
use Rattle.quick_cache_expiring.specs.declared.loaded.Loaded.{Loaded}
use Rattle.read_through.specs.Answers.{IsOf}
use Rattle.read_through.proofs.RenewLemmas.{Renews-told, renewed-source}
use Rattle.read_through.proofs.reading.ReadThrough.renews.Goals as goal
use Rattle.read_through.proofs.reading.ReadThrough.renews.Goals.{in-Retained, in_default}

-- what the callback leaves is the source's
pub entry-requires-clause-leaves : goal.entry-requires-clause-leaves
entry-requires-clause-leaves g c = λ key value action left leaves fits.
    let gives = g.S.Source.gives in
    let equal = g.K.PartialEq.eq in
    let same = subst (λ own. IsTrue (equal c.args.key.now own)) leaves.shows.0 leaves.called.0 in
    subst (λ (it : Loaded _). IsOf gives equal key it.moment it.value) leaves.leaves
    (renewed-source gives equal g.V.Clone.is_clone c.args.key.now c.args.claimed c.args.now
    c.args.value.now c.requires.clones c.requires.gave key
    (g.met.K.Eq.laws.symm key c.args.key.now ∙ same) leaves.shown.now leaves.left_by.now action
    leaves.called.1
    (subst (λ (it : Loaded _). IsOf gives equal key it.moment it.value) (sym leaves.shows.1) fits))

-- what the callback told to be renewed was what was claimed
pub returns : goal.returns
returns g c = record {
  renews = elim c.match-entry.branch [
    | in-Retained w ↦
        let told = w.in-Retained.ensures.told in
        rw w.result-is (Renews-told _ _ (g.K.PartialEq.eq c.args.key.now) _ g.V.Clone.is_clone
        c.args.claimed c.args.now c.args.value.now w.in-Retained.renewed told
        told.called.called.1)
    | in_default w ↦ rw w.result-is (λ so. let never : false ≡ true = so in absurd cc)
  ];
}
