use Rattle.std.proofs.Common.{◌≡◌, true, false, ◌∙◌}
use Rattle.promises.proofs.PurgeLemmas.{none-of-some}
use Rattle.promises.proofs.alone.ending.purge_what_lives.Goals as goal

-- what lives stays
pub returns : goal.returns
returns c = none-of-some _ _ _ _ _ _ c.purge_some.ensures.purges.purges _
    (λ key lasting live told. let never : false ≡ true = told ∙ live in absurd cc) c.requires.live
