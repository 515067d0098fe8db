use Rattle.std.proofs.Common.{◌≡◌, true, false, ◌∙◌}
use Rattle.promises.proofs.PurgeLemmas.{resident-still}
use Rattle.promises.proofs.alone.ending.purge_and_keep.Goals as goal

-- what was answered no is over
pub returns : goal.returns
returns c = λ item there live. resident-still _ item
    (λ told. let never : false ≡ true = told.1 ∙ live in absurd cc) _ _
    c.purge_some.ensures.purges.purges.retains.retains there
