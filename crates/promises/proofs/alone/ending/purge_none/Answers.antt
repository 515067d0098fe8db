use Rattle.std.proofs.Common.{refl}
use Rattle.promises.proofs.PurgeLemmas.{none-of-none}
use Rattle.promises.proofs.alone.ending.purge_none.Goals as goal

-- none was passed
pub returns : goal.returns
returns c = none-of-none _ _ _ _ _ _ c.purge_some.ensures.purges.purges refl
