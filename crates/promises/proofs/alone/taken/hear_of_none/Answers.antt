use Rattle.promises.proofs.TakenLemmas.{TellsEach-none}
use Rattle.promises.proofs.alone.taken.hear_of_none.Goals as goal

-- the option gives no pair
pub returns : goal.returns
returns c =
    TellsEach-none _ _ _ _ c.into_iter.result c.tell_each_taken.ensures.tells
    c.into_iter.ensures.into_iter_gives.0
