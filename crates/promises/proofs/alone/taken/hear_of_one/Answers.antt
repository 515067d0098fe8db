use Rattle.promises.proofs.TakenLemmas.{TellsEach-one}
use Rattle.promises.proofs.alone.taken.hear_of_one.Goals as goal

-- the option gives its pair, and no other
pub returns : goal.returns
returns c =
    (TellsEach-one _ _ _ _ c.into_iter.result c.tell_each_taken.ensures.tells
    (c.args.key, c.args.value) c.into_iter.ensures.into_iter_gives.0).0
