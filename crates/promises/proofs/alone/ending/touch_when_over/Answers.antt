use Rattle.promises.proofs.EndedLemmas.{none-renewed}
use Rattle.promises.proofs.alone.ending.touch_when_over.Goals as goal

-- what is over fails the test
pub returns : goal.returns
returns c = none-renewed _ c.args.now _ c.args.entries.now c.requires.over _ c.touch.new.self c.touch.result
    c.touch.ensures.touches
