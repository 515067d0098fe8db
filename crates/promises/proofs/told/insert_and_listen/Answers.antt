use Rattle.std.proofs.Common.{◌∷◌, false}
use Rattle.quick_cache_model.specs.Fates.{residents}
use Rattle.promises.proofs.ToldLemmas.{untold}
use Rattle.promises.proofs.told.insert_and_listen.Goals as goal

-- no hook of a queue was called, so no pair left
pub returns : goal.returns
returns c = record {
  stay = λ none.
      let wrote = c.in_ok-insert_with_lifecycle.ensures.inserts in
      (untold ((c.args.number, c.args.block) ∷ residents c.args.blocks.now.state)
      (residents c.insert_with_lifecycle.new.self.state) wrote.step.calls false
      c.insert_with_lifecycle.new.state wrote.step.runs none wrote.step.holds.2).1;
}
