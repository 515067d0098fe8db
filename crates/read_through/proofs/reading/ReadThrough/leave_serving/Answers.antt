use Rattle.std.proofs.Common.{rules, None, ◌<◌, length, arith, ◌∙◌}
use Rattle.std.proofs.lemmas.List.{get_or_default}
use Rattle.std.specs.Prelude.{IfSome}
use Rattle.read_through.specs.Answers.{Answers, IsOf}
use Rattle.read_through.proofs.ManyLemmas.{AllZip-at, AllZip-found}
use Rattle.read_through.proofs.reading.ReadThrough.leave_serving.Goals as goal

-- what was not looked at is as it was found
pub leave_if_serving-requires : goal.leave_if_serving-requires
leave_if_serving-requires g c =
    let found = c.index_mut.result.now in
    let index = c.loop-index.index in
    let inside : index < length c.loop-index.found.items = search rules in
    let before : index < length c.args.found.now.items = search rules in
    record {
      source = AllZip-at
          (λ key it. IfSome it
          (λ loaded. IsOf g.S.Source.gives g.K.PartialEq.eq key loaded.moment loaded.value))
          c.args.keys.now c.args.found.now.items index c.index-keys-index.result found
          (search rules) c.index-keys-index.is
          (c.index_mut.ensures.value
          ∙ (get_or_default c.loop-index.found.items index found None inside
          ∙ (c.loop-index.invariant.rest index (omega arith)
          ∙ get_or_default c.args.found.now.items index None found before)))
          c.requires.source;
    }

-- all was looked at
pub returns-clause-serve : goal.returns-clause-serve
returns-clause-serve g c =
    AllZip-found
    (λ key it. IfSome it (λ loaded. Answers g.S.Source.gives g.K.PartialEq.eq key
    (g.Li.Lives.life_of c.args.self.now.lives key) c.args.now loaded.value))
    c.args.keys.now c.loop-index.found.items (search rules)
    (λ i key inside is. c.loop-index.invariant.serve i key
    (omega (arith, c.loop-index-test.false, inside)) is)
