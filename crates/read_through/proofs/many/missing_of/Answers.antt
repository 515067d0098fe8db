use Rattle.std.proofs.Common.{rules, ◌≡◌, ◌++◌, [], ◌∷◌, arith}
use Rattle.read_through.proofs.ManyLemmas.{asked-found, asked-missing}
use Rattle.read_through.proofs.many.missing_of.Goals as goal

-- something was found
pub loop-index-preserved-then-is_some : goal.loop-index-preserved-then-is_some
loop-index-preserved-then-is_some g c =
    asked-found g.K.Clone.is_clone c.args.keys.now c.args.found.now c.loop-index.index
    c.index-keys-index.result c.index-found-index.result (search rules)
    (omega (arith, c.requires.one_each)) c.index-keys-index.is c.index-found-index.is
    c.loop-index.asked.items c.loop-index.invariant (search rules)

-- or nothing, and its key is asked for
pub loop-index-preserved : goal.loop-index-preserved
loop-index-preserved g c =
    let grown : c.push.new.self.items ≡ c.loop-index.asked.items ++ c.in-Ok.copy ∷ [] = search rules in
    rw grown (asked-missing g.K.Clone.is_clone c.args.keys.now c.args.found.now c.loop-index.index
    c.index-keys-index.result c.index-found-index.result (search rules) (omega (arith, c.requires.one_each))
    c.index-keys-index.is c.index-found-index.is c.loop-index.asked.items c.loop-index.invariant
    c.in-Ok.copy c.in-Ok.ensures.cases (search rules))
