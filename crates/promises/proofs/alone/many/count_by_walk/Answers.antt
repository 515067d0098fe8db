use Rattle.std.proofs.Common.{◌∙◌, ◌++◌, refl, arith}
use Rattle.std.proofs.lemmas.Iterator.Consumers.{count_from_yields_List, YieldsList-from_first}
use Rattle.std.proofs.lemmas.List.{length-map, length-append}
use Rattle.std.proofs.lemmas.List.Sorted.{length_permutation}
use Rattle.promises.proofs.alone.many.count_by_walk.Goals as goal

-- the walk's list is a permutation of all items
pub returns : goal.returns
returns c =
    let state = c.args.cache.now.state in
    count_from_yields_List _ _ c.count.ensures.ran
    (YieldsList-from_first (λ pair. (pair.0.now, pair.1.now)) (λ rest. rest) c.into_iter.result refl)
    ∙ (length_permutation _ _ c.into_iter.ensures.into_iter_gives ∙ (length-map _ _
    ∙ omega (
      arith,
      length-append (state.hot ++ state.cold) state.still,
      length-append state.hot state.cold,
    )))
