use Rattle.std.proofs.Common.{◌∙◌, ap}
use Rattle.quick_cache_index.specs.IndexGroups.{candidates_left}
use Rattle.quick_cache_index.proofs.Candidates.{AreCandidates-walk, CoversTagged-lent}
use Rattle.quick_cache_index.proofs.index.Index.candidates.Goals as goal

pub returns : goal.returns
returns g c =
    let walk = c.new-walk.result in
    let shown = c.args.self.now in
    let tags_are = c.as_slice.ensures.value ∙ ap (λ i. i.tags) c.self.view_is in
    let tokens_are = c.as_slice-2.ensures.value ∙ ap (λ i. i.tokens) c.self.view_is in
    let reaches_are = c.as_slice-3.ensures.value ∙ ap (λ i. i.reaches) c.self.view_is in
    AreCandidates-walk shown walk c.args.hash
    (ap (λ b. b.now) c.new-walk.ensures.tokens ∙ tokens_are) c.new-walk.ensures.walk
    (CoversTagged-lent shown c.as_slice.result.now c.as_slice-2.result.now c.as_slice-3.result.now
    c.self.inside.mask c.args.hash (candidates_left walk) tags_are tokens_are reaches_are
    (ap (λ i. i.mask) c.self.view_is) c.new-walk.ensures.all)
