use Rattle.std.proofs.Common.{◌≡◌, ◌∙◌, sym, ap, length, Some, arith}
use Rattle.quick_cache_store.proofs.lists.WalkLemmas.{length-items_in}
use Rattle.quick_cache_store.proofs.lists.walk.RingIterIterator.size_hint.Goals as goal

pub returns-clause-lower : goal.returns-clause-lower
returns-clause-lower g c =
    let long : length c.self.inside.walk ≡ length c.args.self.now =
    sym (length-items_in _ c.self.invariant) ∙ ap length c.self.view_is in
    λ _. omega (arith, long, c.left-count.ensures)

pub returns-clause-upper : goal.returns-clause-upper
returns-clause-upper g c =
    let long : length c.self.inside.walk ≡ length c.args.self.now =
    sym (length-items_in _ c.self.invariant) ∙ ap length c.self.view_is in
    (tt, omega (arith, long, c.left-count.ensures))

pub returns-clause-exact : goal.returns-clause-exact
returns-clause-exact g c =
    let long : length c.self.inside.walk ≡ length c.args.self.now =
    sym (length-items_in _ c.self.invariant) ∙ ap length c.self.view_is in
    ap (λ n. (n, Some n)) (c.left-count.ensures ∙ long)
