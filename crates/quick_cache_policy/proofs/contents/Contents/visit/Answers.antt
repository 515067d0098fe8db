use Rattle.std.proofs.Common.{◌-◌, ◌∙◌, sym, ap, ap₂, arith}
use Rattle.quick_cache_policy.proofs.HotLemmas.{IsVisited-by}
use Rattle.quick_cache_policy.proofs.contents.Contents.visit.Goals as goal

pub returns-then-is_pinned : goal.returns-then-is_pinned
returns-then-is_pinned g c =
    IsVisited-by (g.M.Policy.steady c.args.terms.now) (g.M.Policy.pinned c.args.terms.now) _
    c.args.self.now _ c.item-item.result _ _ _ c.item-item.ensures
    (λ steady. sym (c.is_pinned-is_pinned.ensures steady
    ∙ ap₂ (g.M.Policy.pinned c.args.terms.now) c.key.ensures c.value.ensures)
    ∙ c.if-is_pinned.true)
    c.set_mark.ensures
    (c.saturating_sub.ensures ∙ ap (λ n. n - 1) c.mark-mark.ensures)
    c.saturating_add-self.ensures

pub returns-then-mark-gt0 : goal.returns-then-mark-gt0
returns-then-mark-gt0 g c =
    IsVisited-by (g.M.Policy.steady c.args.terms.now) (g.M.Policy.pinned c.args.terms.now) _
    c.args.self.now _ c.item-item.result _ _ _ c.item-item.ensures (
      omega (arith, c.mark-mark.ensures, c.if-mark-gt0.true),
      λ steady. sym (c.is_pinned-is_pinned.ensures steady
          ∙ ap₂ (g.M.Policy.pinned c.args.terms.now) c.key.ensures c.value.ensures)
          ∙ c.if-is_pinned.false,
    )
    c.set_mark.ensures
    (c.saturating_sub.ensures ∙ ap (λ n. n - 1) c.mark-mark.ensures)
    c.saturating_add-self.ensures

pub returns : goal.returns
returns g c =
    IsVisited-by (g.M.Policy.steady c.args.terms.now) (g.M.Policy.pinned c.args.terms.now) _
    c.args.self.now _ c.item-item.result _ _ _ c.item-item.ensures (
      omega (arith, c.mark-mark.ensures, c.if-mark-gt0.false),
      λ steady. sym (c.is_pinned-is_pinned.ensures steady
          ∙ ap₂ (g.M.Policy.pinned c.args.terms.now) c.key.ensures c.value.ensures)
          ∙ c.if-is_pinned.false,
    )
    c.set_mark.ensures
    (c.saturating_sub.ensures ∙ ap (λ n. n - 1) c.mark-mark.ensures)
    c.saturating_add-self.ensures
