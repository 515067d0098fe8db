use Rattle.std.proofs.Common.{◌≡◌, ap, ◌∙◌, arith}
use Rattle.std.specs.Int.NonZero.{non_zero_u32_get as number}
use Rattle.quick_cache_model.specs.Lookups.{looked_up}
use Rattle.quick_cache_model.specs.Touches.{counted_up, raised_by}
use Rattle.quick_cache_store.specs.Lists.{Lists, read_once, used}
use Rattle.quick_cache_policy.proofs.LookupLemmas.{with_change-same}
use Rattle.quick_cache_policy.proofs.contents.Contents.mark_and_read.Goals as goal

-- its mark was full
pub returns-then-mark-self : goal.returns-then-mark-self
returns-then-mark-self g c =
    let contents = c.args.self.now in
    let item = c.item.result in
    let mark_is : item.mark ≡ raised_by contents.mark_cut 1 item.mark =
    omega (arith, c.mark-mark.ensures, c.if-mark-self.true) in
    ap (λ (l : Lists _ _ _). record contents { lists = l })
    (c.count_read.ensures ∙ with_change-same contents.lists c.facts.ensures.apart
    (number c.args.token) c.item.ensures.0 item read_once (looked_up contents.mark_cut)
    (λ i. record item { mark = mark_is i; reads = counted_up 1 item.reads }) c.item.ensures.1)

-- or it rose
pub returns : goal.returns
returns g c =
    let contents = c.args.self.now in
    let item = c.item.result in
    let mark_is : c.min.result ≡ raised_by contents.mark_cut 1 item.mark =
    omega (arith, c.mark-mark.ensures, c.saturating_add.ensures, c.min.ensures) in
    ap (λ (l : Lists _ _ _). record contents { lists = l })
    (c.count_use.ensures ∙ with_change-same contents.lists c.facts.ensures.apart
    (number c.args.token) c.item.ensures.0 item (used c.min.result)
    (looked_up contents.mark_cut)
    (λ i. record item { mark = mark_is i; reads = counted_up 1 item.reads }) c.item.ensures.1)
