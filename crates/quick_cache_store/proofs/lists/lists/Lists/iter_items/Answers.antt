use Rattle.std.proofs.Common.{sym, ap, ◌∙◌, length}
use Rattle.std.proofs.lemmas.List.Sorted.{length_permutation}
use Rattle.quick_cache_store.specs.Views.{residents}
use Rattle.quick_cache_store.proofs.lists.ResidentLemmas.{IsPermutation-items_in, length-residents}
use Rattle.quick_cache_store.proofs.lists.lists.Lists.iter_items.Goals as goal

pub invariant_of-result : goal.invariant_of-result
invariant_of-result g c =
    let i = c.self.inside in
    let all = IsPermutation-items_in i.slots i.index i.rings
    c.self.invariant.standing in
    rw c.iter.ensures (length_permutation _ _ all
    ∙ ap (λ lists. length (residents lists)) c.self.view_is
    ∙ length-residents c.args.self.now ∙ sym c.item_count.ensures)

pub returns : goal.returns
returns g c =
    let i = c.self.inside in
    rw (← c.self.view_is, c.iter.ensures) (IsPermutation-items_in i.slots i.index i.rings c.self.invariant.standing)
