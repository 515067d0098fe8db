use Rattle.std.proofs.Common.{◌∙◌, sym, ap, length}
use Rattle.quick_cache_store.proofs.lists.WalkLemmas.{length-items_in}
use Rattle.quick_cache_store.proofs.lists.walk.RingIterExactSizeIterator.len.Goals as goal

pub returns-clause-value : goal.returns-clause-value
returns-clause-value g c =
    c.left.ensures ∙ sym (length-items_in _ c.self.invariant) ∙ ap length c.self.view_is
