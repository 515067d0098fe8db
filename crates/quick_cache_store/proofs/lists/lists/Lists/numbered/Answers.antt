use Rattle.quick_cache_store.proofs.lists.ItemLemmas.{item_by_token}
use Rattle.quick_cache_store.proofs.lists.lists.Lists.numbered.Goals as goal

-- the first slot is that of the token 1
pub returns : goal.returns
returns g c = λ has.
    let i = c.self.inside in
    let at = item_by_token i.slots i.index i.rings 0
    (rw (← c.self.view_is) at has) in
    absurd (cc (at.2))
