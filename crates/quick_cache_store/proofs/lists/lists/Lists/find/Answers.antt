use Rattle.quick_cache_store.proofs.lists.FindLemmas.{HasNothing-from, none_of_hash}
use Rattle.quick_cache_store.proofs.lists.lists.Lists.find.Goals as goal

pub returns-in-Nothing : goal.returns-in-Nothing
returns-in-Nothing g c =
    let i = c.self.inside in
    let none = none_of_hash i.slots i.index c.self.invariant.keyed c.args.hash _ c.candidates.ensures
    c.in-Nothing.ensures in
    rw (← c.self.view_is) (HasNothing-from i.slots i.index i.rings
    c.self.invariant.standing c.self.invariant.keyed _ c.args.hash
    (λ t has. absurd (none t has)) (λ t has. absurd (none t has)))
