use Rattle.quick_cache_store.specs.Sound.{PassesNoItem}
use Rattle.quick_cache_store.proofs.lists.lists.Lists.find_item_on_walk.Given as goal

abbrev pub invariant-loop-token : goal.invariant-loop-token
invariant-loop-token g l = PassesNoItem l.self-inside.slots l.self-inside.index l.hash
    (g.Q.Equivalent.equivalent l.query) l.token-iterator
