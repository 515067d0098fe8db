use Rattle.quick_cache_store.specs.Sound.{IsWalked}
use Rattle.quick_cache_store.proofs.lists.lists.Lists.find_on_walk.Given as goal

abbrev pub invariant-loop-token : goal.invariant-loop-token
invariant-loop-token g l = IsWalked l.self-inside.slots l.self-inside.index l.hash
    (g.Q.Equivalent.equivalent l.query) l.token-iterator l.shade
