use Rattle.std.proofs.Common.{rules, refl}
use Rattle.quick_cache_listeners.specs.Kept.{Keeps}
use Rattle.quick_cache_listeners.proofs.collect.CollectListener.tell.Goals as goal

-- the push did what it answered
pub returns-then-is_ok : goal.returns-then-is_ok
returns-then-is_ok g c = rw (← c.state.view_is) (Keeps.puts c.in-Some.pairs.items (search rules) (search rules) refl)
