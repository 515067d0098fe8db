use Rattle.quick_cache_store.specs.Placeholders.{PassesNoneMeant}
use Rattle.quick_cache_store.proofs.lists.lists.Lists.seek_placeholder.Given as goal

abbrev pub invariant-loop-token : goal.invariant-loop-token
invariant-loop-token g l =
    PassesNoneMeant (g.M.Meaning.means l.by) l.initial.token-iterator l.token-iterator
