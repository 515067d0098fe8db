use Rattle.std.proofs.Common.{ℕ, ◌==◌, not, rules}
use Rattle.std.proofs.lemmas.Fn.{filter_same}
use Rattle.quick_cache_loading.proofs.protocol.life.remove.Goals as goal

-- The closure keeps a number exactly where it is another one.
pub returns : goal.returns
returns g c =
    filter_same _ (λ (w : ℕ). not (w == c.args.waiter)) _
    (λ x b q h. search rules) _ _ c.retain.ensures.filtered
