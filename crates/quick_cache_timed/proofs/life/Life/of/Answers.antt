use Rattle.std.proofs.Common.{◌≤◌, ◌*◌, ◌-◌, ℕ, subst, sym}
use Rattle.quick_cache_timed.proofs.LifeLemmas.{shortened-least}
use Rattle.quick_cache_timed.proofs.life.Life.of.Goals as goal

pub returns-clause-least : goal.returns-clause-least
returns-clause-least g c =
    subst (λ (n : ℕ). c.args.self.now.millis * (1_000_000 - c.args.self.now.jitter)
    ≤ n * 1_000_000)
    (sym c.shortened.ensures) (shortened-least c.args.self.now c.hash_of.result)
