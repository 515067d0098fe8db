use Rattle.std.proofs.Common.{true, refl}
use Rattle.quick_cache_timed.proofs.alone.Timed+Expiring+K+V+We+B+L+A+T.get.Goals as goal

-- what serves was renewed, and is shown
pub returns-then-touch : goal.returns-then-touch
returns-then-touch g c = (
  (
    refl,
    (λ entries. tt),
    (
      (
        c.moment-now.result,
        c.moment-now.ensures,
        rw c.if-self.true (
          true,
          rw (c.of-life.ensures.life, c.if-touch.true) at c.touch.ensures.touches,
          c.peek.ensures.shows,
          tt,
        ),
      ),
      refl,
    ),
  ),
  record { gets = tt },
)
