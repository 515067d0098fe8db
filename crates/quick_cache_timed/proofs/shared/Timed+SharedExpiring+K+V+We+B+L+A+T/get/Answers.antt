use Rattle.quick_cache_timed.proofs.shared.Timed+SharedExpiring+K+V+We+B+L+A+T.get.Goals as goal

-- where the life slides, what serves is renewed
pub returns-then-self : goal.returns-then-self
returns-then-self g c = record {
  answers = (
    c.moment-now.result,
    c.moment-now.ensures,
    (
      rw c.if-self.true (rw c.of.ensures.life at c.get_and_touch.ensures.answers),
      c.get_and_touch.ensures.fits,
    ),
  );
}

-- else it is looked up
pub returns-else-self : goal.returns-else-self
returns-else-self g c = record {
  answers = (
    c.moment-now.result,
    c.moment-now.ensures,
    (rw c.if-self.false c.get.ensures.answers, c.get.ensures.fits),
  );
}
