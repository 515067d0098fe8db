use Rattle.quick_cache_timed.proofs.shared.Timed+SharedExpiring+K+V+We+B+L+A+T.put.Goals as goal

pub returns : goal.returns
returns g c = record {
  answers = (
    c.moment.result,
    c.moment.ensures,
    rw c.of-life.ensures.life at c.put.ensures.answers,
  );
}
