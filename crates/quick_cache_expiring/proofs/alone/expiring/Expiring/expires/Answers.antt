use Rattle.std.proofs.Common.{rules, refl}
use Rattle.quick_cache_expiring.proofs.alone.expiring.Expiring.expires.Goals as goal

-- what was over went, and that is counted
pub returns-then-is_some : goal.returns-then-is_some
returns-then-is_some g c = record {
  expires = rw (← c.self.view_is, c.saturating_add-self-inside.ensures) (record {
    taken = c.remove_if.result;
    told = c.if-is_some.ensures;
    removes = c.remove_if.ensures.removes _ (λ lasting answer told. search rules);
    rest = refl;
    same = c.remove_if.ensures.same;
  });
}

-- nothing was over
pub returns : goal.returns
returns g c = record {
  expires = rw (← c.self.view_is) (record {
    taken = c.remove_if.result;
    told = c.if-is_some.ensures;
    removes = c.remove_if.ensures.removes _ (λ lasting answer told. search rules);
    rest = refl;
    same = c.remove_if.ensures.same;
  });
}
