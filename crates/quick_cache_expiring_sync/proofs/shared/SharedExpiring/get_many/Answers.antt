use Rattle.quick_cache_expiring_sync.proofs.shared.SharedExpiring.get_many.Goals as goal

-- of what was found, what serves is given
pub returns-clause-answers : goal.returns-clause-answers
returns-clause-answers g c = rw (← c.self.view_is) (record {
  found = c.in_ok-found.found.items;
  shows = c.in_ok-found.ensures.answers;
  serve = c.serving_of.ensures;
})
