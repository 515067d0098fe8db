-- Lists of steps: tickets that never return, and sizes that stay.
use Rattle.std.proofs.Common.{ℕ, ◌==◌, [], ◌∷◌, refl, arith}
use Rattle.quick_cache_model.specs.CacheState.{empty_state}
use Rattle.quick_cache_model.specs.Placeholders.{HasNoTicket, MakesPlaceholder, GivesUpPlaceholder}
use Rattle.quick_cache_model.specs.Sizes.{IsSized}
use Rattle.quick_cache_laws.specs.Laws.{IsQueryOf}
use Rattle.quick_cache_laws.specs.Steps.{Step, Steps}
use Rattle.quick_cache_laws.proofs.Examples.Caches.{digit_rules, is}
use Rattle.quick_cache_laws.proofs.Examples.LoadingKeys.{cold_entry}

-- a placeholder that was given up, and one that was made anew for the same key: it has another
-- ticket
pub a_new_placeholder_has_a_new_ticket
    : Steps (λ one other. other == one) digit_rules (empty_state 5 4 2)
    (record (empty_state 5 4 2) { loading = cold_entry 1 2 ∷ []; misses = 2; next_ticket = 3 })
a_new_placeholder_has_a_new_ticket =
    Steps.goes_on _ _ _ (Step.makes (is 1) 1 1 _ query (MakesPlaceholder.on_nothing refl (record {
      keys = record { items = record { hot = tt; cold = tt; still = tt }; loading = tt };
      ghosts = tt;
    })))
    (Steps.goes_on _ _ _ (Step.gives_up 1 _
    (GivesUpPlaceholder.was_there [] (cold_entry 1 1) []
    (record { split = refl; is_of_ticket = refl })))
    (Steps.goes_on _ _ _ (Step.makes (is 1) 1 1 _ query (MakesPlaceholder.on_nothing refl (record {
      keys = record { items = record { hot = tt; cold = tt; still = tt }; loading = tt };
      ghosts = tt;
    })))
    (Steps.done _)))
  where
    query : IsQueryOf (λ one other. other == one) (is 1) 1
    query other = refl

-- so the holder of the first ticket can no longer fill
pub the_first_ticket_is_gone
    : HasNoTicket 1 (record (empty_state {V = ℕ} 5 4 2)
    { loading = cold_entry 1 2 ∷ []; misses = 2; next_ticket = 3 })
the_first_ticket_is_gone = ((λ is. omega (arith, is)), tt)

-- a target above the capacity is none that options or calls make
pub a_target_above_the_capacity_is_not_sized
    : IsSized (empty_state {K = ℕ} {V = ℕ} 1 5 0) → ⊥
a_target_above_the_capacity_is_not_sized sized = omega (arith, sized.target_within)
