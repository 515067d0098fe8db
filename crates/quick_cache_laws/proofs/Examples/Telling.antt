-- How the hooks lead the request state, and what a call is refused for.
use Rattle.std.proofs.Common.{◌≡◌, ℕ, ◌+◌, ◌^◌, true≢false, ◌-◌, List, [], ◌∷◌, refl, lit≤}
use Rattle.quick_cache_model.specs.declared.refusal.Refusal.{Refusal}
use Rattle.quick_cache_model.specs.CacheState.{empty_state}
use Rattle.quick_cache_model.specs.Hooks.{Hooks, RunsHooks, BeforeEvict, EvictHot, EvictCold}
use Rattle.quick_cache_model.specs.Refusals.{MayRefuse, needs_of_insert, needs_of_placeholder}
use Rattle.quick_cache_laws.proofs.Examples.Caches.{is, hot_item}

-- hooks that keep the pairs that leave, the last one first; `before_evict` doubles the value
abbrev pub keeping_hooks : Hooks ℕ ℕ (List (ℕ × ℕ))
keeping_hooks = record {
  before_evict = λ old key value new left. (new ≡ old) × (left ≡ value + value);
  evict_hot = λ old key value new. new ≡ (key, value) ∷ old;
  evict_cold = λ old key value new. new ≡ (key, value) ∷ old;
}

-- a write over an item that evicts another: the hooks run in the order of the calls, each from the
-- state that the one before it left, and a pair is told with the value that `before_evict` left
pub hooks_run_in_the_order_of_their_calls
    : RunsHooks keeping_hooks (EvictHot 1 50 ∷ BeforeEvict 2 30 60 ∷ EvictCold 2 60 ∷ []) []
    ((2, 60) ∷ (1, 50) ∷ [])
hooks_run_in_the_order_of_their_calls =
    ((1, 50) ∷ [], refl, ((1, 50) ∷ [], (refl, refl), ((2, 60) ∷ (1, 50) ∷ [], refl, refl)))

-- where the tickets are spent, a call that would make a placeholder is refused
pub spent_tickets_refuse_a_placeholder
    : MayRefuse (needs_of_placeholder (is 1) 1
    (record (empty_state {K = ℕ} {V = ℕ} 5 4 2) { next_ticket = 2 ^ 64 - 1 }))
    (record (empty_state {K = ℕ} {V = ℕ} 5 4 2) { next_ticket = 2 ^ 64 - 1 }) Refusal.TicketsSpent
spent_tickets_refuse_a_placeholder =
    MayRefuse.tickets_spent (record {
      items = record { hot = tt; cold = tt; still = tt };
      loading =
          tt;
    }) (lit≤ tt)

-- an insert over an item is never refused
pub an_insert_over_an_item_is_not_refused
    : MayRefuse (needs_of_insert (is 1) 1 (record (empty_state 5 4 2)
    { hot = hot_item 1 10 1 0 ∷ [] }))
    (record (empty_state 5 4 2) { hot = hot_item 1 10 1 0 ∷ [] }) Refusal.Memory → ⊥
an_insert_over_an_item_is_not_refused (MayRefuse.memory_refused provided nothing) =
    true≢false (nothing.keys.items.hot.0)
