-- Calls that leave their step up to the order of what has none.
use Rattle.std.proofs.Common.{ℕ, Bool, ◌==◌, [], ◌∷◌, refl, lit<}
use Rattle.quick_cache_model.specs.CacheState.{CacheState, SameButOrder, UpToOrder, empty_state}
use Rattle.quick_cache_model.specs.Removal.{Retains}
use Rattle.quick_cache_laws.proofs.Calls.SecondRemovals.{Retains-second}
use Rattle.quick_cache_laws.proofs.Examples.Caches.{hot_item, cold_item}

-- it keeps the values of weight 0
abbrev keeps_weightless : ℕ → ℕ → Bool
keeps_weightless key value = value == 0

-- a retain that turned the order of the two items of weight 0 that it kept
pub a_retain_may_leave_another_order
    : UpToOrder (λ state. Retains keeps_weightless
    (record (empty_state 5 4 2) {
      hot = hot_item 3 1 1 0 ∷ [];
      still = hot_item 1 0 0 0 ∷ cold_item 2 0 0 0 ∷ [];
    })
    state)
    (record (empty_state 5 4 2) { still = cold_item 2 0 0 0 ∷ hot_item 1 0 0 0 ∷ [] })
a_retain_may_leave_another_order = record {
  ordered = record (empty_state 5 4 2) { still = hot_item 1 0 0 0 ∷ cold_item 2 0 0 0 ∷ [] };
  holds = refl;
  same = record {
    still = record { moves = (0, 1) ∷ []; below = (lit< tt, lit< tt, tt); is = refl };
    loading = record { moves = []; below = tt; is = refl };
    same = refl;
  };
}

-- a second one by the same test removes nothing from what the first left
pub a_second_retain_removes_nothing : (new : CacheState ℕ ℕ)
    → UpToOrder (λ state. Retains keeps_weightless
    (record (empty_state 5 4 2) { still = cold_item 2 0 0 0 ∷ hot_item 1 0 0 0 ∷ [] }) state) new
    → SameButOrder
    (record (empty_state 5 4 2) { still = cold_item 2 0 0 0 ∷ hot_item 1 0 0 0 ∷ [] }) new
a_second_retain_removes_nothing new again =
    Retains-second keeps_weightless
    (record (empty_state 5 4 2) {
      hot = hot_item 3 1 1 0 ∷ [];
      still = hot_item 1 0 0 0 ∷ cold_item 2 0 0 0 ∷ [];
    })
    _ new a_retain_may_leave_another_order again
