-- The admission check: a pair that is heavier than the hot target is not kept, unless it is pinned
-- or can be lightened.
use Rattle.std.specs.Prelude.{◌≡◌, ℕ, ◌<◌, ◌≤◌, true, false, List, [], ◌∷◌, ◌++◌}
use Rattle.quick_cache_model.specs.Hooks.{Rules, HookCall, BeforeEvict}

-- the answer, with the value as it then stands
pub data Admission (V : Type 0) : Type 0 where
  Admitted : (value : V) → Admission V
  TooHeavy : (value : V) → Admission V

module _ {K V : Type 0} (rules : Rules K V) (hot_target : ℕ) (key : K) (value : V) where
  -- A pair of at most the target's weight is admitted, and so is a pinned one. Else `before_evict`
  -- is called on it, and the value that it leaves is weighed.
  pub data ChecksAdmission : List (HookCall K V) → Admission V → Type 0 where
    is_light : rules.weight key value ≤ hot_target → ChecksAdmission [] (Admitted value)
    is_pinned : hot_target < rules.weight key value → rules.pinned key value ≡ true
        → ChecksAdmission [] (Admitted value)
    was_lightened : (left : V) → hot_target < rules.weight key value
        → rules.pinned key value ≡ false
        → rules.weight key left ≤ hot_target
        → ChecksAdmission (BeforeEvict key value left ∷ []) (Admitted left)
    is_too_heavy : (left : V) → hot_target < rules.weight key value → rules.pinned key value ≡ false
        → hot_target < rules.weight key left
        → ChecksAdmission (BeforeEvict key value left ∷ []) (TooHeavy left)

  -- The calls begin with those of a check that the pair passed, and the check left this value.
  pub data PassesCheck : List (HookCall K V) → (left : V) → Type 0 where
    passes : (first rest : List (HookCall K V)) (left : V) → ChecksAdmission first (Admitted left)
        → PassesCheck (first ++ rest) left
