-- The admission check can be made in every state where each hook may be called.
use Rattle.std.proofs.Common.{◌≡◌, ℕ, ◌<◌, ◌≤◌, ◌⊎◌, inl, inr, Bool, true, false, List, [], ◌∷◌, refl}
use Rattle.std.proofs.lemmas.Bool.{cases_lt}
use Rattle.quick_cache_model.specs.Hooks.{Rules, HookCall, BeforeEvict, Hooks, RunsHooks}
use Rattle.quick_cache_model.specs.Admission.{Admission, Admitted, TooHeavy, ChecksAdmission}
use Rattle.quick_cache_laws.specs.Laws.{CanCallHooks}

-- an admission check, with the calls of hooks that it makes
pub record Checks {K V S : Type 0} (hooks : Hooks K V S) (rules : Rules K V) (hot_target : ℕ)
    (key : K) (value : V) (first : S) : Type 0 where
  pub answer : Admission V
  pub calls : List (HookCall K V)
  pub last : S
  pub holds : ChecksAdmission rules hot_target key value calls answer
  pub runs : RunsHooks hooks calls first last

module _ {K V S : Type 0} (rules : Rules K V) (may : rules.may_count 0) (hooks : Hooks K V S)
    (can : CanCallHooks hooks) where
  pub ChecksAdmission-exists : (hot_target : ℕ) (key : K) (value : V) (first : S)
      → Checks hooks rules hot_target key value first
  ChecksAdmission-exists hot_target key value first =
      by_weight (cases_lt hot_target (rules.weight key value))
    where
      step : (last : S) × (left : V) × hooks.before_evict first key value last left
      step = can.before_evict first key value

      by_left : hot_target < rules.weight key value → rules.pinned key value ≡ false
          → (hot_target < rules.weight key step.1) ⊎ (rules.weight key step.1 ≤ hot_target)
          → Checks hooks rules hot_target key value first
      by_left heavy unpinned (inl still_heavy) = record {
        answer = TooHeavy step.1;
        calls = BeforeEvict key value step.1 ∷ [];
        last = step.0;
        holds = ChecksAdmission.is_too_heavy step.1 heavy unpinned still_heavy;
        runs = (step.0, step.2, refl);
      }
      by_left heavy unpinned (inr light) = record {
        answer = Admitted step.1;
        calls = BeforeEvict key value step.1 ∷ [];
        last = step.0;
        holds = ChecksAdmission.was_lightened step.1 heavy unpinned light;
        runs = (step.0, step.2, refl);
      }

      by_pin : hot_target < rules.weight key value → (b : Bool) → rules.pinned key value ≡ b
          → Checks hooks rules hot_target key value first
      by_pin heavy true is = record {
        answer = Admitted value;
        calls = [];
        last = first;
        holds =
            ChecksAdmission.is_pinned heavy is;
        runs = refl;
      }
      by_pin heavy false is = by_left heavy is (cases_lt hot_target (rules.weight key step.1))

      by_weight : (hot_target < rules.weight key value) ⊎ (rules.weight key value ≤ hot_target)
          → Checks hooks rules hot_target key value first
      by_weight (inl heavy) = by_pin heavy (rules.pinned key value) refl
      by_weight (inr light) = record {
        answer = Admitted value;
        calls = [];
        last = first;
        holds =
            ChecksAdmission.is_light light;
        runs = refl;
      }
