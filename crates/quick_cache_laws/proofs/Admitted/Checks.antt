-- A pair that passed its check was not too heavy, and the check left one value.
use Rattle.std.proofs.Common.{◌≡◌, ℕ, Bool, true, false, true≢false, List, ◌∷◌, ◌++◌, refl, sym, ap, ◌∙◌, arith}
use Rattle.quick_cache_model.specs.Hooks.{Rules, HookCall, BeforeEvict}
use Rattle.quick_cache_model.specs.Admission.{Admission, Admitted, TooHeavy, ChecksAdmission, PassesCheck}

-- the value that a check leaves, and whether it admitted it
abbrev value_of : {V : Type 0} → Admission V → V
value_of (Admitted value) = value
value_of (TooHeavy value) = value

abbrev was_admitted : {V : Type 0} → Admission V → Bool
was_admitted (Admitted _) = true
was_admitted (TooHeavy _) = false

module _ {K V : Type 0} where
  -- the value that the first call left, if it was of `before_evict`
  abbrev left_first : V → List (HookCall K V) → V
  left_first other (BeforeEvict key value left ∷ _) = left
  left_first other _ = other

  module _ (rules : Rules K V) (hot_target : ℕ) (key : K) (value : V) where
    -- two checks of one pair, with calls that begin alike, have one outcome
    one_check : (first one second two : List (HookCall K V)) (left : V) (outcome : Admission V)
        → first ++ one ≡ second ++ two
        → ChecksAdmission rules hot_target key value first (Admitted left)
        → ChecksAdmission rules hot_target key value second outcome → outcome ≡ Admitted left
    one_check _ one _ two _ _ same (ChecksAdmission.is_light light)
        (ChecksAdmission.is_light light') = refl
    one_check _ one _ two _ _ same (ChecksAdmission.is_light light)
        (ChecksAdmission.is_pinned heavy pins) = absurd (omega (arith, light, heavy))
    one_check _ one _ two _ _ same (ChecksAdmission.is_light light)
        (ChecksAdmission.was_lightened left heavy free lightened) =
        absurd (omega (arith, light, heavy))
    one_check _ one _ two _ _ same (ChecksAdmission.is_light light)
        (ChecksAdmission.is_too_heavy left heavy free still) = absurd (omega (arith, light, heavy))
    one_check _ one _ two _ _ same (ChecksAdmission.is_pinned heavy pins)
        (ChecksAdmission.is_light light) = absurd (omega (arith, light, heavy))
    one_check _ one _ two _ _ same (ChecksAdmission.is_pinned heavy pins)
        (ChecksAdmission.is_pinned heavy' pins') = refl
    one_check _ one _ two _ _ same (ChecksAdmission.is_pinned heavy pins)
        (ChecksAdmission.was_lightened left heavy' free lightened) =
        absurd (true≢false (sym pins ∙ free))
    one_check _ one _ two _ _ same (ChecksAdmission.is_pinned heavy pins)
        (ChecksAdmission.is_too_heavy left heavy' free still) =
        absurd (true≢false (sym pins ∙ free))
    one_check _ one _ two _ _ same (ChecksAdmission.was_lightened left heavy free lightened)
        (ChecksAdmission.is_light light) = absurd (omega (arith, light, heavy))
    one_check _ one _ two _ _ same (ChecksAdmission.was_lightened left heavy free lightened)
        (ChecksAdmission.is_pinned heavy' pins) = absurd (true≢false (sym pins ∙ free))
    one_check _ one _ two _ _ same (ChecksAdmission.was_lightened left heavy free lightened)
        (ChecksAdmission.was_lightened left' heavy' free' lightened') =
        ap Admitted (sym (ap (left_first value) same))
    one_check _ one _ two _ _ same (ChecksAdmission.was_lightened left heavy free lightened)
        (ChecksAdmission.is_too_heavy left' heavy' free' still) =
        let weighs = ap (λ v. rules.weight key v) (ap (left_first value) same) in
        absurd (omega (arith, weighs, lightened, still))

    -- what a check says, whose calls are the first of those of a pair that passed
    pub passed_check : (calls first rest : List (HookCall K V)) (left : V) (outcome : Admission V)
        → PassesCheck rules hot_target key value calls left → calls ≡ first ++ rest
        → ChecksAdmission rules hot_target key value first outcome → outcome ≡ Admitted left
    passed_check _ first rest left outcome (PassesCheck.passes first' rest' _ passed) same checks =
        one_check first' rest' first rest left outcome same passed checks

    -- such a check did not end in too heavy
    pub passed_is_not_too_heavy : (calls first rest : List (HookCall K V)) (left heavy : V)
        → PassesCheck rules hot_target key value calls left → calls ≡ first ++ rest
        → ChecksAdmission rules hot_target key value first (TooHeavy heavy) → ⊥
    passed_is_not_too_heavy calls first rest left heavy passed same checks =
        let wrong = passed_check calls first rest left (TooHeavy heavy) passed same checks in
        true≢false (ap was_admitted (sym wrong))

    -- and one that admitted left this value
    pub passed_leaves : (calls first rest : List (HookCall K V)) (left other : V)
        → PassesCheck rules hot_target key value calls left → calls ≡ first ++ rest
        → ChecksAdmission rules hot_target key value first (Admitted other) → other ≡ left
    passed_leaves calls first rest left other passed same checks =
        ap value_of (passed_check calls first rest left (Admitted other) passed same checks)
