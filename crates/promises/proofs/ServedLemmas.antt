-- A text of two lines, of which the first is empty and the second is bad.
use Rattle.std.proofs.Common.{◌≡◌, ◌+◌, ◌∙◌, ℕ, Bool, true, false, List, [], ◌∷◌, ◌++◌, length, Option, All, append_assoc, refl, sym, ap}
use Rattle.std.proofs.Common.{subst, arith}
use Rattle.std.specs.List.{AllByRecursion}
use Rattle.std.proofs.lemmas.List.Elements.{All-head, recursion_from_All}
use Rattle.quick_cache_model.specs.Hooks.{Rules}
use Rattle.quick_cache_model.proofs.EachElement.{all-middle}
use Rattle.quick_cache_shard.specs.Shard.{Shard}
use Rattle.qcrun_parts.specs.declared.command.Command.{Command}
use Rattle.qcrun_parts.specs.Commands.{IsLineOf}
use Rattle.qcrun_parts.specs.Lines.{IsInLine, IsFirstLine}
use Rattle.qcrun_parts.specs.Runs.{ServesLine, ServesText, bad_line}

module _ {We B L A : Type 0} (rules : Shard ℕ ℕ We B L → Rules ℕ ℕ) where
  -- an empty line is not bad
  pub never-bad : (old new : Option (Shard ℕ ℕ We B L)) (printed : List ℕ)
      → ServesLine A rules old [] false new printed → ⊥
  never-bad _ _ _ (ServesLine.lacks_cache command new some is serves) = some refl
  never-bad _ _ _ (ServesLine.is_no_command some none) = some refl

  -- and one that is no command is not served
  pub never-served : (line : List ℕ) → (line ≡ [] → ⊥)
      → ((command : Command) → IsLineOf line command → ⊥)
      → (old new : Option (Shard ℕ ℕ We B L)) (printed : List ℕ)
      → ServesLine A rules old line true new printed → ⊥
  never-served line some none _ _ _ (ServesLine.is_empty is) = some is
  never-served line some none _ _ _ (ServesLine.serves command outcome new is serves others) =
      none command is

module _ {S : Type 0} (serves_line : S → List ℕ → Bool → S → List ℕ → Type 0) (line : List ℕ)
    (is_line : All IsInLine line) (some : line ≡ [] → ⊥)
    (empty : (old new : S) (printed : List ℕ) → serves_line old [] false new printed → ⊥)
    (bad : (old new : S) (printed : List ℕ) → serves_line old line true new printed → ⊥) where
  first-line : (front rest : List ℕ) → IsFirstLine (10 ∷ line) front rest
      → (front ≡ []) × (rest ≡ line)
  first-line [] rest (IsFirstLine.has_end in_line is) = (refl, cc)
  first-line (byte ∷ front) rest (IsFirstLine.has_end in_line is) =
      absurd (All-head IsInLine byte front in_line cc)
  first-line front rest (IsFirstLine.is_last in_line not is none) =
      absurd (All-head IsInLine 10 line (subst (λ (l : List ℕ). All IsInLine l) (sym is) in_line)
      refl)

  second-line : (front rest : List ℕ) → IsFirstLine line front rest → front ≡ line
  second-line front rest (IsFirstLine.has_end in_line is) =
      absurd (all-middle IsInLine front 10 rest
      (subst (λ (l : List ℕ). AllByRecursion IsInLine l) is
      (recursion_from_All IsInLine line is_line)) refl)
  second-line front rest (IsFirstLine.is_last in_line not is none) = sym is

  -- it ends with status 2 and tells of line 2
  abbrev Tells : (status : ℕ) → (printed : List ℕ) → Type 0
  Tells status printed = (before : List ℕ) × (status ≡ 2) × (printed ≡ before ++ bad_line 2)

  from-second : (number : ℕ) (old : S) (text : List ℕ) (status : ℕ) (printed : List ℕ)
      → ServesText serves_line number old text status printed → number ≡ 2 → text ≡ line
      → Tells status printed
  from-second _ _ _ _ _ (ServesText.ends number old) two is = absurd (some (sym is))
  from-second _ _ _ _ _
      (ServesText.goes_on number old mid text front rest printed status more begins serves again)
      two is =
      absurd (bad old mid printed
      (subst (λ (l : List ℕ). serves_line old l true mid printed)
      (second-line front rest (subst (λ (t : List ℕ). IsFirstLine t front rest) is begins)) serves))
  from-second _ _ _ _ _ (ServesText.stops number old new text front rest printed begins serves) two
      is = (printed, refl, ap (λ (n : ℕ). printed ++ bad_line n) two)
  from-second _ _ _ _ _ (ServesText.too_long number old text front rest begins long) two is =
      ([], refl, ap (λ (n : ℕ). bad_line n) two)

  from-first : (number : ℕ) (old : S) (text : List ℕ) (status : ℕ) (printed : List ℕ)
      → ServesText serves_line number old text status printed → number ≡ 1 → text ≡ 10 ∷ line
      → Tells status printed
  from-first _ _ _ _ _ (ServesText.ends number old) one is = absurd cc
  from-first _ _ _ _ _
      (ServesText.goes_on number old mid text front rest printed status more begins serves again)
      one is =
      let at = first-line front rest (subst (λ (t : List ℕ). IsFirstLine t front rest) is begins) in
      let told = from-second (number + 1) mid rest status more again (ap (λ (n : ℕ). n + 1) one)
      at.1 in (
        printed ++ told.0,
        told.1,
        ap (λ (m : List ℕ). printed ++ m) told.2
            ∙ sym (append_assoc printed told.0 (bad_line 2)),
      )
  from-first _ _ _ _ _ (ServesText.stops number old new text front rest printed begins serves) one
      is =
      absurd (empty old new printed
      (subst (λ (l : List ℕ). serves_line old l false new printed)
      (first-line front rest (subst (λ (t : List ℕ). IsFirstLine t front rest) is begins)).0
      serves))
  from-first _ _ _ _ _ (ServesText.too_long number old text front rest begins long) one is =
      absurd (omega (
        arith,
        long,
        ap length
            (first-line front rest (subst (λ (t : List ℕ). IsFirstLine t front rest) is begins)).0,
      ))

  -- whatever else is printed
  pub tells-second : (old : S) (status : ℕ) (printed : List ℕ)
      → ServesText serves_line 1 old (10 ∷ line) status printed
      → (before : List ℕ) × (status ≡ 2) × (printed ≡ before ++ bad_line 2)
  tells-second old status printed serves =
      from-first 1 old (10 ∷ line) status printed serves refl refl
