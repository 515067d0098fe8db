-- One who withdraws waits no more.
use Rattle.std.proofs.Common.{◌≡◌, ℕ, ◌==◌, Bool, true, false, not, ◌&&◌, ◌||◌, List, [], ◌∷◌, ◌++◌, inl, inr, refl, sym, cond, arith}
use Rattle.std.proofs.Common.{MatchBool}
use Rattle.std.proofs.lemmas.Bool.Decides.{nat_tests}
use Rattle.quick_cache_loading.specs.Waiting.{has, without_waiter, is_distinct}
use Rattle.quick_cache_loading.specs.Core.{Life, Loading, Filled, GivenUp, CoreState, core_state, is_handed_to, is_sound, waits}
use Rattle.quick_cache_loading.specs.LoadingStep.{Cancels, PassesOn, Withdraws}
use Rattle.quick_cache_loading.specs.declared.protocol.life.Holder.{Holder}
use Rattle.quick_cache_loading.specs.declared.protocol.events.Answer.{Answer}

-- one that is taken out of a list is not in it
has-without_itself : (n : ℕ) (ws : List ℕ) → has n (without_waiter n ws) ≡ false
has-without_itself n [] = refl
has-without_itself n (w ∷ ws) = by_cases (w == n) refl (has-without_itself n ws) where
  by_cases : (b : Bool) → (w == n) ≡ b → has n (without_waiter n ws) ≡ false
      → has n (cond (not b) (w ∷ without_waiter n ws) (without_waiter n ws)) ≡ false
  by_cases true is rest = rest
  by_cases false is rest = rw is rest

-- one that is not in a list is not in the part of it before its end
has-front : (n m : ℕ) (ws : List ℕ) → has n (ws ++ m ∷ []) ≡ false → has n ws ≡ false
has-front n m [] absent = refl
has-front n m (w ∷ ws) absent = by_cases (w == n) absent (has-front n m ws) where
  by_cases : (b : Bool) → (b || has n (ws ++ m ∷ [])) ≡ false
      → (has n (ws ++ m ∷ []) ≡ false → has n ws ≡ false) → (b || has n ws) ≡ false
  by_cases true absent rest = absurd (cc)
  by_cases false absent rest = rest absent

-- the one to whom the guard was handed is not among those who wait
pub handed-absent : (h : Holder) (ws : List ℕ) (n : ℕ)
    → is_sound {V = Unit {0}} (Loading h ws) ≡ true → is_handed_to h n ≡ true → has n ws ≡ false
handed-absent Holder.Held ws n sound handed = absurd (cc)
handed-absent (Holder.HandedTo m) ws n sound handed =
    let same : m ≡ n = grind (arith, nat_tests) in
    rw (sym same) (by_cases (has m ws) (is_distinct ws) sound) where
      by_cases : (a b : Bool) → (not a && b) ≡ true → a ≡ false
      by_cases true b e = absurd (cc)
      by_cases false b e = refl

module _ {V : Type 0} where
  withdrawn-loading : (h : Holder) (ws : List ℕ) (n : ℕ) (old : CoreState V) (a : Answer V)
      (new : CoreState V) → old.life ≡ Loading h ws → is_sound {V = V} (Loading h ws) ≡ true
      → (b : Bool) → is_handed_to h n ≡ b
      → MatchBool b (PassesOn ws old a new) (Withdraws Answer.Done h ws n old a new)
      → waits n new ≡ false
  withdrawn-loading h ws n old a new life sound true handed (inl ended) = rw ended.2 refl
  withdrawn-loading h ws n old a new life sound true handed (inr on) =
      let absent = handed-absent h ws n sound handed in
      rw on.4 (has-front n on.1 on.0 (rw on.2 at absent))
  withdrawn-loading h ws n old a new life sound false handed steps =
      by_cases (has n ws) refl steps where
        by_cases : (b : Bool) → has n ws ≡ b
            → MatchBool b
            ((a ≡ Answer.Done) × (new ≡ core_state (Loading h (without_waiter n ws)) old.in_shard))
            ((a ≡ Answer.NotNow) × (new ≡ old))
            → waits n new ≡ false
        by_cases true there left = rw left.1 (has-without_itself n ws)
        by_cases false there none = rw (none.1, life) there

  -- whatever the life, who cancels waits no more
  pub withdrawn : (life : Life V) (n : ℕ) (old : CoreState V) (a : Answer V) (new : CoreState V)
      → old.life ≡ life → is_sound life ≡ true → Cancels life n old a new → waits n new ≡ false
  withdrawn (Loading h ws) n old a new is sound step =
      withdrawn-loading h ws n old a new is sound (is_handed_to h n) refl step
  withdrawn (Filled v) n old a new is sound step = rw (step.1, is) refl
  withdrawn GivenUp n old a new is sound step = rw (step.1, is) refl
