-- A ring has a first victim or all of it is pinned, and the cold ring a first candidate or all of
-- it is passed by.
use Rattle.std.proofs.Common.{◌≡◌, ℕ, ◌<◌, ◌≤◌, ◌⊎◌, inl, inr, Bool, true, false, true≢false, List, [], ◌∷◌, ◌++◌, refl, sym, ap, subst}
use Rattle.std.proofs.Common.{◌∙◌, arith}
use Rattle.std.proofs.lemmas.Bool.{cases_lt}
use Rattle.std.specs.List.{AllByRecursion}
use Rattle.quick_cache_model.specs.CacheState.{Item}
use Rattle.quick_cache_model.specs.Hooks.{Rules}
use Rattle.quick_cache_model.specs.Eviction.{pinned, IsFirstVictim, IsPassed}

module _ {K V : Type 0} (rules : Rules K V) where
  -- the first victim of a ring, or that each item is pinned
  pub data Victim (items : List (Item K V)) : Type 0 where
    is_there : (before : List (Item K V)) (item : Item K V) (after : List (Item K V))
        → items ≡ before ++ item ∷ after
        → IsFirstVictim rules before item after → Victim items
    is_absent : AllByRecursion (λ item. pinned rules item ≡ true) items → Victim items

  -- what is asked of the unpinned alone holds of pinned items
  all_pinned_are : (P : Item K V → Type 0) (items : List (Item K V))
      → AllByRecursion (λ item. pinned rules item ≡ true) items
      → AllByRecursion (λ item. pinned rules item ≡ false → P item) items
  all_pinned_are P [] all = tt
  all_pinned_are P (x ∷ xs) all = (
    (λ unpinned. absurd (true≢false (sym all.0 ∙ unpinned))),
    all_pinned_are P xs all.1,
  )

  -- a bound on marks holds below a lesser one
  all_above : (low high : ℕ) → low ≤ high → (items : List (Item K V))
      → AllByRecursion (λ other. pinned rules other ≡ false → high ≤ other.mark) items
      → AllByRecursion (λ other. pinned rules other ≡ false → low ≤ other.mark) items
  all_above low high less [] all = tt
  all_above low high less (x ∷ xs) all = (
    (λ unpinned. let h =
        all.0 unpinned in omega (arith, h, less)),
    all_above low high less xs all.1,
  )

  -- so does a strict one
  all_strictly_above : (low high : ℕ) → low ≤ high → (items : List (Item K V))
      → AllByRecursion (λ other. pinned rules other ≡ false → high < other.mark) items
      → AllByRecursion (λ other. pinned rules other ≡ false → low ≤ other.mark) items
  all_strictly_above low high less [] all = tt
  all_strictly_above low high less (x ∷ xs) all = (
    (λ unpinned. let h = all.0 unpinned in omega (arith, h, less)),
    all_strictly_above low high
        less xs all.1,
  )

  -- what holds before, at and behind an item holds in the whole list
  all_joined : (P : Item K V → Type 0) (before : List (Item K V)) (item : Item K V)
      (after : List (Item K V)) → AllByRecursion P before → P item → AllByRecursion P after
      → AllByRecursion P (before ++ item ∷ after)
  all_joined P [] item after a h b = (h, b)
  all_joined P (x ∷ before) item after a h b = (a.0, all_joined P before item after a.1 h b)

  -- one more item in front of a ring
  victim_unpinned : (x : Item K V) (xs : List (Item K V)) → pinned rules x ≡ false → Victim xs
      → Victim (x ∷ xs)
  victim_unpinned x xs unpinned (is_absent all) =
      is_there [] x xs refl (record {
        unpinned = unpinned;
        earlier = tt;
        later =
            all_pinned_are (λ other. x.mark ≤ other.mark) xs all;
      })
  victim_unpinned x xs unpinned (is_there before item after split first) =
      go (cases_lt item.mark x.mark)
    where
      go : (item.mark < x.mark) ⊎ (x.mark ≤ item.mark) → Victim (x ∷ xs)
      go (inl less) =
          is_there (x ∷ before) item after (ap (λ l. x ∷ l) split)
          (record {
            unpinned = first.unpinned;
            earlier = ((λ _. less), first.earlier);
            later =
                first.later;
          })
      go (inr least) =
          is_there [] x xs refl (record {
            unpinned = unpinned;
            earlier = tt;
            later = subst (λ l. AllByRecursion
                (λ (other : Item K V). pinned rules other ≡ false → x.mark ≤ other.mark) l)
                (sym split)
                (all_joined (λ other. pinned rules other ≡ false → x.mark ≤ other.mark)
                before item after
                (all_strictly_above x.mark item.mark least before first.earlier) (λ _. least)
                (all_above x.mark item.mark least after first.later));
          })

  -- a pinned item in front of a ring changes no victim
  victim_pinned : (x : Item K V) (xs : List (Item K V)) → pinned rules x ≡ true → Victim xs
      → Victim (x ∷ xs)
  victim_pinned x xs is (is_absent all) = is_absent (is, all)
  victim_pinned x xs is (is_there before item after split first) =
      is_there (x ∷ before) item after (ap (λ l. x ∷ l) split)
      (record {
        unpinned = first.unpinned;
        earlier =
            ((λ unpinned. absurd (true≢false (sym is ∙ unpinned))), first.earlier);
        later =
            first.later;
      })

  -- in each ring there is a first victim, or each item is pinned
  pub first_victim : (items : List (Item K V)) → Victim items
  first_victim [] = is_absent tt
  first_victim (x ∷ xs) = go (pinned rules x) refl (first_victim xs)
    where
      go : (b : Bool) → pinned rules x ≡ b → Victim xs → Victim (x ∷ xs)
      go true is rest = victim_pinned x xs is rest
      go false is rest = victim_unpinned x xs is rest

  -- the first candidate of the cold ring, or that each item is passed by
  pub data Candidate (items : List (Item K V)) : Type 0 where
    is_marked : (before : List (Item K V)) (item : Item K V) (after : List (Item K V))
        → items ≡ before ++ item ∷ after
        → AllByRecursion (IsPassed rules) before → 0 < item.mark → Candidate items
    is_victim : (before : List (Item K V)) (item : Item K V) (after : List (Item K V))
        → items ≡ before ++ item ∷ after
        → AllByRecursion (IsPassed rules) before → item.mark ≡ 0 → pinned rules item ≡ false
        → Candidate items
    are_passed : AllByRecursion (IsPassed rules) items → Candidate items

  -- an item that is passed by, in front of a ring, changes no candidate
  candidate_behind : (x : Item K V) (xs : List (Item K V)) → IsPassed rules x → Candidate xs
      → Candidate (x ∷ xs)
  candidate_behind x xs passed (is_marked before item after split all marked) =
      is_marked (x ∷ before) item after (ap (λ l. x ∷ l) split) (passed, all) marked
  candidate_behind x xs passed (is_victim before item after split all unmarked unpinned) =
      is_victim (x ∷ before) item after (ap (λ l. x ∷ l) split) (passed, all) unmarked unpinned
  candidate_behind x xs passed (are_passed all) = are_passed (passed, all)

  -- in each ring there is a first candidate, or each item is passed by
  pub first_candidate : (items : List (Item K V)) → Candidate items
  first_candidate [] = are_passed tt
  first_candidate (x ∷ xs) = by_mark (cases_lt 0 x.mark) (first_candidate xs)
    where
      by_pin : (b : Bool) → pinned rules x ≡ b → x.mark ≡ 0 → Candidate xs → Candidate (x ∷ xs)
      by_pin true is unmarked rest = candidate_behind x xs (unmarked, is) rest
      by_pin false is unmarked rest = is_victim [] x xs refl tt unmarked is

      by_mark : (0 < x.mark) ⊎ (x.mark ≤ 0) → Candidate xs → Candidate (x ∷ xs)
      by_mark (inl marked) rest = is_marked [] x xs refl tt marked
      by_mark (inr unmarked) rest = by_pin (pinned rules x) refl (omega (arith, unmarked)) rest
