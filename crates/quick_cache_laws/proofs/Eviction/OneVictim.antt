-- The victim of a hot advance is one: no ring has two items that are the first of the least marked.
use Rattle.std.proofs.Common.{◌≡◌, ◌<◌, ◌≤◌, false, List, [], ◌∷◌, ◌++◌, refl, sym, ap, subst, ◌∙◌, arith}
use Rattle.std.specs.List.{AllByRecursion}
use Rattle.quick_cache_model.specs.CacheState.{Item}
use Rattle.quick_cache_model.specs.Hooks.{Rules}
use Rattle.quick_cache_model.specs.Eviction.{IsFirstVictim, pinned}

-- what holds of each member holds of one that stands between others
pub holds_between
    : {X : Type 0} (P : X → Type 0) (front : List X) (x : X) (back : List X)
    → AllByRecursion P (front ++ x ∷ back) → P x
holds_between P [] x back holds = holds.0
holds_between P (_ ∷ front) x back holds = holds_between P front x back holds.1

-- the first of a list, and what follows it
abbrev pub first_or : {X : Type 0} → X → List X → X
first_or other [] = other
first_or other (x ∷ _) = x

abbrev pub rest_of : {X : Type 0} → List X → List X
rest_of [] = []
rest_of (_ ∷ xs) = xs

module _ {K V : Type 0} (rules : Rules K V) where
  -- no victim follows one that stands first
  none_follows
      : (first : Item K V) (after : List (Item K V)) (x : Item K V) (front : List (Item K V))
      (item : Item K V)
      (back : List (Item K V)) → first ∷ after ≡ x ∷ front ++ item ∷ back
      → IsFirstVictim rules [] first after
      → IsFirstVictim rules (x ∷ front) item back → ⊥
  none_follows first after x front item back same of_first of_item =
      let same_first : first ≡ x = ap (first_or first) same in
      let least : first.mark ≤ item.mark =
      holds_between (λ other. pinned rules other ≡ false → first.mark ≤ other.mark) front item back
      (subst (AllByRecursion (λ other. pinned rules other ≡ false → first.mark ≤ other.mark))
      (ap rest_of same) of_first.later)
      of_item.unpinned in
      let fewer : item.mark < x.mark = of_item.earlier.0
      (ap (pinned rules) (sym same_first) ∙ of_first.unpinned) in
      let marks : first.mark ≡ x.mark = ap (λ item. item.mark) same_first in
      omega (arith, least, fewer, marks)

  -- a victim that does not stand first is one of what follows
  behind_first
      : (x : Item K V) (before : List (Item K V)) (item : Item K V) (after : List (Item K V))
      → IsFirstVictim rules (x ∷ before) item after → IsFirstVictim rules before item after
  behind_first x before item after victim = record {
    unpinned = victim.unpinned;
    earlier = victim.earlier.1;
    later = victim.later;
  }

  -- two that are first victims of one ring are the same, with the same before and behind it
  pub the_first_victim_is_one
      : (before : List (Item K V)) (item : Item K V) (after before' : List (Item K V))
      (item' : Item K V)
      (after' : List (Item K V)) → before ++ item ∷ after ≡ before' ++ item' ∷ after'
      → IsFirstVictim rules before item after → IsFirstVictim rules before' item' after'
      → (before ≡ before') × (item ≡ item') × (after ≡ after')
  the_first_victim_is_one [] item after [] item' after' same one other =
      (refl, ap (first_or item) same, ap rest_of same)
  the_first_victim_is_one [] item after (x ∷ front) item' after' same one other =
      absurd (none_follows item after x front item' after' same one other)
  the_first_victim_is_one (x ∷ front) item after [] item' after' same one other =
      absurd (none_follows item' after' x front item after (sym same) other one)
  the_first_victim_is_one (x ∷ front) item after (y ∷ front') item' after' same one other =
      let same_first : x ≡ y = ap (first_or x) same in
      let rest = the_first_victim_is_one front item after front' item' after' (ap rest_of same)
      (behind_first x front item after one) (behind_first y front' item' after' other) in
      ((λ i. same_first i ∷ rest.0 i), rest.1, rest.2)

-- where a list is parted at the first that is not of a kind, it is parted so in one way
pub the_first_taken_is_one
    : {X : Type 0} (P : X → Type 0) (before : List X) (x : X) (after before' : List X) (x' : X)
    (after' : List X)
    → before ++ x ∷ after ≡ before' ++ x' ∷ after' → AllByRecursion P before → (P x → ⊥)
    → AllByRecursion P before'
    → (P x' → ⊥) → (before ≡ before') × (x ≡ x') × (after ≡ after')
the_first_taken_is_one P [] x after [] x' after' same passed taken passed' taken' =
    (refl, ap (first_or x) same, ap rest_of same)
the_first_taken_is_one P [] x after (y ∷ front) x' after' same passed taken passed' taken' =
    absurd (taken (subst P (sym (ap (first_or x) same)) passed'.0))
the_first_taken_is_one P (y ∷ front) x after [] x' after' same passed taken passed' taken' =
    absurd (taken' (subst P (ap (first_or y) same) passed.0))
the_first_taken_is_one P (y ∷ front) x after (y' ∷ front')
    x' after' same passed taken passed' taken' =
    let same_first : y ≡ y' = ap (first_or y) same in
    let rest = the_first_taken_is_one P front x after front' x' after' (ap rest_of same)
    passed.1 taken passed'.1 taken' in
    ((λ i. same_first i ∷ rest.0 i), rest.1, rest.2)
