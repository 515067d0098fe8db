-- The calls of a seat.
use Rattle.std.proofs.Common.{cond, ◌≡◌, ◌==◌, ℕ, Bool, true, false, List, [], ◌∷◌, ◌++◌, refl, ap, sym, ◌∙◌, if◌then◌else◌}
use Rattle.std.proofs.lemmas.List.{append-nil}
use Rattle.std.proofs.lemmas.List.Elements.{filter-append}
use mathlib.Core.List.{IsPrefix}
use Rattle.quick_cache_history.specs.declared.entry.Entry.{Entry}
use Rattle.quick_cache_history.specs.Histories.{is_in, calls_in, calls_from, turn_after, next_of}
use Rattle.quick_cache_history.specs.Laws.{AddsBehind}
use Rattle.quick_cache_history.proofs.PrefixLemmas.{prefix-trans}

module _ {K V : Type 0} where
  -- The calls of who had a turn first, and the turn after them, of a list that goes on.
  pub calls_from-append : (turn : ℕ) (xs ys : List (Entry K V))
      → calls_from turn (xs ++ ys) ≡ calls_from turn xs ++ calls_from (turn_after turn xs) ys
  calls_from-append turn [] ys = refl
  calls_from-append turn (Entry.Opened options sizes ∷ xs) ys = calls_from-append turn xs ys
  calls_from-append turn (Entry.Made own next shard call reply ∷ xs) ys =
      by (own == turn) (calls_from-append next xs ys) (calls_from-append turn xs ys)
    where
      by : (b : Bool)
          → calls_from next (xs ++ ys) ≡ calls_from next xs ++ calls_from (turn_after next xs) ys
          → calls_from turn (xs ++ ys) ≡ calls_from turn xs ++ calls_from (turn_after turn xs) ys
          → (if b then Entry.Made own next shard call reply ∷ calls_from next (xs ++ ys)
          else calls_from turn (xs ++ ys))
          ≡ (if b then Entry.Made own next shard call reply ∷ calls_from next xs
          else calls_from turn xs)
          ++ calls_from (if b then turn_after next xs else turn_after turn xs) ys
      by true p q = ap (λ l. Entry.Made own next shard call reply ∷ l) p
      by false p q = q

  pub turn_after-append : (turn : ℕ) (xs ys : List (Entry K V))
      → turn_after turn (xs ++ ys) ≡ turn_after (turn_after turn xs) ys
  turn_after-append turn [] ys = refl
  turn_after-append turn (Entry.Opened options sizes ∷ xs) ys = turn_after-append turn xs ys
  turn_after-append turn (Entry.Made own next shard call reply ∷ xs) ys =
      by (own == turn) (turn_after-append next xs ys) (turn_after-append turn xs ys)
    where
      by : (b : Bool)
          → turn_after next (xs ++ ys) ≡ turn_after (turn_after next xs) ys
          → turn_after turn (xs ++ ys) ≡ turn_after (turn_after turn xs) ys
          → (if b then turn_after next (xs ++ ys) else turn_after turn (xs ++ ys))
          ≡ turn_after (if b then turn_after next xs else turn_after turn xs) ys
      by true p q = p
      by false p q = q

  -- where no call is in the turn, there are none, and it stays the turn
  pub none_from : (turn : ℕ) (xs : List (Entry K V)) → calls_in turn xs ≡ []
      → (calls_from turn xs ≡ []) × (turn_after turn xs ≡ turn)
  none_from turn [] none = (refl, refl)
  none_from turn (Entry.Opened options sizes ∷ xs) none = none_from turn xs none
  none_from turn (Entry.Made own next shard call reply ∷ xs) none =
      by (own == turn) none (λ e. none_from turn xs e)
    where
      by : (b : Bool)
          → cond b (Entry.Made own next shard call reply ∷ calls_in turn xs) (calls_in turn xs) ≡ []
          → (calls_in turn xs ≡ [] → (calls_from turn xs ≡ []) × (turn_after turn xs ≡ turn))
          → ((if b then Entry.Made own next shard call reply ∷ calls_from next xs
          else calls_from turn xs) ≡ [])
          × ((if b then turn_after next xs else turn_after turn xs) ≡ turn)
      by true e rest = absurd (cc e)
      by false e rest = rest e

  -- a call in the turn is one more, and gives the next
  pub one_from : (turn : ℕ) (entry : Entry K V) → is_in turn entry ≡ true
      → (calls_from turn (entry ∷ []) ≡ entry ∷ []) × (turn_after turn (entry ∷ []) ≡ next_of entry)
  one_from turn (Entry.Opened options sizes) is = absurd (cc is)
  one_from turn (Entry.Made own next shard call reply) is = by (own == turn) is
    where
      by : (b : Bool) → b ≡ true
          → ((if b then Entry.Made own next shard call reply ∷ [] else [])
          ≡ Entry.Made own next shard call reply ∷ [])
          × ((if b then next else turn) ≡ next)
      by true e = (refl, refl)
      by false e = absurd (cc e)

-- what two lists together lack, the second lacks
tail_none : {X : Type 0} (xs ys : List X) → xs ++ ys ≡ [] → ys ≡ []
tail_none [] ys none = none
tail_none (x ∷ xs) ys none = absurd (cc none)

-- what was added behind more was added behind less
pub AddsBehind-less : {K V : Type 0} (shard calls turn : ℕ) (entry : Entry K V)
    (less old new : List (Entry K V)) → IsPrefix less old
    → AddsBehind shard calls turn entry old new → AddsBehind shard calls turn entry less new
AddsBehind-less shard calls turn entry less old new p behind = record {
  before = behind.before;
  longer = prefix-trans less old behind.before p behind.longer;
  count = behind.count;
  unused = behind.unused;
  ends = behind.ends;
}

-- A call behind all that a seat has seen, in its turn, is one more of its own.
module _ {K V : Type 0} (shard calls turn : ℕ) (entry : Entry K V) (is : is_in turn entry ≡ true)
    (old new : List (Entry K V)) (behind : AddsBehind shard calls turn entry old new) (first : ℕ)
    (own : List (Entry K V)) (earlier : IsPrefix own old) (at : turn_after first own ≡ turn) where
  its_own : IsPrefix own behind.before
  its_own = prefix-trans own old behind.before earlier behind.longer

  -- none of its calls came since its last
  none_since : calls_in turn its_own.0 ≡ []
  none_since = tail_none (calls_in turn own) (calls_in turn its_own.0)
      (sym (filter-append (is_in turn) own its_own.0) ∙ ap (calls_in turn) its_own.1
      ∙ behind.unused)

  same_turn : turn_after first behind.before ≡ turn
  same_turn = ap (turn_after first) (sym its_own.1)
      ∙ turn_after-append first own its_own.0
      ∙ ap (λ t. turn_after t its_own.0) at ∙ (none_from turn its_own.0 none_since).1

  same_calls : calls_from first behind.before ≡ calls_from first own
  same_calls = ap (calls_from first) (sym its_own.1)
      ∙ calls_from-append first own its_own.0
      ∙ ap (λ t. calls_from first own ++ calls_from t its_own.0) at
      ∙ ap (λ l. calls_from first own ++ l) (none_from turn its_own.0 none_since).0
      ∙ append-nil (calls_from first own)

  pub AddsBehind-mine : calls_from first new ≡ calls_from first own ++ entry ∷ []
  AddsBehind-mine =
      ap (calls_from first) behind.ends ∙ calls_from-append first behind.before (entry ∷ [])
      ∙ ap (λ t. calls_from first behind.before ++ calls_from t (entry ∷ [])) same_turn
      ∙ ap (λ l. calls_from first behind.before ++ l) (one_from turn entry is).0
      ∙ ap (λ l. l ++ entry ∷ []) same_calls

  pub AddsBehind-turn : turn_after first new ≡ next_of entry
  AddsBehind-turn = ap (turn_after first) behind.ends
      ∙ turn_after-append first behind.before (entry ∷ [])
      ∙ ap (λ t. turn_after t (entry ∷ [])) same_turn ∙ (one_from turn entry is).1
