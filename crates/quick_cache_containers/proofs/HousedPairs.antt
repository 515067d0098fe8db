-- Pairs that move, and a list of places that grows: each pair keeps its tag and its reach.
use Rattle.std.proofs.Common.{◌≡◌, ◌≢◌, ℕ, ◌+◌, ◌-◌, ◌*◌, ◌^◌, ◌<◌, ◌≤◌, List, ◌++◌, length, replicate, get_or, set, refl, sym, ap, subst}
use Rattle.std.proofs.Common.{◌∙◌, inl, inr, arith}
use Rattle.std.specs.Int.{IsPowerOfTwo}
use Rattle.std.specs.Int.Bits.{bit_and}
use Rattle.std.specs.List.{swap}
use Rattle.std.proofs.lemmas.Bool.Decides.{leb_tells}
use Rattle.std.proofs.lemmas.List.{length-set, length-append, length-replicate, get_or_past, get_or-set_same, get_or-set_other}
use Rattle.std.proofs.lemmas.List.Edits.{length-swap, swapped_from_swap}
use Rattle.std.proofs.lemmas.List.Folds.{sum_by-replicate}
use Rattle.std.proofs.lemmas.List.Sorted.{IsPermutation-swap, sum_by-IsPermutation}
use Rattle.std.proofs.lemmas.List.Sums.{sum_by-append}
use Rattle.quick_cache_containers.specs.Places.{Place}
use Rattle.quick_cache_index.specs.Index.{tag_of, IsReached}
use Rattle.quick_cache_index.specs.IndexGroups.{ReachesGrow}
use Rattle.quick_cache_containers.specs.TableGroups.{hash_at, is_free, holds_pair, place_at, empty_place, IsHoused, IsHousedAt, IsBareBelow}
use Rattle.quick_cache_containers.specs.TableGroups.{HasSamePairs}
use Rattle.quick_cache_model.proofs.PowersOfTwo.{IsPowerOfTwo-pos}
use Rattle.quick_cache_index.proofs.CountedTokens.{bit, equal_or_not, tag_of-pos}
use Rattle.quick_cache_containers.proofs.CountedPlaces.{length-pairs_of}

-- two places change their pairs
pub HasSamePairs-swap : (places : List Place) (p q : ℕ) → p < length places → q < length places
    → HasSamePairs places (swap places p q)
HasSamePairs-swap places p q p_in q_in =
    let moved = IsPermutation-swap places (swap places p q) p q p_in q_in refl in
    record {
      pairs =
          λ h k. sum_by-IsPermutation (λ y. bit (holds_pair h k y)) places (swap places p q) moved;
      taken =
          omega (
            arith,
            length-pairs_of places,
            length-pairs_of (swap places p q),
            length-swap
                places p q,
            sum_by-IsPermutation (λ y. bit (is_free y)) places (swap places p q) moved,
          );
    }

pub HasSamePairs-then : (old mid new : List Place) → HasSamePairs old mid → HasSamePairs mid new
    → HasSamePairs old new
HasSamePairs-then old mid new first second = record {
  pairs = λ h k. second.pairs h k ∙ first.pairs h k;
  taken = second.taken ∙ first.taken;
}

-- a pair without a tag goes to a place without one and gets its tag there
module _ (tags : List ℕ) (places : List Place) (reaches after : List ℕ) (mask p q : ℕ)
    (housed : IsHoused tags places reaches mask) (bare_p : get_or tags p 0 ≡ 0)
    (bare_q : get_or tags q 0 ≡ 0) (p_in : p < length places) (q_in : q < length tags) where
  -- the tags then
  abbrev tagged : List ℕ
  tagged = set tags q (tag_of (hash_at (place_at places p)))

  -- the places then
  abbrev moved : List Place
  moved = swap places p q

  q_inside : q < length places
  q_inside = omega (arith, q_in, housed.sized.tagged)

  kept_place : (r : ℕ) → r ≢ p → r ≢ q → place_at moved r ≡ place_at places r
  kept_place r off_p off_q =
      (swapped_from_swap places moved p q empty_place p_in q_inside refl).2 r off_p off_q

  pub IsHoused-move : 0 < (place_at places p).token
      → IsReached after mask (hash_at (place_at places p)) q → ReachesGrow reaches after
      → ((group : ℕ) → get_or after group 0 ≤ mask) → IsHoused tagged moved after mask
  IsHoused-move taken reached grow near = record {
    sized = record {
      groups = λ some. grow.0 ∙ housed.sized.groups (omega (arith, some, grow.0));
      sixteen = omega (arith, length-swap places p q, housed.sized.sixteen, grow.0);
      tagged =
          omega (
            arith,
            length-swap places p q,
            length-set tags q
                (tag_of (hash_at (place_at places p))),
            housed.sized.tagged,
          );
      power = housed.sized.power;
      few = housed.sized.few;
      near = near;
    };
    housed = λ r inside has_tag. elim (equal_or_not r q) [
      | inl same ↦
          let here : place_at moved q ≡ place_at places p =
          (swapped_from_swap places moved p q empty_place p_in q_inside refl).1 in
          let at_q : IsHousedAt tagged after mask (place_at places p) q = record {
            taken = taken;
            tag = get_or-set_same tags q (tag_of (hash_at (place_at places p))) 0 q_in;
            reached = reached;
          } in
          subst (λ n. IsHousedAt tagged after mask (place_at moved n) n) (sym same)
          (subst (λ place. IsHousedAt tagged after mask place q) (sym here) at_q)
      | inr other ↦
          let tag_is = get_or-set_other tags q r (tag_of (hash_at (place_at places p))) 0 other in
          let had_tag : 0 < get_or tags r 0 = omega (arith, has_tag, tag_is) in
          let off_p : r ≢ p =
          λ e. absurd (omega (arith, had_tag, ap (λ n. get_or tags n 0) e, bare_p)) in
          let before = housed.housed r (omega (arith, inside, length-swap places p q)) had_tag in
          let at_r : IsHousedAt tagged after mask (place_at places r) r = record {
            taken = before.taken;
            tag = tag_is ∙ before.tag;
            reached =
                omega (arith, before.reached, grow.1 (bit_and (hash_at (place_at places r)) mask));
          } in
          subst (λ place. IsHousedAt tagged after mask place r) (sym (kept_place r off_p other))
          at_r
    ];
  }

  -- the places before it stay bare
  pub IsBareBelow-move : IsBareBelow tags places p → IsBareBelow tagged moved p
  IsBareBelow-move bare r below untagged =
      let other : r ≢ q =
      λ e. absurd (omega (
        arith,
        tag_of-pos (hash_at (place_at places p)),
        get_or-set_same tags
            q (tag_of (hash_at (place_at places p))) 0 q_in,
        ap (λ n. get_or tagged n 0) e,
        untagged,
      ))
      in
      let tag_is = get_or-set_other tags q r (tag_of (hash_at (place_at places p))) 0 other in
      ap (λ (place : Place). place.token)
      (kept_place r (λ e. absurd (omega (arith, e, below))) other) ∙ bare r below
      (sym tag_is ∙ untagged)

-- more places without a pair have no more pairs
HasSamePairs-free : (places : List Place) (n : ℕ)
    → HasSamePairs places (places ++ replicate n empty_place)
HasSamePairs-free places n =
    let free = replicate n empty_place in
    record {
      pairs =
          λ h k. omega (
            arith,
            sum_by-append (λ y. bit (holds_pair h k y)) places free,
            sum_by-replicate (λ y. bit (holds_pair h k y)) n empty_place,
          );
      taken =
          omega (
            arith,
            length-pairs_of places,
            length-pairs_of (places ++ free),
            length-append
                places free,
            length-replicate n empty_place,
            sum_by-append (λ y. bit (is_free y)) places
                free,
            sum_by-replicate (λ y. bit (is_free y)) n empty_place,
          );
    }

-- a list of places that was filled up has the same pairs
pub HasSamePairs-filled : (old new : List Place) (n : ℕ) → new ≡ old ++ replicate n empty_place
    → HasSamePairs old new
HasSamePairs-filled old new n is = subst (HasSamePairs old) (sym is) (HasSamePairs-free old n)

-- numbers that are 0 at each position are 0 past them, too
pub zero_past : (xs : List ℕ) (n : ℕ) → length xs ≡ n → ((k : ℕ) → k < n → get_or xs k 0 ≡ 0)
    → (k : ℕ) → get_or xs k 0 ≡ 0
zero_past xs n long zeros k =
    elim (leb_tells n k)
    [ inl t ↦ get_or_past xs k 0 (omega (arith, long, t.1)) | inr t ↦ zeros k (omega (arith, t.1)) ]

-- where there is no tag, no pair is to be housed
pub IsHoused-untagged : (tags : List ℕ) (places : List Place) (reaches : List ℕ) (count : ℕ)
    → IsPowerOfTwo count → count ≤ 2 ^ 29 → length tags ≡ 16 * count → length places ≡ 16 * count
    → length reaches ≡ count → ((k : ℕ) → get_or tags k 0 ≡ 0) → ((k : ℕ) → get_or reaches k 0 ≡ 0)
    → IsHoused tags places reaches (count - 1)
IsHoused-untagged tags places reaches count power few tagged placed reached no_tag no_reach =
    let some = IsPowerOfTwo-pos count power in
    let groups : count ≡ count - 1 + 1 = omega (arith, some) in
    record {
      sized = record {
        groups = λ _. reached ∙ groups;
        sixteen = omega (arith, placed, reached);
        tagged = omega (arith, tagged, placed);
        power = subst IsPowerOfTwo groups power;
        few = omega (arith, few, some);
        near = λ group. omega (arith, no_reach group);
      };
      housed = λ position inside tag. absurd (omega (arith, tag, no_tag position));
    }
