-- A place that a pair leaves, and reaches that get shorter.
use Rattle.std.proofs.Common.{◌≡◌, ◌≢◌, ℕ, ◌+◌, ◌-◌, ◌*◌, ◌/◌, ◌%◌, ◌<◌, ◌≤◌, false, List, length, get_or, set, refl, sym, ap, subst, ◌∙◌}
use Rattle.std.proofs.Common.{inl, inr, arith}
use Rattle.std.specs.Int.Bits.{bit_xor}
use Rattle.std.proofs.lemmas.List.{length-set}
use Rattle.quick_cache_containers.specs.Places.{Place}
use Rattle.quick_cache_index.specs.Index.{home_of, distance}
use Rattle.quick_cache_containers.specs.TableGroups.{hash_at, is_free, holds_pair, place_at, HasOneMore}
use Rattle.quick_cache_index.proofs.Distances.{xor-back}
use Rattle.quick_cache_index.proofs.CountedTokens.{equal_or_not, bit}
use Rattle.quick_cache_containers.proofs.CountedPlaces.{count_by-set, length-pairs_of, holds_pair-free, holds_pair-taken}

-- the pairs of a home are at most so far from it, of those that it reached
abbrev pub AreWithin : List Place → List ℕ → ℕ → ℕ → ℕ → Type 0
AreWithin places reaches mask home step =
    (position : ℕ) → position < length places → 0 < (place_at places position).token
    → home_of mask (hash_at (place_at places position)) ≡ home
    → distance home position ≤ get_or reaches home 0 → distance home position ≤ step

-- one step less, where no pair of that home is in the group at that distance
pub AreWithin-less : (places : List Place) (reaches : List ℕ) (mask home step : ℕ)
    → AreWithin places reaches mask home step → step ≢ 0 →
    ((lane : ℕ) → lane < 16 → 0 < (place_at places (16 * bit_xor home step + lane)).token → home_of mask (hash_at (place_at places (16 * bit_xor home step + lane))) ≡ home → ⊥)
    → AreWithin places reaches mask home (step - 1)
AreWithin-less places reaches mask home step within some none position inside taken at reached =
    let near : distance home position ≤ step = within position inside taken at reached in
    elim (equal_or_not (distance home position) step) [
      | inl same ↦
          let group : bit_xor home step ≡ position / 16 =
          ap (bit_xor home) (sym same) ∙ xor-back home (position / 16) in
          let place : 16 * bit_xor home step + position % 16 ≡ position = omega (arith, group) in
          let P : ℕ → Type 0 = λ p. 0 < (place_at places p).token in
          let Q : ℕ → Type 0 = λ p. home_of mask (hash_at (place_at places p)) ≡ home in
          absurd
          (none (position % 16) (omega arith) (subst P (sym place) taken) (subst Q (sym place) at))
      | inr other ↦ omega (arith, near, other, some)
    ]

-- a place that is taken gives its pair up, whatever hash it keeps
pub HasOneMore-leave : (places : List Place) (position hash : ℕ) → position < length places
    → is_free (place_at places position) ≡ false → HasOneMore
    (set places position (record { hash = hash; token = 0 })) places (hash_at (place_at places position))
    (place_at places position).token
HasOneMore-leave places position hash inside taken =
    let left : Place = record { hash = hash; token = 0 } in
    let many = length-set places position left in
    let free_count = count_by-set is_free places position left inside in
    record {
      places = sym many;
      pairs =
          λ h k. omega (
            arith,
            count_by-set (holds_pair h k) places position left inside,
            holds_pair-free h k left refl,
            holds_pair-taken h k (place_at places position)
                taken,
          );
      taken =
          omega (
            arith,
            free_count,
            ap bit taken,
            length-pairs_of places,
            length-pairs_of
                (set places position left),
            many,
          );
    }
