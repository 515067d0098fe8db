-- The next item of a walk that goes on right before a token.
use Rattle.std.proofs.Common.{◌≡◌, ℕ, ◌-◌, ◌+◌, ◌<◌, List, Option, Some, None, MatchOption, subst, arith}
use Rattle.std.specs.List.{Contains}
use Rattle.std.specs.Int.NonZero.{non_zero_u32_get}
use Rattle.std.specs.declared.num.NonZeroU32.{NonZeroU32 as Token}
use Rattle.quick_cache_model.specs.CacheState.{Item}
use Rattle.quick_cache_shard.specs.PlaceWalks.{EndsAt, IsNextPlace}
use Rattle.quick_cache_shard.specs.WalksFrom.{WalkFrom, number_or_zero}

-- the token before one, or none before the first
pub number-before : (number : ℕ) → 0 < number → (before : Option Token)
    → MatchOption before (number - 1 ≡ 0) (λ t. non_zero_u32_get t ≡ number - 1)
    → number_or_zero before + 1 ≡ number
number-before number some None none = omega (arith, some, none)
number-before number some (Some token) is = omega (arith, some, is)

module _ {K V : Type 0} (places : List (ℕ × K)) (residents : List (Item K V)) (after : ℕ)
    (begun : WalkFrom K V)
    (begins : begun ≡ record { places = places; residents = residents; after = after })
    (place : ℕ × K) (there : Contains places place) (right_before : after + 1 ≡ place.0) where
  -- it has the token
  pub next-token : (next : ℕ × K) → IsNextPlace begun.places begun.after next → next.0 ≡ place.0
  next-token next is =
      let first = subst (λ (w : WalkFrom K V). IsNextPlace w.places w.after next) begins is in
      let above = first.above in
      let least = first.least place there (omega (arith, right_before)) in
      omega (arith, right_before, above, least)

  -- and there is one
  pub not-at_end : EndsAt begun.places begun.after → ⊥
  not-at_end ends =
      let last = subst (λ (w : WalkFrom K V). EndsAt w.places w.after) begins ends place there in
      absurd (omega (arith, right_before, last))
