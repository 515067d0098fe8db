-- The item of the least token above one, as a shard shows it.
use Rattle.std.proofs.Common.{◌≡◌, ℕ, ◌<◌, ◌∷◌, Option, Some, None, MatchOption, inl, inr, refl, sym, ap, subst, ◌∙◌, arith}
use Rattle.std.specs.List.{Contains}
use Rattle.std.specs.List.Sorted.{IsPermutation}
use Rattle.std.specs.Int.NonZero.{non_zero_u32_get as number}
use Rattle.std.specs.Option.{option_map}
use Rattle.std.specs.declared.num.NonZeroU32.{NonZeroU32 as Token}
use Rattle.std.proofs.lemmas.Bool.{cases_eq, cases_lt}
use Rattle.quick_cache_model.specs.CacheState.{Item}
use Rattle.quick_cache_store.specs.Lists.{Lists, AreApart, IsFirstAbove, IsItemOf, HasItemToken}
use Rattle.quick_cache_policy.specs.declared.contents.Contents.{Contents}
use Rattle.quick_cache_policy.specs.Places.{places_of}
use Rattle.quick_cache_policy.specs.Tokens.{TakesToken}
use Rattle.quick_cache_shard.specs.PlaceWalks.{IsNextPlace, EndsAt}
use Rattle.quick_cache_shard.proofs.PlaceLemmas.{HasItem-place, place-held, place-item, place-leaves}

module _ {K V P : Type 0} (lists : Lists K V P) where
  -- where no item has the token 0, each stands above it
  pub numbered-places : ¬ HasItemToken lists 0 → (place : ℕ × K) → Contains (places_of lists) place
      → 0 < place.0
  numbered-places numbered place there = elim (cases_eq place.0 0) [
    | inl none ↦
        let of = place-held lists place there in
        absurd (numbered (of.0, of.1, ap (λ (p : ℕ × K). p.0) of.2 ∙ none))
    | inr some ↦ omega (arith, some)
  ]

module _ {K V P : Type 0} (lists : Lists K V P) (after : ℕ) where
  -- no item stands above
  pub none-ends : (first : Option Token) → first ≡ None → IsFirstAbove lists after first
      → EndsAt (places_of lists) after
  none-ends first none is other there = elim (cases_lt after other.0) [
    | inl above ↦ absurd (is.none none other.0 above (place-item lists other.0 other.1 there))
    | inr below ↦ omega (arith, below)
  ]

  -- the item of the least token above stands at the next place
  pub first-next : (first : Option Token) (token : Token) → first ≡ Some token
      → IsFirstAbove lists after first → (item : Item K V) → IsItemOf lists (number token) item
      → IsNextPlace (places_of lists) after (number token, item.key)
  first-next first token some is item stands = record {
    there = HasItem-place lists
        (record { token = number token; hash = stands.0; item = item }) stands.1;
    above = (is.found token some).0;
    least = λ other there above. elim (cases_lt other.0 (number token)) [
      | inl below ↦ absurd (is.least token other.0 some above below
          (place-item lists other.0 other.1 there))
      | inr from ↦ omega (arith, from)
    ];
  }

module _ {K V P W A T : Type 0} (old new : Contents K V W A T P) (apart : AreApart old.lists)
    (after : ℕ) where
  -- the item that goes is the next, or there was none
  pub removed-next : (same : Type 0) → (new ≡ old → same) → (taken : Option (Token × K × V))
      → IsFirstAbove old.lists after (option_map (λ t. t.0) taken)
      → MatchOption taken (new ≡ old) (λ t. TakesToken old (number t.0) (t.1, t.2) new)
      → MatchOption taken (EndsAt (places_of old.lists) after × same)
      (λ t. IsNextPlace (places_of old.lists) after (number t.0, t.1)
      × IsPermutation (places_of old.lists) ((number t.0, t.1) ∷ places_of new.lists))
  removed-next same to None first is = (none-ends old.lists after None refl first, to is)
  removed-next same to (Some t) first takes =
      let key : t.1 ≡ takes.item.key = ap (λ (p : K × V). p.0) takes.gives in (
        subst (λ k. IsNextPlace (places_of old.lists) after (number t.0, k)) (sym key)
            (first-next old.lists after (Some t.0) t.0 refl first takes.item takes.stood),
        subst (λ k. IsPermutation (places_of old.lists) ((number t.0, k) ∷ places_of new.lists))
            (sym key)
            (subst (λ (s : Contents K V W A T P). IsPermutation (places_of old.lists)
            ((number t.0, takes.item.key) ∷ places_of s.lists)) (sym takes.rest)
            (place-leaves old.lists apart (number t.0) takes.item takes.stood)),
      )
