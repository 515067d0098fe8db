-- A key that stays is shown once, and taken once.
use Rattle.std.proofs.Common.{◌≡◌, inl, inr, ℕ, ◌+◌, ◌<◌, Bool, true, true≢false, cond, List, [], ◌∷◌, refl, sym, ap, ◌∙◌, arith}
use Rattle.std.specs.Cmp.{IsEquivalence}
use Rattle.std.specs.List.{Contains, count_by}
use Rattle.std.specs.Int.NonZero.{non_zero_u32_get}
use Rattle.std.specs.declared.num.NonZeroU32.{NonZeroU32 as Token}
use Rattle.std.proofs.lemmas.Bool.{cases_lt}
use Rattle.std.proofs.lemmas.List.Sums.{sum_by-cons}
use Rattle.std.proofs.lemmas.List.Sorted.{Contains-permutation, IsPermutation-sym}
use Rattle.std.proofs.lemmas.List.Elements.{Contains-append_right}
use Rattle.quick_cache_shard.specs.Copies.{ClonesAreEqual}
use Rattle.quick_cache_shard.specs.PlaceWalks.{WalksBy}
use Rattle.quick_cache_shard.specs.Shard.{Shard}
use Rattle.quick_cache_shard.proofs.PlaceWalkLemmas.{gives-once}
use Rattle.quick_cache_locked.specs.WholeWalks.{DrainTakes, IsAhead, Stays, WalkShows}

module _ {K : Type 0} (equal : K → K → Bool) (key : K) where
  -- two keys that are equal to the key are equal
  both : IsEquivalence equal → (a b : K) → equal key a ≡ true → equal key b ≡ true
      → equal a b ≡ true
  both laws a b of_a of_b = sym (laws.congr key a b of_a) ∙ of_b

  places_of_key-cons : (place : ℕ × K) (given : List (ℕ × K))
      → count_by (λ (p : ℕ × K). equal key p.1) (place ∷ given)
      ≡ cond (equal key place.1) 1 0 + count_by (λ (p : ℕ × K). equal key p.1) given
  places_of_key-cons place given =
      sum_by-cons (λ (p : ℕ × K). cond (equal key p.1) 1 0) place given

  module _ {V : Type 0} where
    -- how many items are of the key
    abbrev items_of_key : List (Token × K × V) → ℕ
    items_of_key items = count_by (λ item. equal key item.1) items

    items_of_key-cons : (item : Token × K × V) (items : List (Token × K × V))
        → items_of_key (item ∷ items) ≡ cond (equal key item.1) 1 0 + items_of_key items
    items_of_key-cons item items =
        sum_by-cons (λ (i : Token × K × V). cond (equal key i.1) 1 0) item items

module _ {K V We B L : Type 0} (equal : K → K → Bool) (laws : IsEquivalence equal) (key : K) where
  module _ (key_clone : K → K → Type 0) (is_clone : V → V → Type 0)
      (clones : ClonesAreEqual equal key_clone) where
    -- A walk over the shard is one over its places, and shows the key as often.
    record Walked (now : Shard K V We B L) (after : ℕ) (shown : List (Token × K × V)) : Type 0 where
      given : List (ℕ × K)
      walks : WalksBy equal key now.places after given
      same : items_of_key equal key shown ≡ count_by (λ place. equal key place.1) given

    walked : (now : Shard K V We B L) (after : ℕ) (shown : List (Token × K × V))
        → WalkShows equal key key_clone is_clone now after shown → Walked now after shown
    walked _ _ _ (WalkShows.ends now after stays end) = record {
      given = [];
      walks = WalksBy.ends now.places after stays end;
      same = refl;
    }
    walked _ _ _ (WalkShows.shows now after item shown stays next rest) =
        let later = walked now (non_zero_u32_get item.0) shown rest in
        let place : ℕ × K = (non_zero_u32_get item.0, next.item.key) in
        let alike : equal key item.1 ≡ equal key next.item.key =
        laws.symm key item.1
        ∙ sym (laws.congr next.item.key item.1 key (clones next.item.key item.1 next.key))
        ∙ laws.symm next.item.key key in record {
          given = place ∷ later.given;
          walks = WalksBy.gives now.places after place later.given stays next.next later.walks;
          same = items_of_key-cons equal key item shown
              ∙ ap (λ b. cond b 1 0 + items_of_key equal key shown) alike
              ∙ ap (λ n. cond (equal key next.item.key) 1 0 + n) later.same
              ∙ sym (places_of_key-cons equal key place later.given);
        }
    walked _ _ _ (WalkShows.refuses now after refusal shown stays refused rest) =
        walked now after shown rest
    walked _ _ _ (WalkShows.goes_between now next after shown stays keeps rest) =
        let later = walked next after shown rest in record {
          given = later.given;
          walks = WalksBy.steps now.places next.places after later.given stays keeps later.walks;
          same = later.same;
        }

    pub shows-once : (now : Shard K V We B L) (shown : List (Token × K × V))
        → IsAhead equal key now 0 → WalkShows equal key key_clone is_clone now 0 shown
        → items_of_key equal key shown ≡ 1
    shows-once now shown ahead walk =
        let of = walked now 0 shown walk in
        of.same ∙ gives-once equal laws key now.places of.given ahead.stays ahead.above of.walks

  -- the key is there where a drain goes on
  stays_at : (now : Shard K V We B L) (after : ℕ) (taken : List (Token × K × V))
      → DrainTakes equal key now after taken → Stays equal key now
  stays_at _ _ _ (DrainTakes.ends now after stays end) = stays
  stays_at _ _ _ (DrainTakes.takes_it now next after item stays takes is) = stays
  stays_at _ _ _ (DrainTakes.takes now next after item taken stays takes other rest) = stays
  stays_at _ _ _ (DrainTakes.goes_between now next after taken stays keeps rest) = stays

  -- while its token is ahead, the key is taken once
  taken_times : (now : Shard K V We B L) (after : ℕ) (taken : List (Token × K × V))
      → DrainTakes equal key now after taken → (stays : Stays equal key now)
      → after < stays.place.0 → items_of_key equal key taken ≡ 1
  taken_times _ _ _ (DrainTakes.ends now after _ end) stays above =
      let last = end.0 stays.place stays.there in absurd (omega (arith, above, last))
  taken_times _ _ _ (DrainTakes.takes_it now next after item _ takes is) stays above =
      items_of_key-cons equal key item [] ∙ ap (λ b. cond b 1 0 + 0) is
  taken_times _ _ _ (DrainTakes.takes now next after item taken _ takes other rest) stays above =
      let token = non_zero_u32_get item.0 in
      let least = takes.0.least stays.place stays.there above in
      let later = stays_at next token taken rest in
      -- what is left stood there before
      let was : Contains now.places later.place =
      Contains-permutation ((token, item.1) ∷ next.places) now.places later.place
      (IsPermutation-sym now.places ((token, item.1) ∷ next.places) takes.1)
      (Contains-append_right ((token, item.1) ∷ []) next.places later.place later.there) in
      let same = stays.are_places.one_token stays.place later.place stays.there was
      (both equal key laws _ _ stays.is later.is) in
      let apart : token < stays.place.0 = elim (cases_lt token stays.place.0) [
        | inl short ↦ short
        | inr reached ↦
            let at : token ≡ stays.place.0 = omega (arith, least, reached) in
            let is : equal key item.1 ≡ true =
            ap (equal key) (stays.are_places.one_key (token, item.1) stays.place takes.0.there
            stays.there at) ∙ stays.is in
            absurd (true≢false (sym is ∙ other))
      ] in
      omega (
        arith,
        items_of_key-cons equal key item taken
            ∙ ap (λ b. cond b 1 0 + items_of_key equal key taken) other,
        taken_times next token taken rest later (omega (arith, apart, same)),
      )
  taken_times _ _ _ (DrainTakes.goes_between now next after taken _ keeps rest) stays above =
      let later = stays_at next after taken rest in
      let same = keeps stays.place later.place stays.there later.there
      (both equal key laws _ _ stays.is later.is) in
      taken_times next after taken rest later (omega (arith, above, same))

  pub takes-once : (now : Shard K V We B L) (taken : List (Token × K × V))
      → IsAhead equal key now 0 → DrainTakes equal key now 0 taken → items_of_key equal key taken ≡ 1
  takes-once now taken ahead drain = taken_times now 0 taken drain ahead.stays ahead.above
