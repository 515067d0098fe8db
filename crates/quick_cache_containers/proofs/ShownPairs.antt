-- What a table shows, from what its places hold.
use Rattle.std.proofs.Common.{◌≡◌, ℕ, ◌+◌, ◌-◌, ◌<◌, ◌≤◌, true, ltb, List, [], ◌∷◌, length, replicate, refl, sym, ap, subst, ◌∙◌, inl, inr}
use Rattle.std.proofs.Common.{arith, count_by}
use Rattle.std.specs.List.{filter_map, list_any}
use Rattle.std.proofs.lemmas.Bool.{lt-ltb}
use Rattle.std.proofs.lemmas.Bool.Decides.{leb_tells}
use Rattle.quick_cache_containers.specs.Places.{Place}
use Rattle.quick_cache_containers.specs.Table.{Table, in_order, is_pair, has_pair, pair_count, HasPair, AddsPair, RemovesPair}
use Rattle.quick_cache_containers.specs.Table.{SameOtherPairs, IsTokensOf}
use Rattle.quick_cache_index.specs.IndexGroups.{capacity_of}
use Rattle.quick_cache_containers.specs.TableGroups.{hash_at, is_free, place_pair, pairs_of, place_at, holds_pair, empty_place, IsWhole}
use Rattle.quick_cache_containers.specs.TableGroups.{IsSound, HasOneMore, HasSamePairs, AreTokensOf}
use Rattle.quick_cache_containers.proofs.PairOrder.{list_any-in_order, length-in_order, in_order-same}
use Rattle.quick_cache_index.proofs.CountedTokens.{bool_tells, bit}
use Rattle.quick_cache_containers.proofs.CountedPlaces.{length-pairs_of, holds_pair-hash, pairs_of-map, filter_map-none, map-replicate}
use Rattle.quick_cache_containers.proofs.CountedPlaces.{is_pair-equal, is_pair-refl, is_pair-other, list_any-pairs_of, count_by-pairs_of}

-- how many pairs a table has, by its places
pub pair_count-of : (table : Table) (places : List Place) → table.pairs ≡ in_order (pairs_of places)
    → pair_count table ≡ length (pairs_of places)
pair_count-of table places shows = ap length shows ∙ length-in_order (pairs_of places)

-- whether a table has a pair, by its count over the places
pub has_pair-count : (table : Table) (places : List Place) (h k : ℕ)
    → table.pairs ≡ in_order (pairs_of places)
    → has_pair table h k ≡ ltb 0 (count_by (holds_pair h k) places)
has_pair-count table places h k shows =
    ap (list_any (is_pair h k)) shows ∙ list_any-in_order (is_pair h k) (pairs_of places) ∙
    list_any-pairs_of h k places

pub count_by-absent : (table : Table) (places : List Place) (h k : ℕ)
    → table.pairs ≡ in_order (pairs_of places) → ¬ HasPair table h k
    → count_by (holds_pair h k) places ≡ 0
count_by-absent table places h k shows absent =
    elim (leb_tells 1 (count_by (holds_pair h k) places)) [
      | inl t ↦ absurd (absent (has_pair-count table places h k shows ∙ t.0))
      | inr t ↦ omega (arith, t.1)
    ]

pub HasPair-from_count : (table : Table) (places : List Place) (h k : ℕ)
    → table.pairs ≡ in_order (pairs_of places) → 0 < count_by (holds_pair h k) places
    → HasPair table h k
HasPair-from_count table places h k shows some =
    has_pair-count table places h k shows ∙ lt-ltb _ _ some

-- the other pairs stay, by the counts
pub SameOtherPairs-from_more : (fewer more : Table) (less places : List Place) (h k : ℕ)
    → fewer.pairs ≡ in_order (pairs_of less) → more.pairs ≡ in_order (pairs_of places)
    → HasOneMore less places h k → SameOtherPairs fewer more h k
SameOtherPairs-from_more fewer more less places h k shows shows_more one x y off =
    let same_count : count_by (holds_pair x y) places ≡ count_by (holds_pair x y) less =
    omega (arith, one.pairs x y, ap bit (is_pair-other x y h k off)) in
    has_pair-count more places x y shows_more ∙ ap (ltb 0) same_count ∙ sym
    (has_pair-count fewer less x y shows)

pub AddsPair-from_more : (old new : Table) (places after : List Place) (h k : ℕ)
    → old.pairs ≡ in_order (pairs_of places) → new.pairs ≡ in_order (pairs_of after)
    → HasOneMore places after h k → AddsPair old new h k
AddsPair-from_more old new places after h k shows shows_new one = record {
  added =
      HasPair-from_count new after h k shows_new
      (omega (arith, one.pairs h k, ap bit (is_pair-refl h k)));
  others = SameOtherPairs-from_more old new places after h k shows shows_new one;
  count =
      pair_count-of new after shows_new ∙ one.taken ∙ ap (λ n. n + 1)
      (sym (pair_count-of old places shows));
}

pub RemovesPair-from_more : (old new : Table) (places after : List Place) (h k : ℕ)
    → old.pairs ≡ in_order (pairs_of places) → new.pairs ≡ in_order (pairs_of after)
    → count_by (holds_pair h k) places ≤ 1 → HasOneMore after places h k → RemovesPair old new h k
RemovesPair-from_more old new places after h k shows shows_new once one =
    let counted = one.pairs h k in
    let itself = ap bit (is_pair-refl h k) in
    let none : count_by (holds_pair h k) after ≡ 0 = omega (arith, counted, itself, once) in
    record {
      had = HasPair-from_count old places h k shows (omega (arith, counted, itself));
      removed = has_pair-count new after h k shows_new ∙ ap (ltb 0) none;
      others =
          λ x y off. sym
          (SameOtherPairs-from_more new old after places h k shows_new shows one x y off);
      count =
          ap (λ n. n + 1) (pair_count-of new after shows_new) ∙ sym one.taken ∙ sym
          (pair_count-of old places shows);
    }

-- a table stays sound when a new pair takes a place
pub IsSound-gain : (tags tags' : List ℕ) (places places' : List Place) (reaches reaches' : List ℕ)
    (mask len h k : ℕ) → IsSound tags places reaches mask len → length reaches' ≡ length reaches
    → IsWhole tags' places' reaches' mask → HasOneMore places places' h k
    → count_by (holds_pair h k) places ≡ 0 → len < capacity_of (length reaches)
    → IsSound tags' places' reaches' mask (len + 1)
IsSound-gain tags tags' places places' reaches reaches' mask len h k sound size whole one absent
    room = record {
      whole = whole;
      counted = omega (arith, one.taken, sound.counted);
      load = subst (λ n. len + 1 ≤ capacity_of n) (sym size) (omega (arith, room));
      once = λ x y. elim (bool_tells (is_pair x y (h, k))) [
        | inl holds ↦
            let at = is_pair-equal x y h k holds in
            let none : count_by (holds_pair x y) places ≡ 0 =
            ap (λ z. count_by (holds_pair z y) places) at.0 ∙ ap
            (λ z. count_by (holds_pair h z) places) at.1 ∙ absent in
            omega (arith, one.pairs x y, none, ap bit holds)
        | inr fails ↦ omega (arith, one.pairs x y, sound.once x y, ap bit fails)
      ];
    }

-- and when a pair leaves its place
pub IsSound-lose : (tags tags' : List ℕ) (places places' : List Place) (reaches reaches' : List ℕ)
    (mask len less h k : ℕ) → IsSound tags places reaches mask len
    → length reaches' ≡ length reaches → IsWhole tags' places' reaches' mask
    → HasOneMore places' places h k → less ≡ len - 1 → IsSound tags' places' reaches' mask less
IsSound-lose tags tags' places places' reaches reaches' mask len less h k sound size whole one at =
    record {
      whole = whole;
      counted = omega (arith, at, one.taken, sound.counted);
      load = subst (λ n. less ≤ capacity_of n) (sym size) (omega (arith, at, sound.load));
      once = λ x y. omega (arith, one.pairs x y, sound.once x y);
    }

-- the tokens of a walk are those of the table
pub IsTokensOf-walk : (table : Table) (places : List Place) (h : ℕ) (tokens : List ℕ)
    → table.pairs ≡ in_order (pairs_of places) → ((x y : ℕ) → count_by (holds_pair x y) places ≤ 1)
    → AreTokensOf places h tokens → IsTokensOf table h tokens
IsTokensOf-walk table places h tokens shows once all k =
    let has = has_pair-count table places h k shows in
    elim (leb_tells 1 (count_by (holds_pair h k) places)) [
      | inl t ↦ all k ∙ omega (arith, once h k, t.1) ∙ sym (ap bit (has ∙ t.0))
      | inr t ↦ all k ∙ omega (arith, t.1) ∙ sym (ap bit (has ∙ t.0))
    ]

-- a table without a group has no token
pub IsTokensOf-none : (table : Table) (tags : List ℕ) (places : List Place) (reaches : List ℕ)
    (mask h : ℕ) → table.pairs ≡ in_order (pairs_of places) → IsWhole tags places reaches mask
    → length reaches ≡ 0 → IsTokensOf table h []
IsTokensOf-none table tags places reaches mask h shows whole none token =
    let pairs : table.pairs ≡ [] =
    shows ∙ empty_places places (omega (arith, whole.pairs.sized.sixteen, none)) in
    ap (λ pairs. bit (list_any (is_pair h token) pairs)) (sym pairs)
  where
    empty_places : (places : List Place) → length places ≡ 0 → in_order (pairs_of places) ≡ []
    empty_places [] e = refl
    empty_places (place ∷ rest) e = absurd (omega (arith, e))

-- a table whose places have the same pairs shows the same
pub in_order-same_pairs : (old new : List Place) → HasSamePairs old new
    → in_order (pairs_of new) ≡ in_order (pairs_of old)
in_order-same_pairs old new same =
    in_order-same (pairs_of new) (pairs_of old)
    (λ h k. sym (count_by-pairs_of h k new) ∙ same.pairs h k ∙ count_by-pairs_of h k old)

-- and stays sound where there are more groups
pub IsSound-grown : (tags tags' : List ℕ) (places places' : List Place) (reaches reaches' : List ℕ)
    (mask mask' len : ℕ) → IsSound tags places reaches mask len
    → IsWhole tags' places' reaches' mask' → HasSamePairs places places'
    → len ≤ capacity_of (length reaches') → IsSound tags' places' reaches' mask' len
IsSound-grown tags tags' places places' reaches reaches' mask mask' len sound whole same load =
    record {
      whole = whole;
      counted = omega (arith, sound.counted, same.taken);
      load = load;
      once = λ x y. omega (arith, same.pairs x y, sound.once x y);
    }

-- free places have no pair
pub pairs_of-free : (count : ℕ) → pairs_of (replicate count empty_place) ≡ []
pairs_of-free count =
    pairs_of-map (replicate count empty_place) ∙ ap (filter_map (λ o. o))
    (map-replicate place_pair count empty_place) ∙ filter_map-none count

-- a table whose places are free is sound, and has no pair
pub IsSound-freed : (tags : List ℕ) (places : List Place) (reaches : List ℕ) (mask : ℕ)
    → IsWhole tags places reaches mask → pairs_of places ≡ [] → IsSound tags places reaches mask 0
IsSound-freed tags places reaches mask whole none = record {
  whole = whole;
  counted = sym (ap length none);
  load = omega arith;
  once = λ x y. omega (arith, count_by-pairs_of x y places, ap (count_by (is_pair x y)) none);
}

-- where there is room for a pair, a place is free
pub free-from_room : (tags : List ℕ) (places : List Place) (reaches : List ℕ) (mask len : ℕ)
    → IsSound tags places reaches mask len → len < capacity_of (length reaches)
    → 0 < count_by is_free places
free-from_room tags places reaches mask len sound room =
    omega (arith, sound.counted, sound.whole.pairs.sized.sixteen, room, length-pairs_of places)

-- the pair that came to the places, by other words for the places and the token
pub HasOneMore-put : (places lent after : List Place) (h t k : ℕ) → lent ≡ places → t ≡ k
    → HasOneMore lent after h t → HasOneMore places after h k
HasOneMore-put places lent after h t k lent_is token_is one =
    let P : List Place → Type 0 = λ ps. HasOneMore ps after h t in
    let T : ℕ → Type 0 = λ x. HasOneMore places after h x in
    subst T token_is (subst P lent_is one)

-- the pair that was found at a place is the one that leaves it
pub HasOneMore-found : (places read lent after : List Place) (position asked h t k : ℕ)
    → read ≡ places → lent ≡ places → asked ≡ h → t ≡ k
    → holds_pair asked t (place_at read position) ≡ true
    → HasOneMore after lent (hash_at (place_at lent position)) (place_at lent position).token
    → HasOneMore after places h k
HasOneMore-found places read lent after position asked h t k read_is lent_is hash_is token_is found
    one =
    let P : List Place → Type 0 =
    λ ps. HasOneMore after ps (hash_at (place_at ps position)) (place_at ps position).token in
    let Q : List Place → Type 0 = λ ps. holds_pair asked t (place_at ps position) ≡ true in
    let parts = holds_pair-hash asked t (place_at places position) (subst Q read_is found) in
    let H : ℕ → Type 0 = λ x. HasOneMore after places x (place_at places position).token in
    let T : ℕ → Type 0 = λ x. HasOneMore after places h x in
    subst T (parts.2 ∙ token_is) (subst H (parts.1 ∙ hash_is) (subst P lent_is one))
