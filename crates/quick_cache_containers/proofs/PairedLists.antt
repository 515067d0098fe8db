-- Places whose hashes and tokens stand in two lists.
use Rattle.std.proofs.Common.{◌≡◌, ℕ, zero, suc, ◌-◌, ◌<◌, ◌≤◌, Bool, true, cond, List, [], ◌∷◌, ◌++◌, length, get_or, replicate, take, set}
use Rattle.std.proofs.Common.{refl, sym, ap, ◌∙◌, arith}
use Rattle.std.specs.List.{swap}
use Rattle.std.proofs.lemmas.List.{take_all}
use Rattle.std.proofs.lemmas.List.Edits.{swap_is}
use Rattle.quick_cache_containers.specs.Places.{Place, Places, places_of}
use Rattle.quick_cache_containers.specs.TableGroups.{hash_at, place_at, empty_place}

-- there are as many as there are hashes
pub length-places_of : (hashes tokens : List ℕ) → length hashes ≡ length tokens
    → length (places_of hashes tokens) ≡ length hashes
length-places_of [] tokens same = refl
length-places_of (hash ∷ hashes) [] same = absurd (omega (arith, same))
length-places_of (hash ∷ hashes) (token ∷ tokens) same =
    ap suc (length-places_of hashes tokens (omega (arith, same)))

-- each has the hash and the token of its position
pub place_at-places_of : (hashes tokens : List ℕ) (position : ℕ) → length hashes ≡ length tokens
    → place_at (places_of hashes tokens) position
    ≡ record { hash = get_or hashes position 0; token = get_or tokens position 0 }
place_at-places_of [] [] position same = refl
place_at-places_of [] (token ∷ tokens) position same = absurd (omega (arith, same))
place_at-places_of (hash ∷ hashes) [] position same = absurd (omega (arith, same))
place_at-places_of (hash ∷ hashes) (token ∷ tokens) zero same = refl
place_at-places_of (hash ∷ hashes) (token ∷ tokens) (suc position) same =
    place_at-places_of hashes tokens position (omega (arith, same))

-- both written at one position
pub set-places_of : (hashes tokens : List ℕ) (position hash token : ℕ)
    → places_of (set hashes position hash) (set tokens position token)
    ≡ set (places_of hashes tokens) position (record { hash = hash; token = token })
set-places_of [] tokens position hash token = refl
set-places_of (h ∷ hashes) [] zero hash token = refl
set-places_of (h ∷ hashes) [] (suc position) hash token = refl
set-places_of (h ∷ hashes) (t ∷ tokens) zero hash token = refl
set-places_of (h ∷ hashes) (t ∷ tokens) (suc position) hash token =
    ap (λ ps. (record { hash = h; token = t }) ∷ ps) (set-places_of hashes tokens position hash token)

-- a token written, under the hash that stands there
pub set_token-places_of : (hashes tokens : List ℕ) (position token : ℕ)
    → length hashes ≡ length tokens → places_of hashes (set tokens position token)
    ≡ set (places_of hashes tokens) position
    (record { hash = hash_at (place_at (places_of hashes tokens) position); token = token })
set_token-places_of [] tokens position token same = refl
set_token-places_of (h ∷ hashes) [] position token same = absurd (omega (arith, same))
set_token-places_of (h ∷ hashes) (t ∷ tokens) zero token same = refl
set_token-places_of (h ∷ hashes) (t ∷ tokens) (suc position) token same =
    ap (λ ps. (record { hash = h; token = t }) ∷ ps)
    (set_token-places_of hashes tokens position token (omega (arith, same)))

-- both with more behind them
pub places_of-append : (hashes tokens more_hashes more_tokens : List ℕ)
    → length hashes ≡ length tokens → places_of (hashes ++ more_hashes) (tokens ++ more_tokens)
    ≡ places_of hashes tokens ++ places_of more_hashes more_tokens
places_of-append [] [] more_hashes more_tokens same = refl
places_of-append [] (token ∷ tokens) more_hashes more_tokens same = absurd (omega (arith, same))
places_of-append (hash ∷ hashes) [] more_hashes more_tokens same = absurd (omega (arith, same))
places_of-append (hash ∷ hashes) (token ∷ tokens) more_hashes more_tokens same =
    ap (λ ps. (record { hash = hash; token = token }) ∷ ps)
    (places_of-append hashes tokens more_hashes more_tokens (omega (arith, same)))

-- free places
pub places_of-free : (count : ℕ)
    → places_of (replicate count 0) (replicate count 0) ≡ replicate count empty_place
places_of-free zero = refl
places_of-free (suc count) = ap (λ ps. empty_place ∷ ps) (places_of-free count)

-- both with two numbers in each other's place
pub swap-places_of : (hashes tokens : List ℕ) (p q : ℕ) → length hashes ≡ length tokens
    → p < length hashes → q < length hashes
    → places_of (swap hashes p q) (swap tokens p q) ≡ swap (places_of hashes tokens) p q
swap-places_of hashes tokens p q same p_in q_in =
    let items = places_of hashes tokens in
    let many = length-places_of hashes tokens same in
    let hash : ℕ → ℕ = λ i. get_or hashes i 0 in
    let token : ℕ → ℕ = λ i. get_or tokens i 0 in
    let at : (i : ℕ) → place_at items i ≡ record { hash = hash i; token = token i } =
    λ i. place_at-places_of hashes tokens i same in
    ap (λ hs. places_of hs (swap tokens p q)) (sym (swap_is hashes p q 0 p_in q_in))
    ∙ ap (places_of (set (set hashes p (hash q)) q (hash p)))
    (sym (swap_is tokens p q 0 (omega (arith, same, p_in)) (omega (arith, same, q_in))))
    ∙ set-places_of (set hashes p (hash q)) (set tokens p (token q)) q (hash p) (token p)
    ∙ ap (λ ps. set ps q (record { hash = hash p; token = token p }))
    (set-places_of hashes tokens p (hash q) (token q))
    ∙ ap (λ place. set (set items p (record { hash = hash q; token = token q })) q place) (sym (at p))
    ∙ ap (λ place. set (set items p place) q (place_at items p)) (sym (at q))
    ∙ swap_is items p q empty_place (omega (arith, many, p_in)) (omega (arith, many, q_in))

-- the same of places that are shown as `items`
pub record AreShown (hashes tokens : List ℕ) (items : List Place) (position : ℕ) : Type 0 where
  pub hash : get_or hashes position 0 ≡ hash_at (place_at items position)
  pub token : get_or tokens position 0 ≡ (place_at items position).token
  pub many : length items ≡ length hashes

pub are_shown : (hashes tokens : List ℕ) (items : List Place) (position : ℕ)
    → places_of hashes tokens ≡ items → length hashes ≡ length tokens
    → AreShown hashes tokens items position
are_shown hashes tokens items position shows same =
    let at : place_at items position
    ≡ record { hash = get_or hashes position 0; token = get_or tokens position 0 } =
    ap (λ ps. place_at ps position) (sym shows) ∙ place_at-places_of hashes tokens position same in
    record {
      hash = sym (ap (λ (place : Place). place.hash) at);
      token = sym (ap (λ (place : Place). place.token) at);
      many = ap length (sym shows) ∙ length-places_of hashes tokens same;
    }

-- these places, with so many bytes
abbrev with_bytes : ℕ → List Place → Places
with_bytes allocated items = record { items = items; allocated = allocated }

-- the same places, with as many bytes
pub same_places : (items others : List Place) (allocated bytes : ℕ) → items ≡ others
    → allocated ≡ bytes → with_bytes allocated items ≡ with_bytes bytes others
same_places items others allocated bytes same as_many =
    ap (with_bytes allocated) same ∙ ap (λ n. with_bytes n others) as_many

-- a list of numbers that was filled up, as a call that answered so leaves it
pub filled_up : (old reserved new : List ℕ) (done : Bool) (count n : ℕ) → reserved ≡ old
    → length old ≤ count → n ≡ count - length old → done ≡ true
    → new ≡ cond done (take count reserved ++ replicate n 0) reserved
    → new ≡ old ++ replicate (count - length old) 0
filled_up old reserved new done count n kept few as_many answers is =
    is ∙ ap (λ b. cond b (take count reserved ++ replicate n 0) reserved) answers
    ∙ ap (λ xs. xs ++ replicate n 0) (ap (take count) kept ∙ take_all count old few)
    ∙ ap (λ k. old ++ replicate k 0) as_many

-- both filled up with zeros: free places behind those that there were
pub places_of-filled : (hashes tokens new_hashes new_tokens : List ℕ) (items : List Place)
    (count : ℕ) → length hashes ≡ length tokens → places_of hashes tokens ≡ items
    → new_hashes ≡ hashes ++ replicate (count - length hashes) 0
    → new_tokens ≡ tokens ++ replicate (count - length tokens) 0
    → places_of new_hashes new_tokens ≡ items ++ replicate (count - length items) empty_place
places_of-filled hashes tokens new_hashes new_tokens items count same shows hashes_are tokens_are =
    let more = count - length hashes in
    let many : length items ≡ length hashes =
    ap length (sym shows) ∙ length-places_of hashes tokens same in
    ap (λ hs. places_of hs new_tokens) hashes_are
    ∙ ap (places_of (hashes ++ replicate more 0)) tokens_are
    ∙ ap (λ n. places_of (hashes ++ replicate more 0) (tokens ++ replicate (count - n) 0)) (sym same)
    ∙ places_of-append hashes tokens (replicate more 0) (replicate more 0) same
    ∙ ap (λ ps. ps ++ places_of (replicate more 0) (replicate more 0)) shows
    ∙ ap (λ ps. items ++ ps) (places_of-free more)
    ∙ ap (λ n. items ++ replicate (count - n) empty_place) (sym many)
