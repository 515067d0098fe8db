-- Items under their tokens, as a shard shows them.
use Rattle.std.proofs.Common.{◌≡◌, inl, inr, ℕ, false, List, [], ◌∷◌, ◌++◌, map, Option, Some, None, IfSome, MatchOption, arith, refl, sym}
use Rattle.std.proofs.Common.{ap, subst, ◌∙◌}
use Rattle.std.specs.List.{Contains}
use Rattle.std.specs.List.Sorted.{IsPermutation}
use Rattle.std.proofs.lemmas.List.{map-append}
use Rattle.std.proofs.lemmas.List.Elements.{Contains-append_left, Contains-append_right, Contains-append_cases}
use Rattle.std.proofs.lemmas.List.Sorted.{IsPermutation-trans, IsPermutation-middle, IsPermutation-append_left, IsPermutation-append_right}
use Rattle.quick_cache_model.specs.CacheState.{Item, Place, InHot, InCold, InStill}
use Rattle.quick_cache_store.specs.Lists.{HeldItem, Lists, StandsIn, HasItem, HasItemToken, IsItemOf, AreApart, items_at, without_entry}
use Rattle.quick_cache_store.specs.Views.{items_of, residents}
use Rattle.quick_cache_store.proofs.lists.StandingLemmas.{StandsIn-map, found-same}
use Rattle.quick_cache_policy.specs.Places.{place_at, places_in, places_of}
use Rattle.quick_cache_policy.proofs.LookupLemmas.{without-at}
pub use Rattle.quick_cache_policy.proofs.WrittenPlaces.{Contains-first, Contains-cons_cases, HasItem-place}

module _ {X : Type 0} where
  -- what stands in a list is in it
  Contains-stands : (xs : List X) (x : X) → StandsIn xs x → Contains xs x
  Contains-stands xs x s =
      subst (λ (l : List X). Contains l x) (sym s.split)
      (Contains-append_right s.before (x ∷ s.after) x (Contains-first x s.after))

module _ {X Y : Type 0} (f : X → Y) where
  -- an image is that of an element
  pub Contains-image : (xs : List X) (y : Y) → Contains (map f xs) y
      → (x : X) × StandsIn xs x × (f x ≡ y)
  Contains-image [] y there = absurd (omega (arith, there.1))
  Contains-image (x ∷ xs) y there =
      elim (Contains-cons_cases (f x) (map f xs) y there) [
        | inl is ↦ (x, record { before = []; after = xs; split = refl }, is)
        | inr rest ↦
            let of = Contains-image xs y rest in (
              of.0,
              record {
                before = x ∷ of.1.before;
                after = of.1.after;
                split = ap (λ (l : List X). x ∷ l) of.1.split;
              },
              of.2,
            )
      ]

module _ {K V P : Type 0} (lists : Lists K V P) where
  -- an item is a resident
  pub HasItem-resident : (held : HeldItem K V) → HasItem lists held
      → Contains (residents lists) held.item
  HasItem-resident held has = go has.place has.stands
    where
      image : (entries : List (HeldItem K V)) → StandsIn entries held
          → Contains (items_of entries) held.item
      image entries s = Contains-stands (items_of entries) held.item
          (StandsIn-map (λ (h : HeldItem K V). h.item) entries held s)

      go : (place : Place) → StandsIn (items_at place lists) held
          → Contains (residents lists) held.item
      go InHot s = Contains-append_left (items_of lists.hot ++ items_of lists.cold)
          (items_of lists.still) _
          (Contains-append_left (items_of lists.hot) (items_of lists.cold) _ (image lists.hot s))
      go InCold s = Contains-append_left (items_of lists.hot ++ items_of lists.cold)
          (items_of lists.still) _
          (Contains-append_right (items_of lists.hot) (items_of lists.cold) _
          (image lists.cold s))
      go InStill s = Contains-append_right (items_of lists.hot ++ items_of lists.cold)
          (items_of lists.still) _ (image lists.still s)

  -- a place is that of an item
  pub place-held : (place : ℕ × K) → Contains (places_of lists) place
      → (held : HeldItem K V) × HasItem lists held × (place_at held ≡ place)
  place-held place there =
      elim (Contains-append_cases (places_in lists.hot ++ places_in lists.cold)
      (places_in lists.still) place there) [
        | inl of_rings ↦
            elim (Contains-append_cases (places_in lists.hot) (places_in lists.cold) place
            of_rings) [
              | inl of_hot ↦ at InHot (Contains-image place_at lists.hot place of_hot)
              | inr of_cold ↦ at InCold (Contains-image place_at lists.cold place of_cold)
            ]
        | inr of_still ↦ at InStill (Contains-image place_at lists.still place of_still)
      ]
    where
      at : (list : Place) → (held : HeldItem K V) × StandsIn (items_at list lists) held
          × (place_at held ≡ place)
          → (held : HeldItem K V) × HasItem lists held × (place_at held ≡ place)
      at list of = (of.0, record { place = list; stands = of.1 }, of.2)

  -- and its token that of an item
  pub place-item : (token : ℕ) (key : K) → Contains (places_of lists) (token, key)
      → HasItemToken lists token
  place-item token key there =
      let of = place-held (token, key) there in (of.0, of.1, ap (λ (p : ℕ × K). p.0) of.2)

  -- a token has one key
  pub place-same : AreApart lists → (place other : ℕ × K) → Contains (places_of lists) place
      → Contains (places_of lists) other → place.0 ≡ other.0 → place.1 ≡ other.1
  place-same apart place other there also same =
      let one = place-held place there in
      let two = place-held other also in
      sym (ap (λ (p : ℕ × K). p.1) one.2)
      ∙ ap (λ (h : HeldItem K V). h.item.key)
      (found-same lists apart other.0 two.0 one.0 two.1 one.1 (ap (λ (p : ℕ × K). p.0) two.2)
      (ap (λ (p : ℕ × K). p.0) one.2 ∙ same))
      ∙ ap (λ (p : ℕ × K). p.1) two.2

  -- the place of an item that goes, and no other goes with it
  pub place-leaves : AreApart lists → (token : ℕ) (item : Item K V) → IsItemOf lists token item
      → IsPermutation (places_of lists)
      ((token, item.key) ∷ places_of (without_entry false token lists))
  place-leaves apart token item is = go is.1.place is.1.stands.before is.1.stands.after
      is.1.stands.split
    where
      held : HeldItem K V
      held = record { token = token; hash = is.0; item = item }

      parted : (entries before after : List (HeldItem K V)) → entries ≡ before ++ held ∷ after
          → IsPermutation (places_in entries) ((token, item.key) ∷ places_in (before ++ after))
      parted entries before after split =
          subst (λ l. IsPermutation l ((token, item.key) ∷ places_in (before ++ after)))
          (sym (ap (λ (l : List (HeldItem K V)). places_in l) split
          ∙ map-append place_at before (held ∷ after)))
          (subst (λ l. IsPermutation (places_in before ++ (token, item.key) ∷ places_in after)
          ((token, item.key) ∷ l)) (sym (map-append place_at before after))
          (IsPermutation-middle (places_in before) (token, item.key) (places_in after)))

      go : (place : Place) (before after : List (HeldItem K V))
          → items_at place lists ≡ before ++ held ∷ after
          → IsPermutation (places_of lists)
          ((token, item.key) ∷ places_of (without_entry false token lists))
      go InHot before after split =
          subst (λ (l : Lists K V P). IsPermutation (places_of lists)
          ((token, item.key) ∷ places_of l))
          (sym (without-at lists apart InHot before after held split))
          (IsPermutation-append_left (places_in lists.still) _ _
          (IsPermutation-append_left (places_in lists.cold) _ _
          (parted lists.hot before after split)))
      go InCold before after split =
          subst (λ (l : Lists K V P). IsPermutation (places_of lists)
          ((token, item.key) ∷ places_of l))
          (sym (without-at lists apart InCold before after held split))
          (IsPermutation-append_left (places_in lists.still) _ _ (IsPermutation-trans _ _ _
          (IsPermutation-append_right (places_in lists.hot) _ _
          (parted lists.cold before after split))
          (IsPermutation-middle (places_in lists.hot) (token, item.key)
          (places_in (before ++ after)))))
      go InStill before after split =
          subst (λ (l : Lists K V P). IsPermutation (places_of lists)
          ((token, item.key) ∷ places_of l))
          (sym (without-at lists apart InStill before after held split))
          (IsPermutation-trans _ _ _
          (IsPermutation-append_right (places_in lists.hot ++ places_in lists.cold) _ _
          (parted lists.still before after split))
          (IsPermutation-middle (places_in lists.hot ++ places_in lists.cold) (token, item.key)
          (places_in (before ++ after))))

-- where there are no items there are no places
places_in-none : {K V : Type 0} (entries : List (HeldItem K V)) → items_of entries ≡ []
    → places_in entries ≡ []
places_in-none [] none = refl
places_in-none (held ∷ rest) none = absurd (cc)

pub places_of-none : {K V P : Type 0} (lists : Lists K V P) → items_of lists.hot ≡ []
    → items_of lists.cold ≡ [] → items_of lists.still ≡ [] → places_of lists ≡ []
places_of-none lists hot cold still = λ i.
    places_in-none lists.hot hot i ++ places_in-none lists.cold cold i
    ++ places_in-none lists.still still i

-- what follows of each answer follows of this one
pub IfSome-map : {X : Type 0} (first second : X → Type 0) (answer : Option X)
    → ((x : X) → first x → second x) → IfSome answer first → IfSome answer second
IfSome-map first second None follows is = tt
IfSome-map first second (Some x) follows is = follows x is

pub MatchOption-map : {X : Type 0} (none other : Type 0) (first second : X → Type 0)
    (answer : Option X) → (none → other) → ((x : X) → first x → second x)
    → MatchOption answer none first → MatchOption answer other second
MatchOption-map none other first second None empty follows is = empty is
MatchOption-map none other first second (Some x) empty follows is = follows x is
