-- An item that is weighed anew still stands at its token.
use Rattle.std.proofs.Common.{◌==◌, ℕ, Bool, true, false, if◌then◌else◌, List, [], ◌∷◌, ◌++◌, refl, sym}
use Rattle.std.specs.List.{Contains}
use Rattle.std.proofs.lemmas.List.Sorted.{IsPermutation-sym}
use Rattle.quick_cache_model.specs.CacheState.{Item, Place, InHot, InCold, InStill, place_of_item}
use Rattle.quick_cache_store.specs.Lists.{HeldItem, Lists, HasItem, Rewrites, SameButOrder, items_at, with_items, entered, held_rewritten}
use Rattle.quick_cache_policy.specs.Places.{places_of}
use Rattle.quick_cache_policy.proofs.WrittenPlaces.{HasItem-place, reordered-places}

module _ {K V P : Type 0} where
  -- the order of what has none may be changed back
  order-back : (old new : Lists K V P) → SameButOrder old new → SameButOrder new old
  order-back old new order = record {
    still = IsPermutation-sym old.still new.still order.still;
    loading = IsPermutation-sym old.loading new.loading order.loading;
    same = λ i. record (sym order.same i) { still = old.still; loading = old.loading };
  }

  module _ (held : HeldItem K V) where
    -- an item stands where it was put
    has-with : (place : Place) (front back : List (HeldItem K V)) (lists : Lists K V P)
        → HasItem (with_items place (front ++ held ∷ back) lists) held
    has-with InHot front back lists =
        record { place = InHot; stands = record { before = front; after = back; split = refl } }
    has-with InCold front back lists =
        record { place = InCold; stands = record { before = front; after = back; split = refl } }
    has-with InStill front back lists =
        record { place = InStill; stands = record { before = front; after = back; split = refl } }

    has-entered : (lists : Lists K V P) → HasItem (entered held lists) held
    has-entered lists =
        has-with (place_of_item held.item) (items_at (place_of_item held.item) lists) [] lists

    has-rewritten : (place : Place) (before after : List (HeldItem K V)) (lists : Lists K V P)
        → HasItem (held_rewritten place before held after lists) held
    has-rewritten InHot before after lists = go (held.item.weight == 0)
      where
        go : (b : Bool) → HasItem (if b then entered held (with_items InHot (after ++ before) lists)
            else with_items InHot (before ++ held ∷ after) lists) held
        go true = has-entered (with_items InHot (after ++ before) lists)
        go false = has-with InHot before after lists
    has-rewritten InCold before after lists = go (held.item.weight == 0)
      where
        go : (b : Bool) → HasItem (if b then entered held (with_items InCold (after ++ before) lists)
            else with_items InCold (before ++ held ∷ after) lists) held
        go true = has-entered (with_items InCold (after ++ before) lists)
        go false = has-with InCold before after lists
    has-rewritten InStill before after lists = go (held.item.weight == 0)
      where
        go : (b : Bool) → HasItem (if b then with_items InStill (before ++ held ∷ after) lists
            else entered held (with_items InStill (before ++ after) lists)) held
        go true = has-with InStill before after lists
        go false = has-entered (with_items InStill (before ++ after) lists)

  -- what was written stands at its token
  pub rewritten-there : (old new : Lists K V P) (token : ℕ) (item was : Item K V)
      → Rewrites old token item was new → Contains (places_of new) (token, item.key)
  rewritten-there old new token item was rewrites =
      let held : HeldItem K V =
      record { token = token; hash = rewrites.hash; item = item } in
      let made = held_rewritten rewrites.place rewrites.before held rewrites.after old in
      reordered-places new made (order-back made new rewrites.rewritten) (token, item.key)
      (HasItem-place made held
      (has-rewritten held rewrites.place rewrites.before rewrites.after old))
