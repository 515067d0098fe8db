-- Items that come, go or change their place keep every value fitting its key.
use Rattle.std.proofs.Common.{◌≡◌, ◌==◌, Bool, true, false, if◌then◌else◌, List, [], ◌∷◌, ◌++◌, sym, subst}
use Rattle.std.specs.List.{AllByRecursion}
use Rattle.quick_cache_model.specs.CacheState.{CacheState, Item, Place, InHot, InCold, InStill, items_at, with_items, place_of_item}
use Rattle.quick_cache_model.specs.CacheState.{entered, restarted_behind, rewritten, SameButOrder}
use Rattle.quick_cache_model.proofs.EachElement.{all-restarted, all-push, all-without, all-instead, all-permutation}
use Rattle.quick_cache_locked.specs.Fitting.{FitsIn, AllFit}

module _ {K V : Type 0} (fits : K → V → Type 0) where
  -- the items of a place
  pub AllFit-at : (place : Place) (state : CacheState K V) → AllFit fits state
      → AllByRecursion (FitsIn fits) (items_at place state)
  AllFit-at InHot state fit = fit.hot
  AllFit-at InCold state fit = fit.cold
  AllFit-at InStill state fit = fit.still

  -- other items at a place
  pub AllFit-with : (place : Place) (items : List (Item K V)) (state : CacheState K V)
      → AllByRecursion (FitsIn fits) items → AllFit fits state
      → AllFit fits (with_items place items state)
  AllFit-with InHot items state new fit = record { hot = new; cold = fit.cold; still = fit.still }
  AllFit-with InCold items state new fit = record { hot = fit.hot; cold = new; still = fit.still }
  AllFit-with InStill items state new fit = record { hot = fit.hot; cold = fit.cold; still = new }

  -- an item that enters
  pub entered-fits : (item : Item K V) (state : CacheState K V) → FitsIn fits item
      → AllFit fits state → AllFit fits (entered item state)
  entered-fits item state new fit =
      let place = place_of_item item in
      AllFit-with place (items_at place state ++ item ∷ []) state
      (all-push (FitsIn fits) (items_at place state) item (AllFit-at place state fit) new) fit

  -- an item that stands in for another
  pub rewritten-fits : (place : Place) (before : List (Item K V)) (was item : Item K V)
      (after : List (Item K V)) (state : CacheState K V)
      → items_at place state ≡ before ++ was ∷ after → FitsIn fits item → AllFit fits state
      → AllFit fits (rewritten place before item after state)
  rewritten-fits place before was item after state split new fit =
      go place (subst (λ (xs : List (Item K V)). AllByRecursion (FitsIn fits) xs) split
      (AllFit-at place state fit))
    where
      in_place : (at : Place) → AllByRecursion (FitsIn fits) (before ++ was ∷ after)
          → AllFit fits (with_items at (before ++ item ∷ after) state)
      in_place at ring = AllFit-with at (before ++ item ∷ after) state
          (all-instead (FitsIn fits) before was item after new ring) fit

      moved : (ring : Place) → AllByRecursion (FitsIn fits) (before ++ was ∷ after)
          → AllFit fits (entered item (with_items ring (restarted_behind before after) state))
      moved ring all = entered-fits item (with_items ring (restarted_behind before after) state)
          new (AllFit-with ring (restarted_behind before after) state
          (all-restarted (FitsIn fits) before was after all) fit)

      go_still : (b : Bool) → AllByRecursion (FitsIn fits) (before ++ was ∷ after)
          → AllFit fits (if b then with_items InStill (before ++ item ∷ after) state
          else entered item (with_items InStill (before ++ after) state))
      go_still true ring = in_place InStill ring
      go_still false ring = entered-fits item (with_items InStill (before ++ after) state) new
          (AllFit-with InStill (before ++ after) state
          (all-without (FitsIn fits) before was after ring) fit)

      go_hot : (b : Bool) → AllByRecursion (FitsIn fits) (before ++ was ∷ after)
          → AllFit fits (if b
          then entered item (with_items InHot (restarted_behind before after) state)
          else with_items InHot (before ++ item ∷ after) state)
      go_hot true ring = moved InHot ring
      go_hot false ring = in_place InHot ring

      go_cold : (b : Bool) → AllByRecursion (FitsIn fits) (before ++ was ∷ after)
          → AllFit fits (if b
          then entered item (with_items InCold (restarted_behind before after) state)
          else with_items InCold (before ++ item ∷ after) state)
      go_cold true ring = moved InCold ring
      go_cold false ring = in_place InCold ring

      go : (at : Place) → AllByRecursion (FitsIn fits) (before ++ was ∷ after)
          → AllFit fits (rewritten at before item after state)
      go InHot ring = go_hot (item.weight == 0) ring
      go InCold ring = go_cold (item.weight == 0) ring
      go InStill ring = go_still (item.weight == 0) ring

  -- another order of what has none
  pub SameButOrder-fits : (old new : CacheState K V) → SameButOrder old new → AllFit fits old
      → AllFit fits new
  SameButOrder-fits old new same fit = subst (λ (s : CacheState K V). AllFit fits s)
      (sym same.same)
      (record {
        hot = fit.hot;
        cold = fit.cold;
        still = all-permutation (FitsIn fits) old.still new.still same.still fit.still;
      })
