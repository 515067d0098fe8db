-- The weight of the items that are not pinned: at most that of all, and none where all are pinned.
use Rattle.std.proofs.Common.{◌≡◌, ℕ, ◌+◌, ◌≤◌, Bool, true, false, if◌then◌else◌, List, [], ◌∷◌, ◌++◌, refl, ap, arith}
use Rattle.std.specs.List.{AllByRecursion}
use Rattle.std.proofs.lemmas.List.Sums.{sum_by-append, sum_by-cons}
use Rattle.quick_cache_model.specs.CacheState.{CacheState, Item, Place, InHot, InCold, InStill, entered, weight_of, total_weight}
use Rattle.quick_cache_model.specs.CacheState.{place_of_item}
use Rattle.quick_cache_model.specs.Hooks.{Rules}
use Rattle.quick_cache_model.specs.Eviction.{pinned}
use Rattle.quick_cache_laws.specs.Laws.{AreRingsPinned}
use Rattle.quick_cache_laws.specs.Admitted.{unpinned_weight_of, unpinned_weight}
use Rattle.quick_cache_model.proofs.Valid.Places.{put}

module _ {K V : Type 0} (rules : Rules K V) where
  -- what an item weighs if it is not pinned
  abbrev pub unpinned : Item K V → ℕ
  unpinned item = if pinned rules item then 0 else item.weight

  -- a pinned item adds nothing
  pub unpinned-pinned : (item : Item K V) → pinned rules item ≡ true → unpinned item ≡ 0
  unpinned-pinned item pins = ap (λ (b : Bool). if b then 0 else item.weight) pins

  -- an item adds at most its weight
  pub unpinned-le : (item : Item K V) → unpinned item ≤ item.weight
  unpinned-le item = go (pinned rules item)
    where
      go : (b : Bool) → (if b then 0 else item.weight) ≤ item.weight
      go true = omega arith
      go false = omega arith

  -- a list weighs at least what its unpinned items weigh
  unpinned_of-le : (items : List (Item K V)) → unpinned_weight_of rules items ≤ weight_of items
  unpinned_of-le [] = omega arith
  unpinned_of-le (x ∷ xs) = omega (
    arith,
    sum_by-cons unpinned x xs,
    sum_by-cons (λ (i : Item K V). i.weight) x xs,
    unpinned-le x,
    unpinned_of-le xs,
  )

  -- the items that are not pinned weigh at most what all weigh
  pub unpinned_weight-le : (state : CacheState K V)
      → unpinned_weight rules state ≤ total_weight state
  unpinned_weight-le state = omega (arith, unpinned_of-le state.hot, unpinned_of-le state.cold)

  -- pinned items leave none
  unpinned_of-none : (items : List (Item K V))
      → AllByRecursion (λ item. pinned rules item ≡ true) items → unpinned_weight_of rules items ≡ 0
  unpinned_of-none [] all = refl
  unpinned_of-none (x ∷ xs) all = omega (
    arith,
    sum_by-cons unpinned x xs,
    unpinned-pinned x all.0,
    unpinned_of-none xs all.1,
  )

  -- nothing that is not pinned weighs anything where all in the rings are pinned
  pub unpinned_weight-none : (state : CacheState K V) → AreRingsPinned rules state
      → unpinned_weight rules state ≡ 0
  unpinned_weight-none state all =
      omega (arith, unpinned_of-none state.hot all.hot, unpinned_of-none state.cold all.cold)

  -- one item more
  unpinned_of-push : (items : List (Item K V)) (item : Item K V)
      → unpinned_weight_of rules (items ++ item ∷ [])
      ≡ unpinned_weight_of rules items + unpinned item
  unpinned_of-push items item =
      omega (arith, sum_by-append unpinned items (item ∷ []), sum_by-cons unpinned item [])

  -- an item that is put somewhere
  put-unpinned : (place : Place) (item : Item K V) (state : CacheState K V)
      → unpinned_weight rules (put place item state) ≤ unpinned_weight rules state + unpinned item
  put-unpinned InHot item state = omega (arith, unpinned_of-push state.hot item)
  put-unpinned InCold item state = omega (arith, unpinned_of-push state.cold item)
  put-unpinned InStill item state = omega arith

  -- an item that enters
  pub unpinned_weight-entered : (item : Item K V) (state : CacheState K V)
      → unpinned_weight rules (entered item state) ≤ unpinned_weight rules state + unpinned item
  unpinned_weight-entered item state = put-unpinned (place_of_item item) item state
