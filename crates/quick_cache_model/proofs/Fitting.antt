-- Hook calls that tell of all that became of pairs keep every value fitting its key.
use Rattle.std.proofs.Common.{List, [], ◌∷◌, ◌++◌, map, Option, Some, None, IfSome}
use Rattle.std.specs.List.{AllByRecursion}
use Rattle.std.specs.Option.{option_to_list}
use Rattle.quick_cache_model.specs.CacheState.{CacheState, Item}
use Rattle.quick_cache_model.specs.Hooks.{HookCall, BeforeEvict, EvictHot, EvictCold, Hooks, RunsHooks}
use Rattle.quick_cache_model.specs.Removal.{pair_of}
use Rattle.quick_cache_model.proofs.EachElement.{all-append, all-left, all-right, all-permutation}
use Rattle.quick_cache_model.specs.Fates.{residents}
use Rattle.quick_cache_model.specs.Fitting.{FitsIn, AllFit}
use Rattle.quick_cache_model.specs.Leads.{Leads, Tells, TellsResidents, TellsBeside}

module _ {K V : Type 0} (fits : K → V → Type 0) where
  -- where a value fitted, what `before_evict` left of it fits
  abbrev pub KeepFits : List (HookCall K V) → Type 0
  KeepFits [] = Unit {0}
  KeepFits (BeforeEvict key value left ∷ calls) = (fits key value → fits key left) × KeepFits calls
  KeepFits (EvictHot key value ∷ calls) = KeepFits calls
  KeepFits (EvictCold key value ∷ calls) = KeepFits calls

  -- hooks that keep a value fitting make such calls
  pub RunsHooks-fits : {S : Type 0} (hooks : Hooks K V S)
      → ((old : S) (key : K) (value : V) (new : S) (left : V)
      → hooks.before_evict old key value new left → fits key value → fits key left)
      → (calls : List (HookCall K V)) (first last : S) → RunsHooks hooks calls first last
      → KeepFits calls
  RunsHooks-fits hooks keeps [] first last runs = tt
  RunsHooks-fits hooks keeps (BeforeEvict key value left ∷ calls) first last runs = (
    keeps first key value runs.0 left runs.1,
    RunsHooks-fits hooks keeps calls runs.0 last runs.2,
  )
  RunsHooks-fits hooks keeps (EvictHot key value ∷ calls) first last runs =
      RunsHooks-fits hooks keeps calls runs.0 last runs.2
  RunsHooks-fits hooks keeps (EvictCold key value ∷ calls) first last runs =
      RunsHooks-fits hooks keeps calls runs.0 last runs.2

  -- the value of a pair fits its key
  abbrev pub PairFits : K × V → Type 0
  PairFits pair = fits pair.0 pair.1

  -- the pairs of items that fit
  pairs-fit : (items : List (Item K V)) → AllByRecursion (FitsIn fits) items
      → AllByRecursion PairFits (map pair_of items)
  pairs-fit [] fit = tt
  pairs-fit (item ∷ items) fit = (fit.0, pairs-fit items fit.1)

  -- and back
  items-fit : (items : List (Item K V)) → AllByRecursion PairFits (map pair_of items)
      → AllByRecursion (FitsIn fits) items
  items-fit [] fit = tt
  items-fit (item ∷ items) fit = (fit.0, items-fit items fit.1)

  -- where all values fit, so do those of the residents
  pub AllFit-residents : (state : CacheState K V) → AllFit fits state
      → AllByRecursion PairFits (residents state)
  AllFit-residents state fit =
      pairs-fit (state.hot ++ (state.cold ++ state.still))
      (all-append (FitsIn fits) state.hot (state.cold ++ state.still) fit.hot
      (all-append (FitsIn fits) state.cold state.still fit.cold fit.still))

  -- and back
  residents-AllFit : (state : CacheState K V) → AllByRecursion PairFits (residents state)
      → AllFit fits state
  residents-AllFit state fit =
      let all = items-fit (state.hot ++ (state.cold ++ state.still)) fit in
      let rest = all-right (FitsIn fits) state.hot (state.cold ++ state.still) all in
      record {
        hot = all-left (FitsIn fits) state.hot (state.cold ++ state.still) all;
        cold = all-left (FitsIn fits) state.cold state.still rest;
        still = all-right (FitsIn fits) state.cold state.still rest;
      }

  -- where hook calls tell of all that became of pairs, and what `before_evict` left fits, each fits
  Tells-fits : (pairs others : List (K × V)) (calls : List (HookCall K V)) → KeepFits calls
      → Tells pairs calls others → AllByRecursion PairFits pairs
      → AllByRecursion PairFits others
  Tells-fits pairs others [] keep (Leads.rests _ _ order) fit =
      all-permutation PairFits pairs others order fit
  Tells-fits pairs others (BeforeEvict key value left ∷ calls) keep
      (Leads.changes _ _ _ _ rest _ _ order leads) fit =
      let was = all-permutation PairFits pairs ((key, value) ∷ rest) order fit in
      Tells-fits ((key, left) ∷ rest) others calls keep.1 leads (keep.0 was.0, was.1)
  Tells-fits pairs others (EvictHot key value ∷ calls) keep
      (Leads.leaves _ _ _ rest _ _ order leads) fit =
      let was = all-permutation PairFits pairs ((key, value) ∷ rest) order fit in
      Tells-fits rest others calls keep leads was.1
  Tells-fits pairs others (EvictCold key value ∷ calls) keep
      (Leads.leaves _ _ _ rest _ _ order leads) fit =
      let was = all-permutation PairFits pairs ((key, value) ∷ rest) order fit in
      Tells-fits rest others calls keep leads was.1

  -- so values keep fitting where all that became of the residents was told
  pub TellsResidents-fits : (old new : CacheState K V) (calls : List (HookCall K V))
      → KeepFits calls → TellsResidents old calls new → AllFit fits old → AllFit fits new
  TellsResidents-fits old new calls keep tells fit =
      residents-AllFit new
      (Tells-fits (residents old) (residents new) calls keep tells (AllFit-residents old fit))

  -- or of them and of a pair that fits
  pub TellsBeside-fits : (key : K) (value : V) (old new : CacheState K V)
      (calls : List (HookCall K V)) (back : Option (K × V)) → KeepFits calls
      → TellsBeside key value old calls back new → fits key value → AllFit fits old
      → AllFit fits new
  TellsBeside-fits key value old new calls back keep tells is fit =
      residents-AllFit new
      (all-right PairFits (option_to_list back) (residents new)
      (Tells-fits ((key, value) ∷ residents old) (option_to_list back ++ residents new) calls keep
      tells (is, AllFit-residents old fit)))

  -- and the pair that is given back fits
  pub TellsBeside-gives : (key : K) (value : V) (old new : CacheState K V)
      (calls : List (HookCall K V)) (back : Option (K × V)) → KeepFits calls
      → TellsBeside key value old calls back new → fits key value → AllFit fits old
      → IfSome back PairFits
  TellsBeside-gives key value old new calls None keep tells is fit = tt
  TellsBeside-gives key value old new calls (Some back) keep tells is fit =
      (Tells-fits ((key, value) ∷ residents old) (back ∷ residents new) calls keep tells
      (is, AllFit-residents old fit)).0
