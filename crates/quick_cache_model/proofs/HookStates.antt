-- Hook calls at pairs that fit lead a request state to no state that they do not keep.
use Rattle.std.proofs.Common.{List, [], ◌∷◌, ◌++◌, Option, sym, subst}
use Rattle.std.specs.List.{AllByRecursion}
use Rattle.std.specs.Option.{option_to_list}
use Rattle.quick_cache_model.specs.CacheState.{CacheState}
use Rattle.quick_cache_model.specs.Hooks.{HookCall, BeforeEvict, EvictHot, EvictCold, Hooks, RunsHooks}
use Rattle.quick_cache_model.proofs.EachElement.{all-permutation}
use Rattle.quick_cache_model.specs.Fates.{residents}
use Rattle.quick_cache_model.specs.Fitting.{AllFit}
use Rattle.quick_cache_model.specs.Leads.{Leads, Tells, TellsBeside}
use Rattle.quick_cache_model.proofs.Fitting.{PairFits, AllFit-residents}

-- Each hook call at a pair that fits keeps what holds of the request state, and leaves a value that
-- fits.
pub record HooksKeep {K V S : Type 0} (fits : K → V → Type 0) (hooks : Hooks K V S)
    (P : S → Type 0) : Type 0 where
  pub before : (was : S) (key : K) (value : V) (now : S) (left : V)
      → hooks.before_evict was key value now left → fits key value → P was → P now
  pub leaves : (was : S) (key : K) (value : V) (now : S) (left : V)
      → hooks.before_evict was key value now left → fits key value → fits key left
  pub hot : (was : S) (key : K) (value : V) (now : S) → hooks.evict_hot was key value now
      → fits key value → P was → P now
  pub cold : (was : S) (key : K) (value : V) (now : S) → hooks.evict_cold was key value now
      → fits key value → P was → P now

module _ {K V S : Type 0} (fits : K → V → Type 0) (hooks : Hooks K V S) (P : S → Type 0)
    (keep : HooksKeep fits hooks P) where
  -- so what holds of the first request state holds of the last
  pub Tells-keeps : (pairs others : List (K × V)) (calls : List (HookCall K V)) (first last : S)
      → RunsHooks hooks calls first last → Tells pairs calls others
      → AllByRecursion (PairFits fits) pairs → P first → P last
  Tells-keeps pairs others [] first last runs (Leads.rests _ _ order) fit holds =
      subst P (sym runs) holds
  Tells-keeps pairs others (BeforeEvict key value left ∷ calls) first last runs
      (Leads.changes _ _ _ _ rest _ _ order leads) fit holds =
      let was = all-permutation (PairFits fits) pairs ((key, value) ∷ rest) order fit in
      Tells-keeps ((key, left) ∷ rest) others calls runs.0 last runs.2 leads
      (keep.leaves first key value runs.0 left runs.1 was.0, was.1)
      (keep.before first key value runs.0 left runs.1 was.0 holds)
  Tells-keeps pairs others (EvictHot key value ∷ calls) first last runs
      (Leads.leaves _ _ _ rest _ _ order leads) fit holds =
      let was = all-permutation (PairFits fits) pairs ((key, value) ∷ rest) order fit in
      Tells-keeps rest others calls runs.0 last runs.2 leads was.1
      (keep.hot first key value runs.0 runs.1 was.0 holds)
  Tells-keeps pairs others (EvictCold key value ∷ calls) first last runs
      (Leads.leaves _ _ _ rest _ _ order leads) fit holds =
      let was = all-permutation (PairFits fits) pairs ((key, value) ∷ rest) order fit in
      Tells-keeps rest others calls runs.0 last runs.2 leads was.1
      (keep.cold first key value runs.0 runs.1 was.0 holds)

  -- or of them and of a pair that fits
  pub TellsBeside-keeps : (key : K) (value : V) (old new : CacheState K V)
      (calls : List (HookCall K V)) (back : Option (K × V)) (first last : S)
      → RunsHooks hooks calls first last → TellsBeside key value old calls back new
      → fits key value → AllFit fits old → P first → P last
  TellsBeside-keeps key value old new calls back first last runs tells is fit =
      Tells-keeps ((key, value) ∷ residents old) (option_to_list back ++ residents new) calls first
      last runs tells (is, AllFit-residents fits old fit)
