-- For the crates above: what may be shown for keys and values is what the relations say, and more
-- may be shown by wider ones. What was found is shown by itself.
use Rattle.std.proofs.Common.{Bool, List, [], ◌∷◌, Option, Some, None, refl}
use Rattle.quick_cache_model.specs.CacheState.{CacheState}
use Rattle.quick_cache_model.specs.Hooks.{Rules, HookCall}
use Rattle.quick_cache_model.specs.declared.calls.call.Call.{Call}
use Rattle.quick_cache_model.specs.declared.calls.reply.Reply.{Reply}
use Rattle.quick_cache_model.specs.CacheRun.{CacheRun}
use Rattle.quick_cache_model.specs.CacheStep.{CacheStep}
use Rattle.quick_cache_model.specs.Shown.{IsShown, IsItself, ArePairsShown}

module _ {V : Type 0} (shows other : V → V → Type 0)
    (wider : (v w : V) → shows v w → other v w) where
  pub IsShown-wider : (found shown : Option V) → IsShown shows found shown
      → IsShown other found shown
  IsShown-wider None None is = tt
  IsShown-wider None (Some shown) is = absurd is
  IsShown-wider (Some value) None is = absurd is
  IsShown-wider (Some value) (Some shown) is = wider value shown is

module _ {K V : Type 0} (shows_key other_key : K → K → Type 0) (shows other : V → V → Type 0)
    (wider_key : (k l : K) → shows_key k l → other_key k l)
    (wider : (v w : V) → shows v w → other v w) where
  pub ArePairsShown-wider : (found shown : List (K × V))
      → ArePairsShown shows_key shows found shown → ArePairsShown other_key other found shown
  ArePairsShown-wider [] [] are = tt
  ArePairsShown-wider [] (y ∷ ys) are = absurd are
  ArePairsShown-wider (x ∷ xs) [] are = absurd are
  ArePairsShown-wider (x ∷ xs) (y ∷ ys) are =
      (wider_key x.0 y.0 are.0, wider x.1 y.1 are.1, ArePairsShown-wider xs ys are.2)

  module _ {F M : Type 0} (rules : Rules K V) (equal : K → K → Bool)
      (answers : F → K → V → Bool) (old : CacheState K V) where
    pub CacheStep-wider : {call : Call K V F} {reply : Reply K V M}
        {calls : List (HookCall K V)} {new : CacheState K V}
        → CacheStep rules equal shows_key shows answers old call reply calls new
        → CacheStep rules equal other_key other answers old call reply calls new
    CacheStep-wider (CacheStep.inserts key value calls new provided writes) =
        CacheStep.inserts key value calls new provided writes
    CacheStep-wider (CacheStep.refuses_insert key value refusal cause) =
        CacheStep.refuses_insert key value refusal cause
    CacheStep-wider (CacheStep.replaces key value soft calls new writes) =
        CacheStep.replaces key value soft calls new writes
    CacheStep-wider (CacheStep.gives_back key value soft back calls new writes) =
        CacheStep.gives_back key value soft back calls new writes
    CacheStep-wider (CacheStep.gets key found shown new looks is) =
        CacheStep.gets key found shown new looks (IsShown-wider shows other wider found shown is)
    CacheStep-wider (CacheStep.peeks key found shown sees is) =
        CacheStep.peeks key found shown sees (IsShown-wider shows other wider found shown is)
    CacheStep-wider (CacheStep.refuses_look call key refusal place before item after look there
        cause) = CacheStep.refuses_look call key refusal place before item after look there cause
    CacheStep-wider (CacheStep.gets_mut key value found there mid new looks writes) =
        CacheStep.gets_mut key value found there mid new looks writes
    CacheStep-wider (CacheStep.peeks_mut key value there new writes) =
        CacheStep.peeks_mut key value there new writes
    CacheStep-wider (CacheStep.tells key there tells) = CacheStep.tells key there tells
    CacheStep-wider (CacheStep.tells_reads key reads sees) = CacheStep.tells_reads key reads sees
    CacheStep-wider (CacheStep.removes key answer new removes) =
        CacheStep.removes key answer new removes
    CacheStep-wider (CacheStep.removes_if key wanted answer new removes) =
        CacheStep.removes_if key wanted answer new removes
    CacheStep-wider (CacheStep.finds call key given left found shown mid new is_load looks is
        writes) =
        CacheStep.finds call key given left found shown mid new is_load looks
        (wider found shown is) writes
    CacheStep-wider (CacheStep.loads key value there calls new loads tells) =
        CacheStep.loads key value there calls new loads tells
    CacheStep-wider (CacheStep.loads_mut key value left there calls mid new loads writes) =
        CacheStep.loads_mut key value left there calls mid new loads writes
    CacheStep-wider (CacheStep.fails key new loads) = CacheStep.fails key new loads
    CacheStep-wider (CacheStep.fails_mut key left new loads) =
        CacheStep.fails_mut key left new loads
    CacheStep-wider (CacheStep.fills key value calls new loads) =
        CacheStep.fills key value calls new loads
    CacheStep-wider (CacheStep.fills_mut key value left calls new loads) =
        CacheStep.fills_mut key value left calls new loads
    CacheStep-wider (CacheStep.drops key new loads) = CacheStep.drops key new loads
    CacheStep-wider (CacheStep.drops_mut key left new loads) =
        CacheStep.drops_mut key left new loads
    CacheStep-wider (CacheStep.refuses_found call key given left refusal place before item after
        is_load there cause) =
        CacheStep.refuses_found call key given left refusal place before item after is_load there
        cause
    CacheStep-wider (CacheStep.refuses_load call key given left refusal is_load cause) =
        CacheStep.refuses_load call key given left refusal is_load cause
    CacheStep-wider (CacheStep.walks found pairs order shown) =
        CacheStep.walks found pairs order (ArePairsShown-wider found pairs.items shown)
    CacheStep-wider (CacheStep.drains pairs new drains) = CacheStep.drains pairs new drains
    CacheStep-wider CacheStep.clears = CacheStep.clears
    CacheStep-wider (CacheStep.retains keep new retains) = CacheStep.retains keep new retains
    CacheStep-wider CacheStep.counts = CacheStep.counts
    CacheStep-wider (CacheStep.sets_capacity capacity calls new sets) =
        CacheStep.sets_capacity capacity calls new sets
    CacheStep-wider (CacheStep.reserves count) = CacheStep.reserves count
    CacheStep-wider (CacheStep.refuses_room call refusal makes_room cause) =
        CacheStep.refuses_room call refusal makes_room cause

  module _ {F M : Type 0} (rules : Rules K V) (equal : K → K → Bool)
      (answers : F → K → V → Bool) where
    pub CacheRun-wider : {old : CacheState K V} {calls : List (Call K V F)}
        {replies : List (Reply K V M)} {hook_calls : List (HookCall K V)} {new : CacheState K V}
        → CacheRun rules equal shows_key shows answers old calls replies hook_calls new
        → CacheRun rules equal other_key other answers old calls replies hook_calls new
    CacheRun-wider (CacheRun.ends state) = CacheRun.ends state
    CacheRun-wider (CacheRun.goes_on old mid new call reply calls replies first rest step run) =
        CacheRun.goes_on old mid new call reply calls replies first rest
        (CacheStep-wider rules equal answers old step) (CacheRun-wider run)

-- what was found is shown by itself
pub IsShown-itself : {V : Type 0} (found : Option V) → IsShown IsItself found found
IsShown-itself None = tt
IsShown-itself (Some value) = refl
