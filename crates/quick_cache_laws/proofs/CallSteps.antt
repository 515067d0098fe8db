-- A call is a list of steps of the definitions.
use Rattle.std.proofs.Common.{ℕ, Bool, true, false, List, ◌++◌, Option, Some, None, subst, sym, map, refl}
use Rattle.std.specs.Cmp.{IsEquivalence}
use Rattle.quick_cache_model.specs.CacheState.{CacheState, UpToOrder}
use Rattle.quick_cache_model.specs.Capacity.{SetsCapacity}
use Rattle.quick_cache_model.specs.Hooks.{Rules, HookCall}
use Rattle.quick_cache_model.specs.Lookups.{LooksUp}
use Rattle.quick_cache_model.specs.Placeholders.{FillsPlaceholder, GivesUpPlaceholder}
use Rattle.quick_cache_model.specs.Removal.{Removes, RemovesIf, Retains, cleared, pair_of}
use Rattle.quick_cache_model.specs.Writes.{Strategy, Writes, Insert as insertion}
use Rattle.quick_cache_laws.specs.Steps.{Step, Steps}
use Rattle.quick_cache_model.specs.declared.calls.call.Call.{Call}
use Rattle.quick_cache_model.specs.declared.calls.reply.Reply.{Reply}
use Rattle.quick_cache_model.specs.CacheRun.{CacheRun}
use Rattle.quick_cache_model.specs.CacheStep.{CacheStep}
use Rattle.quick_cache_model.specs.Kinds.{replacement}
use Rattle.quick_cache_model.specs.Loads.{TakesPlaceholder, Loads, LoadsNothing, WritesIfGiven}
use Rattle.quick_cache_model.specs.References.{WritesItem}
use Rattle.quick_cache_model.proofs.TakenKeys.{stands_for}
use Rattle.std.proofs.lemmas.List.Sorted.{IsPermutation-refl}

module _ {K V : Type 0} (equal : K → K → Bool) (laws : IsEquivalence equal)
    (rules : Rules K V) where
  -- one step
  one_step : (old new : CacheState K V) → Step equal rules old new → Steps equal rules old new
  one_step old new step = Steps.goes_on old new new step (Steps.done new)

  -- steps and more steps
  pub Steps-append : (old mid new : CacheState K V) → Steps equal rules old mid
      → Steps equal rules mid new → Steps equal rules old new
  Steps-append _ _ new (Steps.done state) rest = rest
  Steps-append _ _ new (Steps.goes_on old next mid step steps) rest =
      Steps.goes_on old next new step (Steps-append next mid new steps rest)

  -- a step up to the order of what has none
  ordered : (P : CacheState K V → Type 0) (old new : CacheState K V) → UpToOrder P new
      → ((state : CacheState K V) → P state → Steps equal rules old state)
      → Steps equal rules old new
  ordered P old new up steps =
      Steps-append old up.ordered new (steps up.ordered up.holds)
      (one_step up.ordered new (Step.orders new up.same))

  module _ (old : CacheState K V) (key : K) where
    written : (strategy : Strategy) (value : V) (calls : List (HookCall K V))
        (answer : Option (K × V)) (new : CacheState K V)
        → UpToOrder (Writes rules (equal key) key strategy old value calls answer) new
        → Steps equal rules old new
    written strategy value calls answer new writes =
        ordered (Writes rules (equal key) key strategy old value calls answer) old new writes
        (λ state write. one_step old state
        (Step.writes key strategy value calls answer state write))

    looked : (found : Option V) (new : CacheState K V)
        → UpToOrder (LooksUp (equal key) old (λ item. item.value) found) new
        → Steps equal rules old new
    looked found new looks =
        ordered (LooksUp (equal key) old (λ item. item.value) found) old new looks
        (λ state look. one_step old state (Step.looks_up (equal key) found state look))

    rewritten_there : (left : V) (there : Bool) (new : CacheState K V)
        → WritesItem rules (equal key) old left there new → Steps equal rules old new
    rewritten_there left _ _ (WritesItem.written place before item after there) =
        one_step old _ (Step.reweighs (equal key) place before item after left there)
    rewritten_there left _ _ (WritesItem.unwritten none) = Steps.done old

    rewritten_steps : (left : V) (there : Bool) (new : CacheState K V)
        → UpToOrder (WritesItem rules (equal key) old left there) new
        → Steps equal rules old new
    rewritten_steps left there new writes =
        ordered (WritesItem rules (equal key) old left there) old new writes
        (rewritten_there left there)

    if_given : (left : Option V) (there : Bool) (new : CacheState K V)
        → WritesIfGiven rules (equal key) old left there new → Steps equal rules old new
    if_given None there new same =
        subst (λ state. Steps equal rules old state) (sym same) (Steps.done old)
    if_given (Some left) there new writes = rewritten_steps left there new writes

    takes : (hash ticket : ℕ) (new : CacheState K V)
        → TakesPlaceholder (equal key) hash old ticket new → Steps equal rules old new
    takes hash _ new (TakesPlaceholder.makes own _ provided makes) =
        one_step old new (Step.makes (equal key) hash own new
        (λ other. laws.congr key own other (stands_for equal key hash old own new makes)) makes)
    takes hash ticket new (TakesPlaceholder.meets _ _ meets) =
        one_step old new (Step.meets (equal key) ticket new meets)

    pub taken : (hash ticket : ℕ) (new : CacheState K V)
        → UpToOrder (TakesPlaceholder (equal key) hash old ticket) new
        → Steps equal rules old new
    taken hash ticket new up =
        ordered (TakesPlaceholder (equal key) hash old ticket) old new up (takes hash ticket)

    loaded : (hash : ℕ) (value : V) (calls : List (HookCall K V)) (new : CacheState K V)
        → Loads rules (equal key) hash old value calls new → Steps equal rules old new
    loaded hash value calls new loads =
        Steps-append old loads.mid new (taken hash loads.ticket loads.mid loads.takes)
        (ordered (FillsPlaceholder loads.ticket loads.mid rules false value calls None) loads.mid
        new loads.fills (λ state fill. one_step loads.mid state
        (Step.fills loads.ticket false value calls None state fill)))

    loaded_nothing : (hash : ℕ) (new : CacheState K V)
        → LoadsNothing rules (equal key) hash old new → Steps equal rules old new
    loaded_nothing hash new loads =
        Steps-append old loads.mid new (taken hash loads.ticket loads.mid loads.takes)
        (ordered (GivesUpPlaceholder loads.ticket loads.mid) loads.mid new loads.gives_up
        (λ state gives_up. one_step loads.mid state
        (Step.gives_up loads.ticket state gives_up)))

  -- a clear is a drain whose pairs are dropped
  cleared_steps : (old : CacheState K V) → Steps equal rules old (cleared old)
  cleared_steps old =
      let pairs = map pair_of (old.hot ++ old.cold ++ old.still) in
      one_step old (cleared old) (Step.drains pairs (cleared old)
      (IsPermutation-refl pairs, refl))

module _ {K V F M : Type 0} (rules : Rules K V) (equal : K → K → Bool)
    (laws : IsEquivalence equal) (shows_key : K → K → Type 0) (shows : V → V → Type 0)
    (answers : F → K → V → Bool) where
  pub CacheStep-steps : (old : CacheState K V) (call : Call K V F) (reply : Reply K V M)
      (calls : List (HookCall K V)) (new : CacheState K V)
      → CacheStep rules equal shows_key shows answers old call reply calls new
      → Steps equal rules old new
  CacheStep-steps old _ _ _ _ (CacheStep.inserts key value calls new provided writes) =
      written equal laws rules old key insertion value calls None new writes
  CacheStep-steps old _ _ _ _ (CacheStep.refuses_insert key value refusal cause) = Steps.done old
  CacheStep-steps old _ _ _ _ (CacheStep.replaces key value soft calls new writes) =
      written equal laws rules old key (replacement soft) value calls None new writes
  CacheStep-steps old _ _ _ _ (CacheStep.gives_back key value soft back calls new writes) =
      written equal laws rules old key (replacement soft) value calls (Some back) new writes
  CacheStep-steps old _ _ _ _ (CacheStep.gets key found shown new looks is) =
      looked equal laws rules old key found new looks
  CacheStep-steps old _ _ _ _ (CacheStep.peeks key found shown sees is) = Steps.done old
  CacheStep-steps old _ _ _ _
      (CacheStep.refuses_look call key refusal place before item after look there cause) =
      Steps.done old
  CacheStep-steps old _ _ _ _
      (CacheStep.gets_mut key value found there mid new looks writes) =
      Steps-append equal laws rules old mid new (looked equal laws rules old key found mid looks)
      (rewritten_steps equal laws rules mid key value there new writes)
  CacheStep-steps old _ _ _ _ (CacheStep.peeks_mut key value there new writes) =
      rewritten_steps equal laws rules old key value there new writes
  CacheStep-steps old _ _ _ _ (CacheStep.tells key there tells) = Steps.done old
  CacheStep-steps old _ _ _ _ (CacheStep.tells_reads key reads sees) = Steps.done old
  CacheStep-steps old _ _ _ _ (CacheStep.removes key answer new removes) =
      ordered equal laws rules (Removes (equal key) old (rules.hash key) answer) old new removes
      (λ state remove. one_step equal laws rules old state
      (Step.removes (equal key) (rules.hash key) answer state remove))
  CacheStep-steps old _ _ _ _ (CacheStep.removes_if key wanted answer new removes) =
      ordered equal laws rules (RemovesIf (equal key) old (answers wanted key) answer) old new
      removes (λ state remove. one_step equal laws rules old state
      (Step.removes_if (equal key) (answers wanted key) answer state remove))
  CacheStep-steps old _ _ _ _
      (CacheStep.finds call key given left found shown mid new is_load looks is writes) =
      Steps-append equal laws rules old mid new
      (looked equal laws rules old key (Some found) mid looks)
      (if_given equal laws rules mid key left true new writes)
  CacheStep-steps old _ _ _ _ (CacheStep.loads key value there calls new loads tells) =
      loaded equal laws rules old key (rules.hash key) value calls new loads
  CacheStep-steps old _ _ _ _
      (CacheStep.loads_mut key value left there calls mid new loads writes) =
      Steps-append equal laws rules old mid new
      (loaded equal laws rules old key (rules.hash key) value calls mid loads)
      (rewritten_steps equal laws rules mid key left there new writes)
  CacheStep-steps old _ _ _ _ (CacheStep.fails key new loads) =
      loaded_nothing equal laws rules old key (rules.hash key) new loads
  CacheStep-steps old _ _ _ _ (CacheStep.fails_mut key left new loads) =
      loaded_nothing equal laws rules old key (rules.hash key) new loads
  CacheStep-steps old _ _ _ _ (CacheStep.fills key value calls new loads) =
      loaded equal laws rules old key (rules.hash key) value calls new loads
  CacheStep-steps old _ _ _ _ (CacheStep.fills_mut key value left calls new loads) =
      loaded equal laws rules old key (rules.hash key) value calls new loads
  CacheStep-steps old _ _ _ _ (CacheStep.drops key new loads) =
      loaded_nothing equal laws rules old key (rules.hash key) new loads
  CacheStep-steps old _ _ _ _ (CacheStep.drops_mut key left new loads) =
      loaded_nothing equal laws rules old key (rules.hash key) new loads
  CacheStep-steps old _ _ _ _
      (CacheStep.refuses_found call key given left refusal place before item after is_load there
      cause) = Steps.done old
  CacheStep-steps old _ _ _ _
      (CacheStep.refuses_load call key given left refusal is_load cause) = Steps.done old
  CacheStep-steps old _ _ _ _ (CacheStep.walks found pairs order shown) = Steps.done old
  CacheStep-steps old _ _ _ _ (CacheStep.drains pairs new drains) =
      one_step equal laws rules old new (Step.drains pairs.items new drains)
  CacheStep-steps old _ _ _ _ CacheStep.clears = cleared_steps equal laws rules old
  CacheStep-steps old _ _ _ _ (CacheStep.retains keep new retains) =
      ordered equal laws rules (Retains (answers keep) old) old new retains
      (λ state retain. one_step equal laws rules old state
      (Step.retains (answers keep) state retain))
  CacheStep-steps old _ _ _ _ CacheStep.counts = Steps.done old
  CacheStep-steps old _ _ _ _ (CacheStep.sets_capacity capacity calls new sets) =
      ordered equal laws rules (SetsCapacity rules capacity old calls) old new sets
      (λ state set. one_step equal laws rules old state
      (Step.sets_capacity capacity calls state set))
  CacheStep-steps old _ _ _ _ (CacheStep.reserves count) = Steps.done old
  CacheStep-steps old _ _ _ _ (CacheStep.refuses_room call refusal makes_room cause) =
      Steps.done old

  -- and a run
  pub CacheRun-steps : (old : CacheState K V) (calls : List (Call K V F))
      (replies : List (Reply K V M)) (hook_calls : List (HookCall K V)) (new : CacheState K V)
      → CacheRun rules equal shows_key shows answers old calls replies hook_calls new
      → Steps equal rules old new
  CacheRun-steps _ _ _ _ _ (CacheRun.ends state) = Steps.done state
  CacheRun-steps _ _ _ _ _
      (CacheRun.goes_on old mid new call reply calls replies first rest step run) =
      Steps-append equal laws rules old mid new
      (CacheStep-steps old call reply first mid step)
      (CacheRun-steps mid calls replies rest new run)
