-- Loads that are made by a guard, or are told what was found.
use Rattle.std.proofs.Common.{◌≡◌, ℕ, Bool, true, false, List, [], ◌∷◌, ◌++◌, Option, Some, None, refl, ap, subst, sym, ◌∙◌}
use Rattle.std.specs.Bool.{OnTrue, OnFalse}
use Rattle.std.specs.List.{AllByRecursion}
use Rattle.std.specs.Prelude.{nat_eq}
use Rattle.std.specs.declared.alloc.Global.{Global}
use Rattle.quick_cache_model.proofs.EachElement.{all-middle, all-permutation}
use Rattle.std.proofs.lemmas.List.Sorted.{IsPermutation-sym}
use Rattle.quick_cache_model.specs.CacheState.{CacheState, Item, Place, InHot, InCold, InStill, SameButOrder, UpToOrder}
use Rattle.quick_cache_model.specs.Finding.{IsItemAt, HasNoItem}
use Rattle.quick_cache_model.specs.Hooks.{Rules, Hooks, HookCall, Calls}
use Rattle.quick_cache_model.specs.Lookups.{LooksUp, looked_up}
use Rattle.quick_cache_model.specs.Placeholders.{GivesUpPlaceholder}
use Rattle.quick_cache_model.specs.Refusals.{MayRefuse, needs_of_placeholder}
use Rattle.quick_cache_model.specs.declared.refusal.Refusal.{Refusal}
use Rattle.quick_cache_model.specs.CacheStep.{CacheStep}
use Rattle.quick_cache_model.specs.Kinds.{IsLoad}
use Rattle.quick_cache_model.specs.declared.calls.call.Call.{Call}
use Rattle.quick_cache_model.specs.declared.calls.reply.Reply.{Reply}
use Rattle.quick_cache_shard.specs.References.{IsValueUnder, NotesLookUp}
use Rattle.quick_cache_shard.specs.Shard.{HasItem}
use Rattle.quick_cache_unsync.specs.Loads.{Takes, FillsIfThere}
use Rattle.quick_cache_unsync.proofs.LoadLemmas.{Takes-awaited, Takes-takes, Takes-nothing, Fills-awaited, tells-item}
use Rattle.qcrun_parts.specs.Served.{Serves}

-- what holds wherever an element may stand holds of each
all-splits : {X : Type 0} (P : X → Type 0) (xs : List X)
    → ((before : List X) (x : X) (after : List X) → xs ≡ before ++ x ∷ after → P x)
    → AllByRecursion P xs
all-splits P [] holds = tt
all-splits {X} P (x ∷ xs) holds = (
  holds [] x xs refl,
  all-splits P xs (λ before y after split.
      holds (x ∷ before) y after (ap (λ (ys : List X). x ∷ ys) split)),
)

module _ {K V : Type 0} (test : K → Bool) (value : V) where
  -- the value under a query, whatever the order of what has none
  under-reordered : (old new : CacheState K V) → SameButOrder old new
      → IsValueUnder test new value
      → (place : Place) (before : List (Item K V)) (item : Item K V) (after : List (Item K V))
      → IsItemAt test old place before item after → value ≡ item.value
  under-reordered old new order is InHot before item after at =
      is InHot before item after (record {
        split = ap (λ (s : CacheState K V). s.hot) order.same ∙ at.split;
        passes = at.passes;
      })
  under-reordered old new order is InCold before item after at =
      is InCold before item after (record {
        split = ap (λ (s : CacheState K V). s.cold) order.same ∙ at.split;
        passes = at.passes;
      })
  under-reordered old new order is InStill before item after at =
      let P : Item K V → Type 0 = λ it. test it.key ≡ true → value ≡ it.value in
      all-middle P before item after
      (subst (λ (items : List (Item K V)). AllByRecursion P items) at.split
      (all-permutation P new.still old.still
      (IsPermutation-sym old.still new.still order.still)
      (all-splits P new.still (λ front it back split passes.
      is InStill front it back (record { split = split; passes = passes })))))
      at.passes

  -- the value under a query behind a look-up that found it
  value-hit : (old : CacheState K V) (seen : V) (state new : CacheState K V)
      → LooksUp test old (λ item. item.value) (Some seen) state → SameButOrder state new
      → IsValueUnder test new value → value ≡ seen
  value-hit old _ _ new (LooksUp.hit InHot before item after at) order is =
      under-reordered _ new order is InHot before (looked_up old.mark_cut item) after
      (record { split = refl; passes = at.passes })
  value-hit old _ _ new (LooksUp.hit InCold before item after at) order is =
      under-reordered _ new order is InCold before (looked_up old.mark_cut item) after
      (record { split = refl; passes = at.passes })
  value-hit old _ _ new (LooksUp.hit InStill before item after at) order is =
      under-reordered _ new order is InStill before (looked_up old.mark_cut item) after
      (record { split = refl; passes = at.passes })

-- what a look-up found is told, as it stands
pub guarded-finds : (rules : Rules ℕ ℕ) (old new : CacheState ℕ ℕ) (key query : ℕ)
    (given : Option ℕ) (value : ℕ) → query ≡ key → NotesLookUp (nat_eq key) old true new
    → IsValueUnder (nat_eq query) new value
    → Serves rules old (Call.Guarded key given) (Reply.Found value) [] new
guarded-finds rules old new key query given value same looks is =
    let under = subst (λ (k : ℕ). IsValueUnder (nat_eq k) new value) same is in
    let seen : value ≡ looks.0 =
    value-hit (nat_eq key) value old looks.0 looks.1.ordered new looks.1.holds looks.1.same under
    in (
      CacheStep.finds (Call.Guarded key given) key given None value value new new
          (IsLoad.guarded given)
          (subst (λ (v : ℕ). UpToOrder (LooksUp (nat_eq key) old (λ item. item.value) (Some v)) new)
          (sym seen) looks.1) refl refl,
      tt,
    )

-- a load that was refused changes nothing
pub guarded-refused : (rules : Rules ℕ ℕ) (old : CacheState ℕ ℕ) (key : ℕ) (given : Option ℕ)
    (refusal : Refusal)
    → MayRefuse (needs_of_placeholder (nat_eq key) (rules.hash key) old) old refusal
    → Serves rules old (Call.Guarded key given) (Reply.Refused refusal) [] old
guarded-refused rules old key given refusal may = (
  CacheStep.refuses_load (Call.Guarded key given) key given None refusal (IsLoad.guarded given)
      may,
  may,
)

-- A placeholder was taken for the key.
module _ (rules : Rules ℕ ℕ) (old mid new : CacheState ℕ ℕ) (key ticket : ℕ)
    {gives : ℕ → Type 0} (takes : Takes (nat_eq key) gives (rules.hash key) old ticket mid) where
  -- its guard is dropped
  pub guarded-drops : UpToOrder (GivesUpPlaceholder ticket mid) new
      → Serves rules old (Call.Guarded key None) Reply.Dropped [] new
  guarded-drops gone = (
    CacheStep.drops key new
        (Takes-nothing (nat_eq key) gives (rules.hash key) old rules ticket mid new takes gone),
    tt,
  )

  -- its guard fills it
  pub guarded-fills : {S : Type 0} (hooks : Hooks ℕ ℕ S) (value : ℕ) (first last : S)
      → FillsIfThere (Unit {0}) hooks rules ticket mid value first new last
      → Calls hooks (λ calls. Serves rules old (Call.Guarded key (Some value)) Reply.Filled calls
      new) first
      last
  guarded-fills hooks value first last fills =
      let filled = Fills-awaited (Unit {0}) hooks rules ticket false value mid new first last
      fills.answer (Takes-awaited (nat_eq key) gives (rules.hash key) old ticket mid takes)
      fills.fills in
      record {
        calls = filled.calls;
        holds = (
          CacheStep.fills key value filled.calls new (record {
            ticket = ticket;
            mid = mid;
            takes = Takes-takes (nat_eq key) gives (rules.hash key) old ticket mid takes;
            fills = filled.holds.step tt;
          }),
          tt,
        );
        runs = filled.runs;
      }

module _ (rules : Rules ℕ ℕ) (old : CacheState ℕ ℕ) (key : ℕ) where
  -- a guard that was filled loads its value
  pub load-filled : (given : Option ℕ) (there : Bool) (hook_calls : List (HookCall ℕ ℕ))
      (new : CacheState ℕ ℕ) → Serves rules old (Call.Guarded key given) Reply.Filled hook_calls new
      → OnTrue there (HasItem (nat_eq key) new) → OnFalse there (HasNoItem (nat_eq key) new)
      → Serves rules old (Call.Load key given) (Reply.Loaded there) hook_calls new
  load-filled _ there _ _ (CacheStep.fills _ value calls new loads, made) item none = (
    CacheStep.loads key value there calls new loads
        (tells-item (nat_eq key) new there item none),
    tt,
  )

  -- one that was dropped is a load that failed
  pub load-dropped : (given : Option ℕ) (hook_calls : List (HookCall ℕ ℕ)) (new : CacheState ℕ ℕ)
      → Serves rules old (Call.Guarded key given) Reply.Dropped hook_calls new
      → Serves rules old (Call.Load key given) Reply.LoadFailed hook_calls new
  load-dropped _ _ _ (CacheStep.drops _ new nothing, made) = (CacheStep.fails key new nothing, tt)

  -- and where no guard was given, the value was found, or the load refused
  pub load-other : (given : Option ℕ) (reply : Reply ℕ ℕ Global)
      (hook_calls : List (HookCall ℕ ℕ)) (new : CacheState ℕ ℕ)
      → Serves rules old (Call.Guarded key given) reply hook_calls new
      → (reply ≡ Reply.Filled → ⊥) → (reply ≡ Reply.Dropped → ⊥)
      → Serves rules old (Call.Load key given) reply hook_calls new
  load-other _ _ _ _ (CacheStep.fills _ value _ _ loads, made) unfilled undropped =
      absurd (unfilled refl)
  load-other _ _ _ _ (CacheStep.drops _ _ nothing, made) unfilled undropped =
      absurd (undropped refl)
  load-other given _ _ new (
    CacheStep.finds _ _ _ _ found shown mid _ (IsLoad.guarded _) looks
        shows writes,
    made,
  ) unfilled undropped = (
    CacheStep.finds (Call.Load key given) key given None found shown mid new (IsLoad.load given)
        looks shows writes,
    tt,
  )
  load-other given _ _ _ (
    CacheStep.refuses_found _ _ _ _ refusal place before item after
        (IsLoad.guarded _) at may,
    made,
  ) unfilled undropped = (
    CacheStep.refuses_found (Call.Load key given) key given None refusal place before item after
        (IsLoad.load given) at may,
    made,
  )
  load-other given _ _ _ (
    CacheStep.refuses_look _ _ refusal place before item after look at may,
    made,
  ) unfilled undropped = elim look [ ]
  load-other given _ _ _ (CacheStep.refuses_room _ refusal room may, made) unfilled undropped =
      elim room [ ]
  load-other given _ _ _ (CacheStep.refuses_load _ _ _ _ refusal (IsLoad.guarded _) may, made)
      unfilled undropped = (
        CacheStep.refuses_load (Call.Load key given) key given None refusal (IsLoad.load given) may,
        made,
      )
