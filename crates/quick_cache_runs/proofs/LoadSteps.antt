-- Steps of calls that load: by a guard, and the others by the step of the guard.
use Rattle.std.proofs.Common.{◌≡◌, ◌≤◌, ℕ, arith, Bool, true, false, List, [], Option, Some, None, refl, sym, subst}
use Rattle.std.specs.Prelude.{IsSome}
use Rattle.quick_cache_model.specs.declared.refusal.Refusal.{Refusal}
use Rattle.quick_cache_model.specs.CacheState.{CacheState, UpToOrder, keys_by}
use Rattle.quick_cache_model.specs.Finding.{HasNoItem}
use Rattle.quick_cache_model.specs.Hooks.{Rules, Hooks, HookCall}
use Rattle.quick_cache_model.specs.Lookups.{Sees, LooksUp}
use Rattle.quick_cache_model.specs.Placeholders.{GivesUpPlaceholder}
use Rattle.quick_cache_model.proofs.KeyCounts.{keys-none}
use Rattle.quick_cache_model.proofs.LookupLaws.{Sees-LooksUp}
use Rattle.quick_cache_shard.specs.Copies.{IsNotCopied}
use Rattle.quick_cache_shard.specs.Loading.{MakesNone}
use Rattle.quick_cache_shard.specs.References.{NotesLookUp}
use Rattle.quick_cache_model.specs.declared.calls.call.Call.{Call}
use Rattle.quick_cache_model.specs.declared.calls.reply.Reply.{Reply}
use Rattle.quick_cache_model.specs.CacheStep.{CacheStep}
use Rattle.quick_cache_model.specs.Kinds.{IsLoad}
use Rattle.quick_cache_model.specs.References.{TellsItem, WritesItem}
use Rattle.quick_cache_model.specs.Shown.{IsShown}
use Rattle.quick_cache_unsync.specs.Loads.{Takes, FillsIfThere}
use Rattle.quick_cache_unsync.proofs.LoadLemmas.{Takes-takes, Takes-awaited, Takes-nothing, Fills-awaited, counted-found}
use Rattle.quick_cache_runs.specs.Made.{IsMade}
use Rattle.quick_cache_runs.proofs.CallSteps.{LooksUp-seen, clone_refused}

none-is-some : {X : Type 0} (x : X) → None ≡ Some x → ⊥
none-is-some x same = absurd cc

module _ {K V : Type 0} (stands_for : K → Bool) (old : CacheState K V) where
  -- nothing was seen, so a look-up finds nothing
  pub sees-nothing : keys_by stands_for old ≤ 1 → Sees stands_for old (λ item. item.value) None
      → (new : CacheState K V) → NotesLookUp stands_for old true new → ⊥
  sees-nothing single sees new notes =
      none-is-some notes.0
      (Sees-LooksUp stands_for old single (λ item. item.value) sees notes.1.holds)

  -- nothing was shown, so nothing was seen
  pub shows-nothing : (shows : V → V → Type 0) (found : Option V) → IsShown shows found None
      → Sees stands_for old (λ item. item.value) found
      → Sees stands_for old (λ item. item.value) None
  shows-nothing shows None is_shown sees = sees
  shows-nothing shows (Some value) is_shown sees = absurd is_shown

  -- what was looked up is there
  still-there : (value : V) (new : CacheState K V)
      → UpToOrder (LooksUp stands_for old (λ item. item.value) (Some value)) new
      → HasNoItem stands_for new → ⊥
  still-there value new looks none = omega (
    arith,
    counted-found stands_for old value new looks,
    keys-none stands_for new.hot none.hot,
    keys-none stands_for new.cold none.cold,
    keys-none stands_for new.still none.still,
  )

  -- so it is written
  pub writes-found : (rules : Rules K V) (value left : V) (there : Bool) (mid new : CacheState K V)
      → UpToOrder (LooksUp stands_for old (λ item. item.value) (Some value)) mid
      → UpToOrder (WritesItem rules stands_for mid left there) new
      → UpToOrder (WritesItem rules stands_for mid left true) new
  writes-found rules value left true mid new looks writes = writes
  writes-found rules value left false mid new looks writes =
      absurd (still-there value mid looks (unwritten-none writes.ordered writes.holds))
    where
      unwritten-none : (state : CacheState K V) → WritesItem rules stands_for mid left false state
          → HasNoItem stands_for mid
      unwritten-none _ (WritesItem.unwritten none) = none

module _ {K V F M : Type 0} (rules : Rules K V) (equal : K → K → Bool)
    (shows_key : K → K → Type 0) (shows : V → V → Type 0) (answers : F → K → V → Bool)
    (old : CacheState K V) where
  abbrev Step : Call K V F → Reply K V M → List (HookCall K V) → CacheState K V → Type 0
  Step = CacheStep rules equal shows_key shows answers old

  module _ (key : K) (given : Option V) where
    -- an item was seen and looked up
    pub guard-finds : (found shown : V) (new : CacheState K V)
        → UpToOrder (LooksUp (equal key) old (λ item. item.value) (Some found)) new
        → shows found shown → Step (Call.Guarded key given) (Reply.Found shown) [] new
    guard-finds found shown new looks is_shown =
        CacheStep.finds (Call.Guarded key given) key given None found shown new new
        (IsLoad.guarded given) looks is_shown refl

    -- its clone may be refused
    pub guard-refuses-clone : {answer : Option V}
        → Sees (equal key) old (λ item. item.value) answer → IsSome answer
        → Step (Call.Guarded key given) (Reply.Refused Refusal.Memory) [] old
    guard-refuses-clone (Sees.is_there place before item after there) is_some =
        CacheStep.refuses_found (Call.Guarded key given) key given None Refusal.Memory place before
        item after
        (IsLoad.guarded given) there (clone_refused old)
    guard-refuses-clone (Sees.is_absent none) is_some = absurd cc

    -- so it is where a look-up that copies was refused
    pub guard-refuses-copy : (refusal : Refusal) (new : CacheState K V)
        → IsNotCopied (equal key) shows old refusal new
        → Step (Call.Guarded key given) (Reply.Refused refusal) [] new
    guard-refuses-copy refusal new is =
        subst (λ (x : Refusal × CacheState K V). Step (Call.Guarded key given) (Reply.Refused x.0)
        [] x.1)
        (λ i. (sym is.memory i, sym is.unchanged i)) (guard-refuses-clone is.seen refl)

    -- an item was seen and shown, and a value is written through the reference to it
    pub guard-writes : (left shown : V) (found : Option V) → keys_by (equal key) old ≤ 1
        → Sees (equal key) old (λ item. item.value) found → IsShown shows found (Some shown)
        → (looked : V) (mid new : CacheState K V)
        → UpToOrder (LooksUp (equal key) old (λ item. item.value) (Some looked)) mid
        → UpToOrder (WritesItem rules (equal key) mid left true) new
        → Step (Call.GuardedMut key given left) (Reply.Found shown) [] new
    guard-writes left shown None single sees is_shown looked mid new looks writes = absurd is_shown
    guard-writes left shown (Some found) single sees is_shown looked mid new looks writes =
        CacheStep.finds (Call.GuardedMut key given left) key given (Some left) found shown mid new
        (IsLoad.guarded_mut given left)
        (LooksUp-seen (equal key) old (λ item. item.value) single sees looks) is_shown writes

    -- no placeholder was made
    pub guard-refuses : (gives : K → Type 0) (refusal : Refusal) (new : CacheState K V)
        → MakesNone (equal key) gives (rules.hash key) old refusal new
        → Step (Call.Guarded key given) (Reply.Refused refusal) [] new
    guard-refuses gives refusal new none =
        subst (λ state. Step (Call.Guarded key given) (Reply.Refused refusal) [] state)
        (sym none.unchanged)
        (CacheStep.refuses_load (Call.Guarded key given) key given None refusal
        (IsLoad.guarded given)
        none.cause)

  module _ (key : K) (gives : K → Type 0) (ticket : ℕ) (mid : CacheState K V)
      (takes : Takes (equal key) gives (rules.hash key) old ticket mid) where
    -- a placeholder that was taken is given up
    pub guard-drops : (new : CacheState K V) → UpToOrder (GivesUpPlaceholder ticket mid) new
        → Step (Call.Guarded key None) Reply.Dropped [] new
    guard-drops new gone = CacheStep.drops key new
        (Takes-nothing (equal key) gives (rules.hash key) old rules ticket mid new takes gone)

    -- or filled
    pub guard-fills : {S : Type 0} (hooks : Hooks K V S) (steady : Type 0) → steady → (value : V)
        (first : S) (new : CacheState K V) (last : S)
        → FillsIfThere steady hooks rules ticket mid value first new last
        → IsMade {M = M} rules equal shows_key shows answers hooks old first
        (Call.Guarded key (Some value)) Reply.Filled new last
    guard-fills hooks steady is_steady value first new last fills =
        let filled = Fills-awaited steady hooks rules ticket false value mid new first last
        fills.answer (Takes-awaited (equal key) gives (rules.hash key) old ticket mid takes)
        fills.fills in
        record {
          calls = filled.calls;
          step = CacheStep.fills key value filled.calls new (record {
            ticket = ticket;
            mid = mid;
            takes = Takes-takes (equal key) gives (rules.hash key) old ticket mid takes;
            fills = filled.holds.step is_steady;
          });
          runs = filled.runs;
        }

  -- a guard that was filled is a load
  pub load-filled : (key : K) (given : Option V) (there : Bool) (calls : List (HookCall K V))
      (new : CacheState K V) → Step (Call.Guarded key given) Reply.Filled calls new
      → TellsItem (equal key) new there → Step (Call.Load key given) (Reply.Loaded there) calls new
  load-filled key _ there _ _ (CacheStep.fills _ value calls new loads) tells =
      CacheStep.loads key value there calls new loads tells

  pub load_mut-filled : (key : K) (given : Option V) (left : V) (there : Bool)
      (calls : List (HookCall K V)) (mid new : CacheState K V)
      → Step (Call.Guarded key given) Reply.Filled calls mid
      → UpToOrder (WritesItem rules (equal key) mid left there) new
      → Step (Call.LoadMut key given left) (Reply.Loaded there) calls new
  load_mut-filled key _ left there _ _ new (CacheStep.fills _ value calls mid loads) writes =
      CacheStep.loads_mut key value left there calls mid new loads writes

  -- one that was dropped is a load that failed
  pub load-dropped : (key : K) (given : Option V) (calls : List (HookCall K V))
      (new : CacheState K V) → Step (Call.Guarded key given) Reply.Dropped calls new
      → Step (Call.Load key given) Reply.LoadFailed calls new
  load-dropped key _ _ _ (CacheStep.drops _ new nothing) = CacheStep.fails key new nothing

  pub load_mut-dropped : (key : K) (given : Option V) (left : V) (calls : List (HookCall K V))
      (new : CacheState K V) → Step (Call.Guarded key given) Reply.Dropped calls new
      → Step (Call.LoadMut key given left) Reply.LoadFailed calls new
  load_mut-dropped key _ left _ _ (CacheStep.drops _ new nothing) =
      CacheStep.fails_mut key left new nothing

  -- where no guard was given, the key was found, or the call refused
  pub load-other : (key : K) (given : Option V) (reply : Reply K V M) (calls : List (HookCall K V))
      (new : CacheState K V) → Step (Call.Guarded key given) reply calls new
      → (reply ≡ Reply.Filled → ⊥)
      → (reply ≡ Reply.Dropped → ⊥) → Step (Call.Load key given) reply calls new
  load-other key _ _ _ _ (CacheStep.fills _ value _ new loads) unfilled undropped =
      absurd (unfilled refl)
  load-other key _ _ _ _ (CacheStep.drops _ new nothing) unfilled undropped =
      absurd (undropped refl)
  load-other key given _ _ _ (CacheStep.finds _ _ _ _ found shown mid new (IsLoad.guarded _) looks
      is_shown writes) unfilled undropped =
      CacheStep.finds (Call.Load key given) key given None found shown mid new (IsLoad.load given)
      looks
      is_shown writes
  load-other key given _ _ _ (CacheStep.refuses_found _ _ _ _ refusal place before item after
      (IsLoad.guarded _) there cause) unfilled undropped =
      CacheStep.refuses_found (Call.Load key given) key given None refusal place before item after
      (IsLoad.load given) there cause
  load-other key given _ _ _ (CacheStep.refuses_load _ _ _ _ refusal (IsLoad.guarded _) cause)
      unfilled undropped =
      CacheStep.refuses_load (Call.Load key given) key given None refusal (IsLoad.load given) cause
  load-other key given _ _ _ (CacheStep.refuses_look _ _ refusal place before item after look there
      cause) unfilled undropped = elim look [ ]
  load-other key given _ _ _ (CacheStep.refuses_room _ refusal makes_room cause) unfilled
      undropped = elim makes_room [ ]

  -- a value is written through the reference to what was found
  module _ (key : K) (left : V) (call : Call K V F) where
    pub found-written : (given : Option V) → IsLoad key given (Some left) call → (shown : V)
        (there : Bool) (calls : List (HookCall K V)) (mid new : CacheState K V)
        → Step (Call.Guarded key given) (Reply.Found shown) calls mid
        → UpToOrder (WritesItem rules (equal key) mid left there) new
        → Step call (Reply.Found shown) calls new
    found-written given is_load _ there _ _ new (CacheStep.finds _ _ _ _ found shown first mid
        (IsLoad.guarded _) looks is_shown same) writes =
        let looked = subst (λ state. UpToOrder (LooksUp (equal key) old (λ item. item.value)
        (Some found)) state) (sym same) looks in
        CacheStep.finds call key given (Some left) found shown mid new is_load looked is_shown
        (writes-found (equal key) old rules found left there mid new looked writes)

  -- where no guard was given and nothing found, the call was refused
  pub load_mut-other : (key : K) (given : Option V) (left : V) (reply : Reply K V M)
      (calls : List (HookCall K V)) (new : CacheState K V)
      → Step (Call.Guarded key given) reply calls new → (reply ≡ Reply.Filled → ⊥)
      → (reply ≡ Reply.Dropped → ⊥)
      → ((shown : V) → reply ≡ Reply.Found shown → ⊥)
      → Step (Call.LoadMut key given left) reply calls new
  load_mut-other key _ left _ _ _ (CacheStep.fills _ value _ new loads) unfilled undropped unfound =
      absurd (unfilled refl)
  load_mut-other key _ left _ _ _ (CacheStep.drops _ new nothing) unfilled undropped unfound =
      absurd (undropped refl)
  load_mut-other key given left _ _ _ (CacheStep.finds _ _ _ _ found shown mid new
      (IsLoad.guarded _) looks is_shown writes) unfilled undropped unfound =
      absurd (unfound shown refl)
  load_mut-other key given left _ _ _ (CacheStep.refuses_found _ _ _ _ refusal place before item
      after (IsLoad.guarded _) there cause) unfilled undropped unfound =
      CacheStep.refuses_found (Call.LoadMut key given left) key given (Some left) refusal place
      before
      item after (IsLoad.load_mut given left) there cause
  load_mut-other key given left _ _ _ (CacheStep.refuses_load _ _ _ _ refusal (IsLoad.guarded _)
      cause) unfilled undropped unfound =
      CacheStep.refuses_load (Call.LoadMut key given left) key given (Some left) refusal
      (IsLoad.load_mut given left) cause
  load_mut-other key given left _ _ _ (CacheStep.refuses_look _ _ refusal place before item after
      look there cause) unfilled undropped unfound = elim look [ ]
  load_mut-other key given left _ _ _ (CacheStep.refuses_room _ refusal makes_room cause) unfilled
      undropped unfound = elim makes_room [ ]

  -- where nothing was found, nothing is written over
  pub guarded_mut-other : (key : K) (given : Option V) (left : V) (reply : Reply K V M)
      (calls : List (HookCall K V)) (new : CacheState K V)
      → Step (Call.Guarded key given) reply calls new
      → ((shown : V) → reply ≡ Reply.Found shown → ⊥)
      → Step (Call.GuardedMut key given left) reply calls new
  guarded_mut-other key _ left _ _ _ (CacheStep.fills _ value calls new loads) unfound =
      CacheStep.fills_mut key value left calls new loads
  guarded_mut-other key _ left _ _ _ (CacheStep.drops _ new nothing) unfound =
      CacheStep.drops_mut key left new nothing
  guarded_mut-other key given left _ _ _ (CacheStep.finds _ _ _ _ found shown mid new
      (IsLoad.guarded _) looks is_shown writes) unfound = absurd (unfound shown refl)
  guarded_mut-other key given left _ _ _ (CacheStep.refuses_found _ _ _ _ refusal place before item
      after (IsLoad.guarded _) there cause) unfound =
      CacheStep.refuses_found (Call.GuardedMut key given left) key given (Some left) refusal place
      before
      item after (IsLoad.guarded_mut given left) there cause
  guarded_mut-other key given left _ _ _ (CacheStep.refuses_load _ _ _ _ refusal
      (IsLoad.guarded _) cause) unfound =
      CacheStep.refuses_load (Call.GuardedMut key given left) key given (Some left) refusal
      (IsLoad.guarded_mut given left) cause
  guarded_mut-other key given left _ _ _ (CacheStep.refuses_look _ _ refusal place before item after
      look there cause) unfound = elim look [ ]
  guarded_mut-other key given left _ _ _ (CacheStep.refuses_room _ refusal makes_room cause)
      unfound = elim makes_room [ ]

  -- so a guard that was made is made by this call too
  pub guarded_mut-made : {S : Type 0} (hooks : Hooks K V S) (key : K) (given : Option V) (left : V)
      (reply : Reply K V M) (first : S) (new : CacheState K V) (last : S)
      → ((shown : V) → reply ≡ Reply.Found shown → ⊥)
      → IsMade rules equal shows_key shows answers hooks old first (Call.Guarded key given) reply
      new last
      → IsMade rules equal shows_key shows answers hooks old first (Call.GuardedMut key given left)
      reply
      new last
  guarded_mut-made hooks key given left reply first new last unfound made = record {
    calls = made.calls;
    step = guarded_mut-other key given left reply made.calls new made.step unfound;
    runs = made.runs;
  }
