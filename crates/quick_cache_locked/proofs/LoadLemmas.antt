-- Why an entry call is refused, and what is left of a load that ends.
use Rattle.std.proofs.Common.{ℕ, Bool, inl, inr, Option, Some, None, Result, Ok, Err}
use Rattle.std.specs.Bool.{⊤}
use Rattle.std.specs.Prelude.{IfErr, IfOk, IfSome, OnOk, OnErr}
use denote.Ref.{Bor, MutBor}
use denote.Param.Members.{Mut}
use Rattle.quick_cache_model.specs.declared.refusal.Refusal.{Refusal}
use Rattle.quick_cache_model.specs.declared.terms.lifecycle.Lifecycle as lifecycle
use Rattle.quick_cache_model.specs.declared.calls.entry.EntryAction.{EntryAction}
use Rattle.quick_cache_model.specs.declared.calls.entry.EntryOrPlaceholder.{EntryOrPlaceholder}
use Rattle.quick_cache_model.specs.CacheState.{CacheState, Item}
use Rattle.quick_cache_model.specs.Entries.{EntryChoice, EntryOutcome, Refused, ActsOnEntry}
use Rattle.quick_cache_model.specs.Hooks.{Rules}
use Rattle.quick_cache_model.specs.Refusals.{MayRefuse, Needs}
use Rattle.quick_cache_model.specs.Lookups.{LooksUp, Sees}
use Rattle.quick_cache_loading.specs.Begins.{IfFound}
use Rattle.quick_cache_loading.specs.Waiters.{IsLoadRefusal}
use Rattle.quick_cache_loading.specs.declared.sharing.shard.Begun.{Begun}
use Rattle.quick_cache_policy.specs.Entering.{AnswersEntry}
use Rattle.quick_cache_shard.specs.Loading.{BeginsLoad}
use Rattle.quick_cache_shard.specs.Shard.{Shard}
use Rattle.quick_cache_shard.specs.Steps.{Goes}
use Rattle.quick_cache_locked.specs.Loads.{AwaitsNoEqual, EndsLoadBy, EndsSomeLoad, RefusesLoad, RefusesSo, ShowsClone, begun_of}
use Rattle.quick_cache_locked.specs.Locked.{IsKept}
use Rattle.quick_cache_locked.specs.Peeks.{Peeks}

-- what holds of one refusal holds of another where the one gives the other
pub IfErr-is : {A E : Type 0} (P R : E → Type 0) → ((error : E) → P error → R error)
    → (answer : Result A E) → IfErr answer P → IfErr answer R
IfErr-is P R is (Ok done) holds = tt
IfErr-is P R is (Err error) holds = is error holds

-- what refuses is what a load may be refused for
MayRefuse-load : {K V : Type 0} (needs : Needs) (state : CacheState K V) (refusal : Refusal)
    → MayRefuse needs state refusal → IsLoadRefusal refusal
MayRefuse-load needs state _ (MayRefuse.tickets_spent needed spent) = tt
MayRefuse-load needs state _ (MayRefuse.slots_full has_ticket needed full) = tt
MayRefuse-load needs state _ (MayRefuse.memory_refused provided needed) = tt

pub RefusesLoad-load : {K V : Type 0} (stands_for : K → Bool) (state : CacheState K V)
    (refusal : Refusal) → RefusesLoad stands_for state refusal → IsLoadRefusal refusal
RefusesLoad-load stands_for state _ RefusesLoad.for_memory = tt
RefusesLoad-load stands_for state _ (RefusesLoad.for_new hash refusal cause) =
    MayRefuse-load _ state refusal cause
RefusesLoad-load stands_for state _ (RefusesLoad.in_place place before item after refusal there
    cause) = MayRefuse-load _ state refusal cause

module _ {K V : Type 0} (stands_for : K → Bool) (old : CacheState K V) where
  -- where this came of an entry, it was refused so
  abbrev IsEntryRefusal : EntryOutcome → Type 0
  IsEntryRefusal (Refused refusal) = RefusesLoad stands_for old refusal
  IsEntryRefusal _ = ⊤

  -- a replacing call is refused so
  ActsOnEntry-refusal : (rules : Rules K V) (item : Item K V) (left : V) (choice : EntryChoice)
      (outcome : EntryOutcome) (new : CacheState K V)
      → ActsOnEntry rules stands_for old item left choice outcome new → IsEntryRefusal outcome
  ActsOnEntry-refusal rules item left _ _ _ (ActsOnEntry.kept place before after there) = tt
  ActsOnEntry-refusal rules item left _ _ _ (ActsOnEntry.removed place before after now front back
      there again) = tt
  ActsOnEntry-refusal rules item left _ _ _ (ActsOnEntry.replaced place before after now front back
      there again provided) = tt
  ActsOnEntry-refusal rules item left _ _ _ (ActsOnEntry.refused place before after refusal there
      cause) = RefusesLoad.in_place place before item after refusal there cause

  -- an entry call is refused so
  pub AnswersEntry-refusal : {F T W : Type 0}
      (calls : Mut F (Bor K × (MutBor V × Unit {0})) (EntryAction T × (MutBor V × Unit {0})))
      (rules : Rules K V) (callback : F) (own_ticket : W → ℕ) (given : K → Type 0) (hash : ℕ)
      (answer : Result (EntryOrPlaceholder K V W T) Refusal) (next : F) (new : CacheState K V)
      → AnswersEntry calls rules stands_for callback old own_ticket given hash answer next new
      → IfErr answer (RefusesLoad stands_for old)
  AnswersEntry-refusal calls rules callback own_ticket given hash (Ok made) next new acts = tt
  AnswersEntry-refusal calls rules callback own_ticket given hash (Err refusal) next new (inl acts) =
      ActsOnEntry-refusal rules acts.item acts.left _ (Refused refusal) acts.step.ordered
      acts.step.holds
  AnswersEntry-refusal calls rules callback own_ticket given hash (Err refusal) next new (inr none) =
      RefusesLoad.for_new hash refusal none.1.cause

  -- so is a load that begins
  pub BeginsLoad-refusal : {P : Type 0} (own_ticket : P → ℕ) (gives : K → Type 0) (hash : ℕ)
      (is_clone : V → V → Type 0) (refusal : Refusal) (new : CacheState K V)
      → BeginsLoad own_ticket stands_for gives hash is_clone old (Err refusal) new
      → RefusesLoad stands_for old refusal
  BeginsLoad-refusal own_ticket gives hash is_clone _ _ (BeginsLoad.lacks_a_clone refusal new none) =
      rw none.memory RefusesLoad.for_memory
  BeginsLoad-refusal own_ticket gives hash is_clone _ _ (BeginsLoad.makes_none refusal new none) =
      RefusesLoad.for_new hash refusal none.cause

module _ {K V We B L S : Type 0} (life : lifecycle.Ghosts L K V S) (equal : K → K → Bool)
    (is_clone : V → V → Type 0) (stands_for : K → Bool) (shard : Shard K V We B L)
    (kept : IsKept life equal shard) where
  -- a value that was seen there, or looked up, is shown by a clone
  Sees-shows : (value clone : V) → Sees stands_for shard.state (λ item. item.value) (Some value)
      → is_clone value clone → ShowsClone life equal is_clone stands_for clone shard
  Sees-shows _ clone (Sees.is_there place before item after there) cloned = record {
    kept = kept;
    place = place;
    before = before;
    item = item;
    after = after;
    there = there;
    cloned = cloned;
  }

  LooksUp-shows : (value clone : V) (new : CacheState K V)
      → LooksUp stands_for shard.state (λ item. item.value) (Some value) new
      → is_clone value clone → ShowsClone life equal is_clone stands_for clone shard
  LooksUp-shows _ clone _ (LooksUp.hit place before item after there) cloned = record {
    kept = kept;
    place = place;
    before = before;
    item = item;
    after = after;
    there = there;
    cloned = cloned;
  }

  -- so is the value that a look finds
  pub Peeks-shows : (answer : Result (Option V) Refusal)
      → Peeks stands_for is_clone shard.state answer
      → IfOk answer (λ found. IfSome found
      (λ clone. ShowsClone life equal is_clone stands_for clone shard))
  Peeks-shows _ (Peeks.peeks (Some value) (Some clone) seen shown) =
      Sees-shows value clone seen shown
  Peeks-shows _ (Peeks.peeks (Some value) None seen shown) = tt
  Peeks-shows _ (Peeks.peeks None None seen shown) = tt
  Peeks-shows _ (Peeks.peeks None (Some clone) seen shown) = absurd shown
  Peeks-shows _ (Peeks.refuses place before item after there) = tt

  -- and the one that a load finds as it begins
  pub BeginsLoad-shows : {P : Type 0} (own_ticket : P → ℕ) (gives : K → Type 0) (hash : ℕ)
      (clone : V) (new : CacheState K V)
      → BeginsLoad own_ticket stands_for gives hash is_clone shard.state (Ok (Ok clone)) new
      → ShowsClone life equal is_clone stands_for clone shard
  BeginsLoad-shows own_ticket gives hash _ _ (BeginsLoad.finds clone new found) =
      LooksUp-shows found.value clone found.looks.ordered found.looks.holds found.cloned

  -- what a load answers as it begins shows so, or is refused so
  pub Begun-shows : {P : Type 0} (own_ticket : P → ℕ) (gives : K → Type 0) (hash : ℕ)
      (answer : Result (Begun V P) Refusal) (new : CacheState K V)
      → BeginsLoad own_ticket stands_for gives hash is_clone shard.state (begun_of answer) new
      → IfOk answer (λ begun. IfFound begun
      (λ clone. ShowsClone life equal is_clone stands_for clone shard))
  Begun-shows own_ticket gives hash (Ok (Begun.Found clone)) new begins =
      BeginsLoad-shows own_ticket gives hash clone new begins
  Begun-shows own_ticket gives hash (Ok (Begun.Loading placeholder)) new begins = tt
  Begun-shows own_ticket gives hash (Err refusal) new begins = tt

  pub Begun-refuses : {P : Type 0} (own_ticket : P → ℕ) (gives : K → Type 0) (hash : ℕ)
      (answer : Result (Begun V P) Refusal) (new : CacheState K V)
      → BeginsLoad own_ticket stands_for gives hash is_clone shard.state (begun_of answer) new
      → IfErr answer (λ refusal. RefusesSo life equal stands_for refusal shard)
  Begun-refuses own_ticket gives hash (Ok (Begun.Found clone)) new begins = tt
  Begun-refuses own_ticket gives hash (Ok (Begun.Loading placeholder)) new begins = tt
  Begun-refuses own_ticket gives hash (Err refusal) new begins = record {
    kept = kept;
    cause = BeginsLoad-refusal stands_for shard.state own_ticket gives hash is_clone refusal new begins;
  }

-- a load that ended with its value ended so in some shard
pub EndsLoad-some : {K V We B L S : Type 0} (life : lifecycle.Ghosts L K V S)
    (equal : K → K → Bool) (goes : Goes K V We B L S) (may_count : ℕ → Type 0)
    (old : Shard K V We B L) (ticket : ℕ) (marked : Bool) (key : K) (value : V)
    (new : Shard K V We B L) (first last : S) (answer : Result (Unit {0}) V)
    → EndsLoadBy goes may_count old equal ticket marked key value answer new first last
    → IsKept life equal old
    → OnOk answer (EndsSomeLoad life equal goes may_count ticket marked key value first last)
EndsLoad-some life equal goes may_count old ticket marked key value new first last (Ok done) ends kept
    = record { shard = old; kept = kept; holds = (new, ends) }
EndsLoad-some life equal goes may_count old ticket marked key value new first last (Err back) ends kept
    = tt

-- a load ended without it only where its placeholder was not there
pub EndsLoad-lacks : {K V We B L S : Type 0} (equal : K → K → Bool) (goes : Goes K V We B L S)
    (may_count : ℕ → Type 0) (old : Shard K V We B L) (ticket : ℕ) (marked : Bool) (key : K)
    (value : V) (new : Shard K V We B L) (first last : S) (answer : Result (Unit {0}) V)
    → EndsLoadBy goes may_count old equal ticket marked key value answer new first last
    → OnErr answer (AwaitsNoEqual equal ticket key old.state)
EndsLoad-lacks equal goes may_count old ticket marked key value new first last (Ok done) ends = tt
EndsLoad-lacks equal goes may_count old ticket marked key value new first last (Err back) ends = ends.0
