-- Steps of single calls.
use Rattle.std.proofs.Common.{◌≡◌, ◌≤◌, ℕ, Bool, true, false, [], Option, Some, None, refl, sym, subst}
use Rattle.std.specs.Prelude.{IsSome, min, ◌^◌, ◌-◌}
use Rattle.std.specs.Bool.{OnTrue, OnFalse}
use Rattle.quick_cache_model.specs.declared.refusal.Refusal.{Refusal}
use Rattle.quick_cache_model.specs.CacheState.{CacheState, Item, UpToOrder, keys_by, item_count, total_weight}
use Rattle.quick_cache_model.specs.Removal.{cleared}
use Rattle.quick_cache_model.specs.Finding.{HasNoItem}
use Rattle.quick_cache_model.specs.Hooks.{Rules, Hooks}
use Rattle.quick_cache_model.specs.Lookups.{Sees, LooksUp}
use Rattle.quick_cache_model.proofs.LookupLaws.{Sees-LooksUp}
use Rattle.quick_cache_model.specs.Refusals.{MayRefuse, needs_of_clone}
use Rattle.quick_cache_shard.specs.Copies.{IsNotCopied}
use Rattle.quick_cache_shard.specs.Shard.{Wrote, RefusesWrite, HasItem}
use Rattle.quick_cache_model.specs.Writes.{Insert as insertion}
use denote.Ref.{Bor}
use denote.Param.Members.{Shared}
use Rattle.quick_cache_shard.specs.Predicates.{Answers, IsAnsweredAs}
use Rattle.quick_cache_model.specs.declared.calls.call.Call.{Call}
use Rattle.quick_cache_model.specs.declared.calls.reply.Reply.{Reply}
use Rattle.quick_cache_model.specs.CacheStep.{CacheStep}
use Rattle.quick_cache_model.specs.Kinds.{IsLook, MakesRoom, replacement}
use Rattle.quick_cache_model.specs.References.{TellsItem}
use Rattle.quick_cache_runs.specs.Made.{IsMade}
use Rattle.quick_cache_unsync.specs.References.{Sets}

-- a look-up shows what a look before it saw
pub LooksUp-seen : {K V X : Type 0} (stands_for : K → Bool) (old : CacheState K V)
    (of : Item K V → X) → keys_by stands_for old ≤ 1
    → {seen shown : Option X} {new : CacheState K V} → Sees stands_for old of seen
    → UpToOrder (LooksUp stands_for old of shown) new
    → UpToOrder (LooksUp stands_for old of seen) new
LooksUp-seen stands_for old of single {seen} {shown} {new} sees looks =
    subst (λ answer. UpToOrder (LooksUp stands_for old of answer) new)
    (sym (Sees-LooksUp stands_for old single of sees looks.holds)) looks

-- a predicate that answers as a test does answers so beside a key
pub tested : {F K V : Type 0} (calls : Shared F (Bor K × (Bor V × Unit {0})) Bool) (keep : F)
    (keeps : K → V → Bool) → IsAnsweredAs calls keep keeps → (key : K) (shown value : V)
    (answer : Bool) → shown ≡ value → Answers calls keep key shown answer
    → answer ≡ keeps key value
tested calls keep keeps as_test key shown value answer same says =
    as_test key value answer (subst (λ v. Answers calls keep key v answer) same says)

module _ {K V : Type 0} (old : CacheState K V) where
  -- memory for a clone may be refused
  pub clone_refused : MayRefuse needs_of_clone old Refusal.Memory
  clone_refused = MayRefuse.memory_refused
      (record { ticket = λ h. absurd h; slot = λ h. absurd h }) tt

  -- what is told of an item that is there, and of none
  pub tells : (stands_for : K → Bool) (there : Bool) → OnTrue there (HasItem stands_for old)
      → OnFalse there (HasNoItem stands_for old) → TellsItem stands_for old there
  tells stands_for true has none = TellsItem.is_there has.place has.before has.item has.after has.at
  tells stands_for false has none = TellsItem.is_absent none

module _ {K V F M : Type 0} (rules : Rules K V) (equal : K → K → Bool)
    (shows_key : K → K → Type 0) (shows : V → V → Type 0) (answers : F → K → V → Bool)
    (old : CacheState K V) where
  -- where an item was seen, its clone may be refused
  pub refused_look : {X : Type 0} (of : Item K V → X) (call : Call K V F) (key : K)
      → IsLook key call → {answer : Option X}
      → Sees (equal key) old of answer → IsSome answer
      → CacheStep {M = M} rules equal shows_key shows answers old call
      (Reply.Refused Refusal.Memory) [] old
  refused_look of call key look (Sees.is_there place before item after there) is_some =
      CacheStep.refuses_look call key Refusal.Memory place before item after look there
      (clone_refused old)
  refused_look of call key look (Sees.is_absent none) is_some = absurd cc

  -- where the value of an item that is there was not cloned, the look is refused
  pub refused_copy : (call : Call K V F) (key : K) → IsLook key call
      → (refusal : Refusal) (new : CacheState K V)
      → IsNotCopied (equal key) shows old refusal new
      → CacheStep {M = M} rules equal shows_key shows answers old call (Reply.Refused refusal) []
      new
  refused_copy call key look refusal new is =
      subst (λ (x : Refusal × CacheState K V). CacheStep {M = M} rules equal shows_key shows answers
      old call (Reply.Refused x.0) [] x.1) (λ i. (sym is.memory i, sym is.unchanged i))
      (refused_look (λ item. item.value) call key look is.seen refl)

  -- room may be refused
  pub refused_room : (call : Call K V F) → MakesRoom call
      → CacheStep {M = M} rules equal shows_key shows answers old call
      (Reply.Refused Refusal.Memory) [] old
  refused_room call makes_room =
      CacheStep.refuses_room call Refusal.Memory makes_room (clone_refused old)

  -- room was made, or refused, and the state is as it was
  pub reserved : (count : ℕ) (new : CacheState K V) → new ≡ old
      → CacheStep {M = M} rules equal shows_key shows answers old (Call.Reserve count) Reply.Done []
      new
  reserved count new same =
      subst (λ state. CacheStep {M = M} rules equal shows_key shows answers old (Call.Reserve count)
      Reply.Done
      [] state) (sym same) (CacheStep.reserves count)

  pub refused_reserve : (count : ℕ) (refusal : Refusal) (new : CacheState K V)
      → refusal ≡ Refusal.Memory → new ≡ old
      → CacheStep {M = M} rules equal shows_key shows answers old (Call.Reserve count)
      (Reply.Refused refusal)
      [] new
  refused_reserve count refusal new memory same =
      subst (λ (x : Refusal × CacheState K V). CacheStep {M = M} rules equal shows_key shows answers
      old (Call.Reserve count) (Reply.Refused x.0) [] x.1) (λ i. (sym memory i, sym same i))
      (refused_room (Call.Reserve count) (MakesRoom.reserve count))

  -- all was cleared
  pub clears_all : (new : CacheState K V) → new ≡ cleared old
      → CacheStep {M = M} rules equal shows_key shows answers old Call.Clear Reply.Done [] new
  clears_all new clears =
      subst (λ state. CacheStep {M = M} rules equal shows_key shows answers old Call.Clear
      Reply.Done [] state)
      (sym clears) CacheStep.clears

  -- the numbers of the cache were told
  pub counted : (len weight capacity hits misses : ℕ) → len ≡ item_count old
      → weight ≡ min (total_weight old) (2 ^ 64 - 1) → capacity ≡ old.capacity → hits ≡ old.hits
      → misses ≡ old.misses
      → CacheStep {M = M} rules equal shows_key shows answers old Call.Counts
      (Reply.Counts len weight capacity hits misses) [] old
  counted len weight capacity hits misses is_len is_weight is_capacity is_hits is_misses =
      subst (λ (n : ℕ × ℕ × ℕ × ℕ × ℕ). CacheStep {M = M} rules equal shows_key shows answers old
      Call.Counts (Reply.Counts n.0 n.1 n.2 n.3 n.4) [] old)
      (λ i. (
        sym is_len i,
        sym is_weight i,
        sym is_capacity i,
        sym is_hits i,
        sym is_misses i,
      )) CacheStep.counts

  pub refused_as_room : (call : Call K V F) → MakesRoom call → (refusal : Refusal)
      → refusal ≡ Refusal.Memory
      → CacheStep {M = M} rules equal shows_key shows answers old call (Reply.Refused refusal) []
      old
  refused_as_room call makes_room refusal memory =
      subst (λ cause. CacheStep {M = M} rules equal shows_key shows answers old call
      (Reply.Refused cause) [] old) (sym memory) (refused_room call makes_room)

  -- a value that was written through `get_mut`
  pub set : (key : K) (value : V) (there : Bool) (new : CacheState K V)
      → Sets (equal key) rules old value there new
      → CacheStep {M = M} rules equal shows_key shows answers old (Call.GetMut key value)
      (Reply.Flag there) []
      new
  set key value there new sets =
      CacheStep.gets_mut key value sets.found there sets.mid new sets.looks sets.writes

  module _ {S : Type 0} (hooks : Hooks K V S) where
    -- a call that calls no hook leaves the request state as it was
    pub quietly : (state : S) (call : Call K V F) (reply : Reply K V M) (new : CacheState K V)
        → CacheStep rules equal shows_key shows answers old call reply [] new
        → IsMade rules equal shows_key shows answers hooks old state call reply new state
    quietly state call reply new step = record { calls = []; step = step; runs = refl }

    module _ (steady : Type 0) (is_steady : steady) where
      -- an insert that was made
      pub inserted : (first : S) (key : K) (value : V) (new : CacheState K V) (last : S)
          → Wrote steady hooks rules equal insertion old first key value None new last
          → IsMade {M = M} rules equal shows_key shows answers hooks old first
          (Call.Insert key value)
          Reply.Done new last
      inserted first key value new last wrote = record {
        calls = wrote.step.calls;
        step = CacheStep.inserts key value wrote.step.calls new wrote.provided
            (wrote.step.holds.0 is_steady);
        runs = wrote.step.runs;
      }

      -- an insert that was refused: the pair is the one that was handed in, and nothing changed
      pub refused_insert : (first : S) (key : K) (value : V) (back_key : K) (back_value : V)
          (refusal : Refusal) (new : CacheState K V) (last : S)
          → RefusesWrite steady hooks rules equal insertion old first key value back_key back_value
          refusal new last
          → IsMade {M = M} rules equal shows_key shows answers hooks old first
          (Call.Insert key value)
          (Reply.RefusedPair back_key back_value refusal) new last
      refused_insert first key value back_key back_value refusal new last refuses = record {
        calls = [];
        step = subst (λ (x : K × V × CacheState K V). CacheStep {M = M} rules equal shows_key shows
            answers old (Call.Insert key value) (Reply.RefusedPair x.0 x.1 refusal) [] x.2)
            (λ i. (sym refuses.key_back i, sym refuses.value_back i, sym refuses.unchanged i))
            (CacheStep.refuses_insert key value refusal refuses.cause);
        runs = refuses.no_hook;
      }

      -- a replace that was made
      pub replaced : (first : S) (key : K) (value : V) (soft : Bool) (new : CacheState K V)
          (last : S)
          → Wrote steady hooks rules equal (replacement soft) old first key value None new last
          → IsMade {M = M} rules equal shows_key shows answers hooks old first
          (Call.Replace key value soft) Reply.Done new last
      replaced first key value soft new last wrote = record {
        calls = wrote.step.calls;
        step = CacheStep.replaces key value soft wrote.step.calls new
            (wrote.step.holds.0 is_steady);
        runs = wrote.step.runs;
      }

      -- a replace that was not admitted
      pub gave_back : (first : S) (key : K) (value : V) (soft : Bool) (back : K × V)
          (new : CacheState K V) (last : S)
          → Wrote steady hooks rules equal (replacement soft) old first key value (Some back) new
          last
          → IsMade {M = M} rules equal shows_key shows answers hooks old first
          (Call.Replace key value soft) (Reply.NotAdmitted back.0 back.1) new last
      gave_back first key value soft back new last wrote = record {
        calls = wrote.step.calls;
        step = CacheStep.gives_back key value soft back wrote.step.calls new
            (wrote.step.holds.0 is_steady);
        runs = wrote.step.runs;
      }
