-- Room for a write, the calls of one, and its answer.
use Rattle.std.proofs.Common.{◌≡◌, ℕ, ◌+◌, ◌*◌, ◌^◌, arith, ◌<◌, ◌≤◌, Bool, true, false, List, [], ◌∷◌, ◌++◌, Option, Some}
use Rattle.std.proofs.Common.{None, Ok, Err, refl, sym, subst, inl, inr}
use Rattle.quick_cache_model.specs.declared.refusal.Refusal.{Refusal}
use Rattle.quick_cache_model.specs.CacheState.{CacheState}
use Rattle.quick_cache_model.specs.Finding.{HasNothing, HasNoItem}
use Rattle.quick_cache_model.specs.Hooks.{Rules, Hooks, HookCall, EvictCold, Calls}
use Rattle.quick_cache_model.specs.Refusals.{IsProvided, MayRefuse, memory_refused, slots_full, slots_taken, needs_of_insert}
use Rattle.quick_cache_model.specs.Kinds.{replacement}
use Rattle.quick_cache_model.specs.Writes.{Strategy, Insert, IsReplace, Writes, WritesAdmitted, RejectsTooHeavy}
use Rattle.quick_cache_model.specs.Writes.{TakesOutItem}
use Rattle.quick_cache_model.proofs.OrderLaws.{UpToOrder-exact, UpToOrder-map}
use Rattle.quick_cache_policy.specs.declared.writing.admission.Admission.{Admission}
use Rattle.std.proofs.lemmas.List.{length-map}
use Rattle.quick_cache_store.specs.Lists.{HeldItem, HeldGhost, Finds, entry_count}
use Rattle.quick_cache_store.specs.Views.{loading_entry}
use Rattle.quick_cache_policy.specs.declared.contents.Contents.{Contents}
use Rattle.quick_cache_policy.specs.declared.strategy.InsertStrategy.{InsertStrategy}
use Rattle.quick_cache_store.specs.declared.lists.found.Found.{Found}
use Rattle.quick_cache_policy.specs.Contents.{state_of}
use Rattle.quick_cache_policy.specs.Work.{Work, WorksWithin}
use Rattle.quick_cache_policy.proofs.HotLemmas.{counted_up-zero}
use Rattle.quick_cache_model.specs.Fates.{residents}
use Rattle.quick_cache_model.specs.Leads.{TellsBeside}
use Rattle.quick_cache_model.proofs.Leads.{Leads-same, Leads-changes, Leads-leaves, Leads-beside, Tells-append}
use Rattle.quick_cache_policy.specs.Advances.{AreEvictions}
use Rattle.quick_cache_policy.specs.Finding.{AreUnder, TakesSlot, Provides}
use Rattle.quick_cache_policy.proofs.FindLemmas.{Finds-nothing, HasNothing-state}
use Rattle.quick_cache_policy.specs.Writing.{strategy_of, needs_of_write, IsReplacement, AreAdmittedCalls, AreWriteCalls, Writing}
use Rattle.quick_cache_policy.specs.Writing.{WritingAdmitted, Rejecting, Checks}
use Rattle.quick_cache_policy.proofs.TellLemmas.{Checks-tells, TakesOutItem-tells}

module _ {K V : Type 0} (equal_to : K → Bool) (key : K) (old new : CacheState K V) (left : V)
    (calls : List (HookCall K V)) (takes : TakesOutItem equal_to old calls new)
    (replaced : IsReplacement calls) where
  -- an insert of a pair that is too heavy tells it to the cold hook
  pub Rejecting-reports : Rejecting equal_to key Insert old left None new
      (calls ++ EvictCold key left ∷ [])
  Rejecting-reports = (
    RejectsTooHeavy.reports calls new refl takes,
    λ value. AreWriteCalls.rejects left calls replaced,
    Tells-append calls (EvictCold key left ∷ [])
        (Leads-beside (key, left) (TakesOutItem-tells equal_to old new calls takes))
        (Leads-leaves (key, left) (Leads-same (residents new))),
  )

  -- a replace gives it back
  pub Rejecting-gives_back : (strategy : Strategy) → IsReplace strategy
      → Rejecting equal_to key strategy old left (Some (key, left)) new calls
  Rejecting-gives_back strategy is = (
    RejectsTooHeavy.gives_back calls new is takes,
    λ value. AreWriteCalls.gives_back left calls replaced,
    Leads-beside (key, left) (TakesOutItem-tells equal_to old new calls takes),
  )

-- a replace that finds no item gives the pair back, and calls nothing
pub WritingAdmitted-gives_back : {K V S : Type 0} (hooks : Hooks K V S) (steady : Type 0)
    (rules : Rules K V) (equal_to : K → Bool) (key : K) (value : V) (strategy : Strategy)
    (old : CacheState K V) (first : S) → IsReplace strategy → HasNoItem equal_to old
    → Calls hooks (WritingAdmitted steady rules equal_to key strategy old value
    (Some (key, value)) old) first first
WritingAdmitted-gives_back hooks steady rules equal_to key value strategy old first is none = record {
  calls = [];
  holds = (
    λ _. UpToOrder-exact (WritesAdmitted rules equal_to key strategy old value []
        (Some (key, value))) old
        (WritesAdmitted.gives_back is none),
    AreAdmittedCalls.writes [] [] IsReplacement.none AreEvictions.none,
    Leads-same ((key, value) ∷ residents old),
  );
  runs = refl;
}

module _ {K V : Type 0} (steady : Type 0) (rules : Rules K V) (equal_to : K → Bool) (key : K)
    (strategy : Strategy) (old : CacheState K V) (value : V) (answer : Option (K × V))
    (new : CacheState K V) where
  -- a pair that was admitted is written
  pub Writing-admitted : (admitted : _) (first rest : List (HookCall K V))
      → Checks steady rules old.hot_target key value (Admission.Admitted admitted) first
      → WritingAdmitted steady rules equal_to key strategy old admitted.value answer new rest
      → Writing steady rules equal_to key strategy old value answer new (first ++ rest)
  Writing-admitted admitted first rest checks writes = (
    λ s. UpToOrder-map
        (WritesAdmitted rules equal_to key strategy old admitted.value rest answer)
        (Writes rules equal_to key strategy old value (first ++ rest) answer) new
        (λ now step. Writes.admitted first rest admitted.value answer now (checks.0 s) step)
        (writes.0 s),
    elim checks.2 [
      | inl nothing ↦ subst (λ l. AreWriteCalls key value (l ++ rest)) (sym nothing.0)
          (AreWriteCalls.admits rest writes.1)
      | inr once ↦ subst (λ l. AreWriteCalls key value (l ++ rest)) (sym once)
          (AreWriteCalls.lightens admitted.value rest writes.1)
    ],
    Tells-append first rest
        (Checks-tells steady rules old.hot_target key value admitted first (residents old) checks)
        writes.2,
  )

  -- and one that is too heavy is turned away
  pub Writing-too_heavy : (left : V) (first rest : List (HookCall K V))
      → Checks steady rules old.hot_target key value (Admission.TooHeavy left) first
      → Rejecting equal_to key strategy old left answer new rest
      → Writing steady rules equal_to key strategy old value answer new (first ++ rest)
  Writing-too_heavy left first rest checks rejects = (
    λ s. UpToOrder-exact (Writes rules equal_to key strategy old value (first ++ rest) answer) new
        (Writes.too_heavy first rest left answer new (checks.0 s) rejects.0),
    subst (λ l. AreWriteCalls key value (l ++ rest)) (sym checks.1) (rejects.1 value),
    subst (λ l. TellsBeside key value old (l ++ rest) answer new) (sym checks.1)
        (Leads-changes key value left rejects.2),
  )

-- no work is within each bound
pub WorksWithin-none : (cut n : ℕ) (work : Work) → work.advances < 2 ^ 64 → work.visits < 2 ^ 64
    → WorksWithin cut n work work
WorksWithin-none cut n work advances visits = record {
  advances = 0;
  visits = 0;
  does = record {
    advances_are = counted_up-zero work.advances advances;
    visits_are = counted_up-zero work.visits visits;
  };
  few_advances = omega arith;
  few_visits = zero-le ((cut + 1) * n * (2 * n + 1));
}
  where
    zero-le : (m : ℕ) → 0 ≤ m
    zero-le m = omega arith

-- each entry takes a slot
pub entry_count-taken : {K V P W A T : Type 0} (ticket_of : P → ℕ) (contents : Contents K V W A T P)
    → entry_count contents.lists ≡ slots_taken (state_of ticket_of contents)
entry_count-taken {K = K} {V = V} {P = P} ticket_of contents = omega (
  arith,
  length-map contents.lists.hot (λ (held : HeldItem K V). held.item),
  length-map contents.lists.cold (λ (held : HeldItem K V). held.item),
  length-map contents.lists.still (λ (held : HeldItem K V). held.item),
  length-map contents.lists.loading (loading_entry ticket_of),
  length-map contents.lists.ghosts (λ (shade : HeldGhost). shade.hash),
)

module _ {K V P W A T : Type 0} (ticket_of : P → ℕ) (stands_for : K → Bool) (hash : ℕ)
    (old : Contents K V W A T P) (room : ℕ) where
  -- there was a slot where nothing was found
  pub Provides-provided : (found : Found) → Finds stands_for hash old.lists found
      → Provides found (entry_count old.lists) room (Ok tt)
      → IsProvided (needs_of_insert stands_for hash (state_of ticket_of old)) (state_of ticket_of old)
  Provides-provided found finds p = record {
    ticket = λ e. absurd e;
    slot = λ none. omega (
      arith,
      p.0 (subst TakesSlot (sym (Finds-nothing ticket_of stands_for hash old found finds none)) tt),
      entry_count-taken ticket_of old,
    );
  }

  -- there was none, or no memory
  pub Provides-refused : AreUnder stands_for hash old.lists → (found : Found)
      → Finds stands_for hash old.lists found → (refusal : Refusal)
      → Provides found (entry_count old.lists) room (Err refusal)
      → HasNothing stands_for hash (state_of ticket_of old)
      × MayRefuse (needs_of_insert stands_for hash (state_of ticket_of old)) (state_of ticket_of old)
      refusal
  Provides-refused under Found.Nothing finds Refusal.Memory p =
      let none = HasNothing-state ticket_of stands_for hash old under finds in (
        none,
        memory_refused (record {
          ticket = λ e. absurd e;
          slot = λ _. omega (arith, p.1, entry_count-taken ticket_of old);
        }) none,
      )
  Provides-refused under Found.Nothing finds Refusal.SlotsFull p =
      let none = HasNothing-state ticket_of stands_for hash old under finds in (
        none,
        slots_full (λ e. absurd e) none (omega (arith, p.1, entry_count-taken ticket_of old)),
      )
  Provides-refused under Found.Nothing finds Refusal.TicketsSpent p = absurd p
  Provides-refused under Found.Nothing finds Refusal.Finished p = absurd p
  Provides-refused under (Found.Ghost token) finds Refusal.Memory p = absurd p.0
  Provides-refused under (Found.Ghost token) finds Refusal.SlotsFull p = absurd p.0
  Provides-refused under (Found.Ghost token) finds Refusal.TicketsSpent p = absurd p
  Provides-refused under (Found.Ghost token) finds Refusal.Finished p = absurd p
  Provides-refused under (Found.Loading token) finds Refusal.Memory p = absurd p.0
  Provides-refused under (Found.Loading token) finds Refusal.SlotsFull p = absurd p.0
  Provides-refused under (Found.Loading token) finds Refusal.TicketsSpent p = absurd p
  Provides-refused under (Found.Loading token) finds Refusal.Finished p = absurd p
  Provides-refused under (Found.Item token) finds Refusal.Memory p = absurd p.0
  Provides-refused under (Found.Item token) finds Refusal.SlotsFull p = absurd p.0
  Provides-refused under (Found.Item token) finds Refusal.TicketsSpent p = absurd p
  Provides-refused under (Found.Item token) finds Refusal.Finished p = absurd p

-- a replace needs nothing that may run out
pub provided-replace : {K V : Type 0} (stands_for : K → Bool) (hash : ℕ) (state : CacheState K V)
    (soft : Bool) → IsProvided (needs_of_write stands_for hash state (replacement soft)) state
provided-replace stands_for hash state true = record { ticket = λ e. absurd e; slot = λ e. absurd e }
provided-replace stands_for hash state false = record { ticket = λ e. absurd e; slot = λ e. absurd e }

-- it is a replace, and what the code calls so
pub replacement-is : (soft : Bool) → IsReplace (replacement soft)
replacement-is true = tt
replacement-is false = tt

pub strategy_of-replace : (soft : Bool)
    → strategy_of (InsertStrategy.Replace soft) ≡ replacement soft
strategy_of-replace true = refl
strategy_of-replace false = refl
