-- What is seen of a key, and a replace where no item stands.
use Rattle.std.proofs.Common.{◌≡◌, ℕ, ◌≤◌, Bool, true, false, List, ◌++◌, length, length-append, map, Option, Some, None, Result, Ok, Err}
use Rattle.std.proofs.Common.{IfOk, IsSome, IsTrue, refl, ap, subst, ◌∙◌, arith}
use Rattle.std.specs.Bool.{OnTrue, OnFalse}
use Rattle.std.proofs.lemmas.List.{length-map}
use Rattle.std.proofs.lemmas.List.Elements.{length_all_zip}
use Rattle.std.proofs.lemmas.List.Sorted.{length_permutation}
use Rattle.quick_cache_model.specs.CacheState.{CacheState, item_count, keys_by, SameButOrder}
use Rattle.quick_cache_model.specs.Admission.{Admission, Admitted, TooHeavy, ChecksAdmission}
use Rattle.quick_cache_model.specs.Finding.{HasNoItem}
use Rattle.quick_cache_model.specs.Hooks.{Rules, Hooks, HookCall, RunsHooks}
use Rattle.quick_cache_model.specs.Writes.{Strategy, Insert, IsReplace, Writes, WritesAdmitted, RejectsTooHeavy, TakesOutItem}
use Rattle.quick_cache_model.proofs.LookupLaws.{not_both}
use Rattle.quick_cache_model.specs.Kinds.{replacement}
use Rattle.quick_cache_unsync.specs.Replaces.{Replaces}
use Rattle.quick_cache_unsync.specs.Copies.{IsCopyOf}
use Rattle.quick_cache_unsync.specs.Shard.{Wrote, HasItem, AreResidents, residents}
use Rattle.quick_cache_model.specs.Lookups.{Sees}
use Rattle.quick_cache_model.specs.Removal.{pair_of}

module _ {K V : Type 0} (test : K → Bool) (state : CacheState K V) where
  -- a key that is told to be there shows a value, and no other does
  pub asked-alike : keys_by test state ≤ 1 → (there : Bool) (shown : Option V)
      → OnTrue there (HasItem test state) → OnFalse there (HasNoItem test state)
      → Sees test state (λ item. item.value) shown
      → (IsTrue there → IsSome shown) × (IsSome shown → IsTrue there)
  asked-alike single true _ is not (Sees.is_there place before item after at) =
      (λ _. refl, λ _. refl)
  asked-alike single true _ is not (Sees.is_absent none) =
      absurd (not_both test state single is.place is.before is.item is.after is.at none)
  asked-alike single false _ is not (Sees.is_there place before item after at) =
      absurd (not_both test state single place before item after at not)
  asked-alike single false _ is not (Sees.is_absent none) = (λ never. cc, λ never. cc)

module _ {K V : Type 0} (state : CacheState K V) where
  -- a walk shows as many pairs as there are items, and tells so
  pub told-size : (pairs : List (K × V)) → AreResidents state pairs → (told : ℕ × Option ℕ)
      → told ≡ (length pairs, Some (length pairs))
      → told ≡ (item_count state, Some (item_count state))
  told-size pairs are told exact =
      let long : length pairs ≡ item_count state = omega (
        arith,
        length_permutation (map pair_of (residents state)) pairs are,
        length-map (residents state) pair_of,
        length-append (state.hot ++ state.cold) state.still,
        length-append state.hot state.cold,
      ) in
      subst (λ n. told ≡ (n, Some n)) long exact

  -- a copy has as many items
  pub copies-count : {C E : Type 0} (clones_key : K → K → Type 0) (clones_value : V → V → Type 0)
      (state_of : C → CacheState K V) (result : Result C E)
      → IfOk result (λ copy. IsCopyOf clones_key clones_value state (state_of copy))
      → IfOk result (λ copy. item_count (state_of copy) ≡ item_count state)
  copies-count clones_key clones_value state_of (Ok copy) is =
      omega (
        arith,
        length_all_zip _ state.hot (state_of copy).hot is.hot,
        length_all_zip _ state.cold (state_of copy).cold is.cold,
        length_all_zip _ state.still (state_of copy).still is.still,
      )
  copies-count clones_key clones_value state_of (Err refusal) is = is

-- where `before_evict` leaves each value as it is
module _ {K V S : Type 0} (hooks : Hooks K V S)
    (leaves : (first : S) (key : K) (value : V) (last : S) (left : V)
    → hooks.before_evict first key value last left → left ≡ value) (rules : Rules K V)
    (equal_to : K → Bool) (key : K) (value : V) (old : CacheState K V)
    (single : keys_by equal_to old ≤ 1) (none : HasNoItem equal_to old) (strategy : Strategy)
    (replaces : IsReplace strategy) where
  abbrev left_by : Admission V → V
  left_by (Admitted left) = left
  left_by (TooHeavy left) = left

  -- the check of a pair leaves its value
  check-left : (first rest : List (HookCall K V)) (admission : Admission V)
      → ChecksAdmission rules old.hot_target key value first admission → (begin end : S)
      → RunsHooks hooks (first ++ rest) begin end → left_by admission ≡ value
  check-left _ rest _ (ChecksAdmission.is_light light) begin end runs = refl
  check-left _ rest _ (ChecksAdmission.is_pinned heavy pinned) begin end runs = refl
  check-left _ rest _ (ChecksAdmission.was_lightened left heavy loose light) begin end runs =
      leaves begin key value runs.0 left runs.1
  check-left _ rest _ (ChecksAdmission.is_too_heavy left heavy loose still) begin end runs =
      leaves begin key value runs.0 left runs.1

  no-insert : strategy ≡ Insert → ⊥
  no-insert is = subst IsReplace is replaces

  -- nothing is written, and the pair comes back
  admitted-absent : (left : V) (calls : List (HookCall K V)) (answer : Option (K × V))
      (new : CacheState K V)
      → WritesAdmitted rules equal_to key strategy old left calls answer new
      → (answer ≡ Some (key, left)) × (new ≡ old)
  admitted-absent left _ _ _ (WritesAdmitted.inserts_new mid calls is nothing evicts) =
      absurd (no-insert is)
  admitted-absent left _ _ _
      (WritesAdmitted.overwrites place before item touched after calls new at touches evicts) =
      absurd (not_both equal_to old single place before item after at none)
  admitted-absent left _ _ _
      (WritesAdmitted.inserts_over_ghost before after calls new is ghost_at evicts) =
      absurd (no-insert is)
  admitted-absent left _ _ _
      (WritesAdmitted.inserts_over_loading before entry after calls new is at evicts) =
      absurd (no-insert is)
  admitted-absent left _ _ _ (WritesAdmitted.gives_back is absent) = (refl, refl)

  taken-absent : (calls : List (HookCall K V)) (new : CacheState K V)
      → TakesOutItem equal_to old calls new → new ≡ old
  taken-absent _ _ (TakesOutItem.was_there place before item after at) =
      absurd (not_both equal_to old single place before item after at none)
  taken-absent _ _ (TakesOutItem.was_absent absent) = refl

  rejected-absent : (left : V) (calls : List (HookCall K V)) (answer : Option (K × V))
      (new : CacheState K V)
      → RejectsTooHeavy equal_to key strategy old left calls answer new
      → (answer ≡ Some (key, left)) × (new ≡ old)
  rejected-absent left _ _ _ (RejectsTooHeavy.reports calls new is takes) = absurd (no-insert is)
  rejected-absent left _ _ _ (RejectsTooHeavy.gives_back calls new is takes) =
      (refl, taken-absent calls new takes)

  -- so it is with every replace of a key under which nothing stands
  pub replaces-nothing : (calls : List (HookCall K V)) (answer : Option (K × V))
      (new : CacheState K V) → Writes rules equal_to key strategy old value calls answer new
      → (begin end : S) → RunsHooks hooks calls begin end
      → (answer ≡ Some (key, value)) × (new ≡ old)
  replaces-nothing _ _ _ (Writes.admitted first rest left answer new check write) begin end runs =
      let same = check-left first rest (Admitted left) check begin end runs in
      let done = admitted-absent left rest answer new write in
      (done.0 ∙ ap (λ (v : V). Some (key, v)) same, done.1)
  replaces-nothing _ _ _ (Writes.too_heavy first rest left answer new check write) begin end runs =
      let same = check-left first rest (TooHeavy left) check begin end runs in
      let done = rejected-absent left rest answer new write in
      (done.0 ∙ ap (λ (v : V). Some (key, v)) same, done.1)

module _ {K V S : Type 0} (steady : Type 0) (hooks : Hooks K V S)
    (leaves : (first : S) (key : K) (value : V) (last : S) (left : V)
    → hooks.before_evict first key value last left → left ≡ value) (rules : Rules K V)
    (equal : K → K → Bool) (old : CacheState K V) (key : K) (value : V)
    (single : keys_by (equal key) old ≤ 1) (none : HasNoItem (equal key) old) where
  replacing : (soft : Bool) → IsReplace (replacement soft)
  replacing true = tt
  replacing false = tt

  wrote-nothing : (soft : Bool) (first last : S) (answer : Option (K × V)) (new : CacheState K V)
      → steady → Wrote steady hooks rules equal (replacement soft) old first key value answer new last
      → (answer ≡ Some (key, value)) × SameButOrder old new
  wrote-nothing soft first last answer new is wrote =
      let moves = wrote.step.holds.0 is in
      let done = replaces-nothing hooks leaves rules (equal key) key value old single none
      (replacement soft) (replacing soft) wrote.step.calls answer moves.ordered moves.holds first
      last wrote.step.runs in
      (done.0, subst (λ state. SameButOrder state new) done.1 moves.same)

  -- a replace of an absent key gives the pair back, and changes nothing but the order of what has
  -- none
  pub replaced-nothing : (soft : Bool) (first last : S) (result : Result (Unit {0}) (K × V))
      (new : CacheState K V)
      → steady → Replaces steady hooks rules equal old soft first key value result new last
      → (result ≡ Err (key, value)) × SameButOrder old new
  replaced-nothing soft first last (Ok done) new is wrote =
      let pair : K × V = (key, value) in
      let never : None ≡ Some pair = (wrote-nothing soft first last None new is wrote).0 in
      absurd cc
  replaced-nothing soft first last (Err back) new is wrote =
      let done = wrote-nothing soft first last (Some back) new is wrote in
      (ap (λ (pair : Option (K × V)). from_answer pair) done.0, done.1)
    where
      from_answer : Option (K × V) → Result (Unit {0}) (K × V)
      from_answer (Some pair) = Err pair
      from_answer None = Err back
