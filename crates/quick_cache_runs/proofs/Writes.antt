-- A write leads its pair and the residents to be resident, to be told to a hook, or to be given
-- back.
use Rattle.std.proofs.Common.{◌≡◌, ℕ, ◌+◌, ◌≤◌, Bool, true, false, List, [], ◌∷◌, ◌++◌, map, Option, Some, IsPermutation, refl, sym, ap}
use Rattle.std.proofs.Common.{subst, arith, ◌∙◌}
use Rattle.std.specs.Cmp.{IsEquivalence}
use Rattle.std.specs.Option.{option_to_list}
use Rattle.std.specs.Prelude.{count_by}
use Rattle.std.proofs.lemmas.List.{append-nil, append_assoc, map-append}
use Rattle.std.proofs.lemmas.List.Sorted.{IsPermutation-sym}
use Rattle.quick_cache_model.specs.declared.queue.Queue.{Queue}
use Rattle.quick_cache_model.specs.CacheState.{CacheState, with_items, entered, rewritten, IsValid}
use Rattle.quick_cache_model.specs.Hooks.{Rules, HookCall, evicted}
use Rattle.quick_cache_model.specs.Admission.{Admission, Admitted, TooHeavy, ChecksAdmission}
use Rattle.quick_cache_model.specs.Writes.{Strategy, new_item, queue_for, mark_after, WritesAdmitted, TakesOutItem, RejectsTooHeavy, Writes}
use Rattle.quick_cache_model.specs.Removal.{pair_of}
use Rattle.quick_cache_model.specs.Touches.{first_mark}
use Rattle.quick_cache_model.proofs.EachElement.{all-permutation}
use Rattle.quick_cache_model.proofs.EqualKeys.{one-equal}
use Rattle.quick_cache_model.proofs.KeyCounts.{one, one_if, loading_keys-split}
use Rattle.quick_cache_model.proofs.Valid.Writes.{Writes-valid}
use Rattle.quick_cache_runs.specs.Conservation.{IsLastOf}
use Rattle.quick_cache_model.specs.Fates.{Fate, Comes, Changes, Leaves, leaving, fate_of, residents}
use Rattle.quick_cache_runs.proofs.Eviction.{EvictsToCapacity-tells}
use Rattle.quick_cache_model.specs.Leads.{Leads}
use Rattle.quick_cache_model.proofs.Leads.{Leads-same, Leads-from, Leads-to, Leads-changes, Leads-leaves, Leads-beside, Leads-between}
use Rattle.quick_cache_model.proofs.Residents.{residents-split, residents-entered, residents-rewritten}
use Rattle.quick_cache_runs.proofs.Residents.{counted-residents, counted-absent}
use Rattle.quick_cache_runs.proofs.Told.{Told}
use Rattle.quick_cache_runs.proofs.Values.{comings, comings-append, comings-hooks, comings-leaving, counted, counted-cons, counted-order}
use Rattle.quick_cache_runs.proofs.Values.{Leads-last, last_written-leaving}

-- the value of an admission
abbrev pub value_of : {V : Type 0} → Admission V → V
value_of (Admitted value) = value
value_of (TooHeavy value) = value

-- what the hook of a queue is told
fate-evicted : {K V : Type 0} (queue : Queue) (key : K) (value : V)
    → fate_of (evicted queue key value) ≡ Leaves key value
fate-evicted Queue.Hot key value = refl
fate-evicted Queue.Cold key value = refl

module _ {K V : Type 0} (equal : K → K → Bool) (laws : IsEquivalence equal) where
  -- tests that agree count alike
  counted-agree : (p q : K → Bool) → ((x : K) → p x ≡ q x) → (pairs : List (K × V))
      → counted p pairs ≡ counted q pairs
  counted-agree p q agree pairs =
      let same : p ≡ q = λ i x. agree x i in ap (λ test. counted test pairs) same

  module _ (old : CacheState K V) (valid : IsValid equal old) (key : K) where
    -- A pair with this value is led to be resident or to leave: beside all residents, where none
    -- has its key, or in the place of one that has it, which leaves in between.
    pub data Written (new : CacheState K V) : V → List (Fate K V) → Type 0 where
      beside : (value : V) (fates : List (Fate K V)) → counted (equal key) (residents old) ≡ 0
          → Leads ((key, value) ∷ residents old) fates (residents new) → Written new value fates
      over : (value : V) (pair : K × V) (rest : List (K × V)) (front back : List (Fate K V))
          → equal key pair.0 ≡ true → IsPermutation (residents old) (pair ∷ rest)
          → Leads ((key, value) ∷ rest) (front ++ back) (residents new)
          → Written new value (front ++ leaving pair ∷ back)

    -- it stands beside such pairs alone as have another key
    single_beside : counted (equal key) (residents old) ≡ 0 → (k : K)
        → one (equal k) key + counted (equal k) (residents old) ≤ 1
    single_beside none k = go (equal k key) refl
      where
        go : (b : Bool) → equal k key ≡ b → one_if b + counted (equal k) (residents old) ≤ 1
        go true is = omega (
          arith,
          none,
          counted-agree (equal k) (equal key) (λ x. laws.congr k key x is) (residents old),
        )
        go false is = omega (arith, counted-residents (equal k) old, valid.one_entry_a_key k)

    single_over : (pair : K × V) (rest : List (K × V)) → equal key pair.0 ≡ true
        → IsPermutation (residents old) (pair ∷ rest) → (k : K)
        → one (equal k) key + counted (equal k) rest ≤ 1
    single_over pair rest same order k =
        omega (
          arith,
          one-equal equal laws k key pair.0 same,
          counted-residents (equal k) old,
          valid.one_entry_a_key k,
          counted-order (equal k) (residents old) (pair ∷ rest) order,
          counted-cons (equal k) pair rest,
        )

    -- what is told of a write
    pub Written-told : (new : CacheState K V) (value : V) (fates : List (Fate K V))
        → Written new value fates → ((k : K) → comings (equal k) fates ≡ 0)
        → IsValid equal new → Told equal old (Comes key value ∷ fates) new
    Written-told new _ _ (Written.beside value fates none leads) quiet is_valid =
        let comes = Leads.comes key value (residents old) fates (residents new) leads in record {
          leads = comes;
          valid = is_valid;
          last = λ k last_value last. Leads-last (equal k) last_value comes
              (omega (arith, single_beside none k, quiet k)) last;
        }
    Written-told new _ _ (Written.over value pair rest front back same order leads) quiet
        is_valid =
        let comes = Leads.comes key value rest (front ++ back) (residents new) leads in record {
          leads = Leads-from (residents old) (pair ∷ rest) order
              (Leads-between pair rest (Comes key value ∷ front) back (residents new) comes);
          valid = is_valid;
          last = λ k last_value last.
              let here = all-permutation (λ own. equal k own.0 ≡ true → last_value ≡ Some own.1)
              (residents old) (pair ∷ rest) order last in
              subst (λ all. IsLastOf (equal k) all (residents new))
              (sym (last_written-leaving (equal k) last_value pair (Comes key value ∷ front) back))
              (Leads-last (equal k) last_value comes
              (omega (
                arith,
                single_over pair rest same order k,
                quiet k,
                comings-append (equal k) front (leaving pair ∷ back),
                comings-append (equal k) front back,
              )) here.1);
        }

    -- the admission check comes first
    checked : (rules : Rules K V) (hot_target : ℕ) (new : CacheState K V) (value : V)
        (first : List (HookCall K V)) (answer : Admission V) (fates : List (Fate K V))
        → ChecksAdmission rules hot_target key value first answer
        → Written new (value_of answer) fates → Written new value (map fate_of first ++ fates)
    checked rules hot_target new value _ _ fates (ChecksAdmission.is_light light) written = written
    checked rules hot_target new value _ _ fates (ChecksAdmission.is_pinned heavy pinned) written =
        written
    checked rules hot_target new value _ _ _
        (ChecksAdmission.was_lightened left heavy unpinned light) (Written.beside _ fates none leads) =
        Written.beside value (Changes key value left ∷ fates) none
        (Leads-changes key value left leads)
    checked rules hot_target new value _ _ _
        (ChecksAdmission.was_lightened left heavy unpinned light)
        (Written.over _ pair rest front back same order leads) =
        Written.over value pair rest (Changes key value left ∷ front) back same order
        (Leads-changes key value left leads)
    checked rules hot_target new value _ _ _
        (ChecksAdmission.is_too_heavy left heavy unpinned more) (Written.beside _ fates none leads) =
        Written.beside value (Changes key value left ∷ fates) none
        (Leads-changes key value left leads)
    checked rules hot_target new value _ _ _
        (ChecksAdmission.is_too_heavy left heavy unpinned more)
        (Written.over _ pair rest front back same order leads) =
        Written.over value pair rest (Changes key value left ∷ front) back same order
        (Leads-changes key value left leads)

    module _ (rules : Rules K V) where
      -- the fates of a write: what its hooks are told, and what it gives back
      abbrev fates_of : List (HookCall K V) → Option (K × V) → List (Fate K V)
      fates_of calls answer = map fate_of calls ++ map leaving (option_to_list answer)

      -- an admitted pair
      admitted-written : (strategy : Strategy) (value : V) (calls : List (HookCall K V))
          (answer : Option (K × V)) (new : CacheState K V)
          → WritesAdmitted rules (equal key) key strategy old value calls answer new
          → Written new value (fates_of calls answer)
      admitted-written strategy value _ _ _
          (WritesAdmitted.inserts_new mid calls inserts nothing evicts) =
          let item = new_item rules key value (queue_for rules old key value Queue.Cold) 0 in
          subst (λ fates. Written (entered item mid) value fates)
          (sym (append-nil (map fate_of calls)))
          (Written.beside value (map fate_of calls)
          (counted-absent (equal key) old nothing.keys.items)
          (Leads-to ((key, value) ∷ residents mid) (residents (entered item mid))
          (IsPermutation-sym _ _ (residents-entered item mid))
          (Leads-beside (key, value) (EvictsToCapacity-tells rules _ old calls mid evicts))))
      admitted-written strategy value _ _ _
          (WritesAdmitted.overwrites place before item touched after calls new there takes
          evicts) =
          let rest = residents (with_items place (before ++ after) old) in
          let written = new_item rules key value item.queue
          (mark_after old.mark_cut strategy touched.mark) in
          let mid = rewritten place before written after old in
          subst (λ fates. Written new value fates)
          ((λ i. sym (fate-evicted item.queue item.key item.value) i ∷ map fate_of calls)
          ∙ sym (append-nil (fate_of (evicted item.queue item.key item.value)
          ∷ map fate_of calls)))
          (Written.over value (pair_of item) rest [] (map fate_of calls) there.passes
          (residents-split place before item after old there.split)
          (Leads-from ((key, value) ∷ rest) (residents mid)
          (IsPermutation-sym _ _ (residents-rewritten place before written after old))
          (EvictsToCapacity-tells rules 0 mid calls new evicts)))
      admitted-written strategy value _ _ _
          (WritesAdmitted.inserts_over_ghost before after calls new inserts there evicts) =
          let item = new_item rules key value Queue.Hot 0 in
          let mid : CacheState K V = record old { ghosts = before ++ after } in
          subst (λ fates. Written new value fates) (sym (append-nil (map fate_of calls)))
          (Written.beside value (map fate_of calls)
          (counted-absent (equal key) old there.keys.items)
          (Leads-from ((key, value) ∷ residents old) (residents (entered item mid))
          (IsPermutation-sym _ _ (residents-entered item mid))
          (EvictsToCapacity-tells rules 0 (entered item mid) calls new evicts)))
      admitted-written strategy value _ _ _
          (WritesAdmitted.inserts_over_loading before entry after calls new inserts there
          evicts) =
          let item = new_item rules key value entry.queue (first_mark old.mark_cut) in
          let mid : CacheState K V = record old { loading = before ++ after } in
          subst (λ fates. Written new value fates) (sym (append-nil (map fate_of calls)))
          (Written.beside value (map fate_of calls)
          (omega (
            arith,
            counted-residents (equal key) old,
            valid.one_entry_a_key key,
            ap (λ entries. count_by (λ own. equal key own.key) entries) there.split,
            loading_keys-split (equal key) before entry after,
            ap one_if there.passes,
          ))
          (Leads-from ((key, value) ∷ residents old) (residents (entered item mid))
          (IsPermutation-sym _ _ (residents-entered item mid))
          (EvictsToCapacity-tells rules 0 (entered item mid) calls new evicts)))
      admitted-written strategy value _ _ _ (WritesAdmitted.gives_back replaces none) =
          Written.beside value (Leaves key value ∷ []) (counted-absent (equal key) old none)
          (Leads-leaves (key, value) (Leads-same (residents old)))

      -- a pair that is too heavy
      rejected-written : (strategy : Strategy) (value : V) (calls : List (HookCall K V))
          (answer : Option (K × V)) (new : CacheState K V)
          → RejectsTooHeavy (equal key) key strategy old value calls answer new
          → Written new value (fates_of calls answer)
      rejected-written strategy value _ _ _ (RejectsTooHeavy.reports _ _ inserts
          (TakesOutItem.was_there place before item after there)) =
          let rest = residents (with_items place (before ++ after) old) in
          subst (λ fate. Written (with_items place (before ++ after) old) value
          (fate ∷ Leaves key value ∷ [])) (sym (fate-evicted item.queue item.key item.value))
          (Written.over value (pair_of item) rest [] (Leaves key value ∷ []) there.passes
          (residents-split place before item after old there.split)
          (Leads-leaves (key, value) (Leads-same rest)))
      rejected-written strategy value _ _ _ (RejectsTooHeavy.reports _ _ inserts
          (TakesOutItem.was_absent none)) =
          Written.beside value (Leaves key value ∷ []) (counted-absent (equal key) old none)
          (Leads-leaves (key, value) (Leads-same (residents old)))
      rejected-written strategy value _ _ _ (RejectsTooHeavy.gives_back _ _ replaces
          (TakesOutItem.was_there place before item after there)) =
          let rest = residents (with_items place (before ++ after) old) in
          subst (λ fate. Written (with_items place (before ++ after) old) value
          (fate ∷ Leaves key value ∷ [])) (sym (fate-evicted item.queue item.key item.value))
          (Written.over value (pair_of item) rest [] (Leaves key value ∷ []) there.passes
          (residents-split place before item after old there.split)
          (Leads-leaves (key, value) (Leads-same rest)))
      rejected-written strategy value _ _ _ (RejectsTooHeavy.gives_back _ _ replaces
          (TakesOutItem.was_absent none)) =
          Written.beside value (Leaves key value ∷ []) (counted-absent (equal key) old none)
          (Leads-leaves (key, value) (Leads-same (residents old)))

      -- calls of hooks and more of them
      fates-append : (first rest : List (HookCall K V)) (answer : Option (K × V))
          → map fate_of first ++ fates_of rest answer ≡ fates_of (first ++ rest) answer
      fates-append first rest answer =
          sym (append_assoc (map fate_of first) (map fate_of rest)
          (map leaving (option_to_list answer)))
          ∙ ap (λ fates. fates ++ map leaving (option_to_list answer))
          (sym (map-append fate_of first rest))

      -- a write
      writes-written : (strategy : Strategy) (value : V) (calls : List (HookCall K V))
          (answer : Option (K × V)) (new : CacheState K V)
          → Writes rules (equal key) key strategy old value calls answer new
          → Written new value (fates_of calls answer)
      writes-written strategy value _ _ _
          (Writes.admitted first rest left answer new checks writes) =
          subst (λ fates. Written new value fates) (fates-append first rest answer)
          (checked rules old.hot_target new value first (Admitted left) (fates_of rest answer)
          checks (admitted-written strategy left rest answer new writes))
      writes-written strategy value _ _ _
          (Writes.too_heavy first rest left answer new checks rejects) =
          subst (λ fates. Written new value fates) (fates-append first rest answer)
          (checked rules old.hot_target new value first (TooHeavy left) (fates_of rest answer)
          checks (rejected-written strategy left rest answer new rejects))

      -- what is told of it
      pub Writes-told : (strategy : Strategy) (value : V) (calls : List (HookCall K V))
          (answer : Option (K × V)) (new : CacheState K V)
          → Writes rules (equal key) key strategy old value calls answer new
          → Told equal old
          (Comes key value ∷ (map fate_of calls ++ map leaving (option_to_list answer))) new
      Writes-told strategy value calls answer new writes =
          Written-told new value (fates_of calls answer)
          (writes-written strategy value calls answer new writes)
          (λ k. omega (
            arith,
            comings-append (equal k) (map fate_of calls)
                (map leaving (option_to_list answer)),
            comings-hooks (equal k) calls,
            comings-leaving (equal k) (option_to_list answer),
          ))
          (Writes-valid equal laws rules key strategy old value new calls answer writes valid)
