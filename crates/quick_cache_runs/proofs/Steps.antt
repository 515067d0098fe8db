-- What is told of each call.
use Rattle.std.proofs.Common.{Bool, true, List, [], ◌∷◌, ◌++◌, map, Option, Some, None, refl, sym, subst}
use Rattle.std.specs.Cmp.{IsEquivalence}
use Rattle.std.specs.Option.{option_to_list}
use Rattle.std.proofs.lemmas.List.{append-nil}
use Rattle.quick_cache_model.specs.declared.refusal.Refusal.{Refusal}
use Rattle.quick_cache_model.specs.CacheState.{CacheState, IsValid, UpToOrder}
use Rattle.quick_cache_model.specs.Capacity.{SetsCapacity}
use Rattle.quick_cache_model.specs.Finding.{HasNothing}
use Rattle.quick_cache_model.specs.Hooks.{Rules, HookCall}
use Rattle.quick_cache_model.specs.Lookups.{LooksUp}
use Rattle.quick_cache_model.specs.Refusals.{MayRefuse, needs_of_insert}
use Rattle.quick_cache_model.specs.Removal.{Removes, RemovesIf, Retains}
use Rattle.quick_cache_model.specs.Writes.{Strategy, Writes, Insert as insertion}
use Rattle.quick_cache_model.specs.declared.calls.call.Call.{Call}
use Rattle.quick_cache_model.specs.declared.calls.reply.Reply.{Reply}
use Rattle.quick_cache_model.specs.CacheStep.{CacheStep}
use Rattle.quick_cache_model.specs.Kinds.{replacement, IsLook, IsLoad, MakesRoom}
use Rattle.quick_cache_model.specs.Loads.{WritesIfGiven}
use Rattle.quick_cache_model.specs.References.{WritesItem}
use Rattle.quick_cache_model.specs.Fates.{Fate, Comes, Leaves, coming, leaving, fate_of, residents}
use Rattle.quick_cache_runs.specs.Fates.{Rewrite, Befalls, HandsIn, WritesThrough, pairs_out, changing}
use Rattle.quick_cache_runs.proofs.Fills.{Loads-told, LoadsNothing-told}
use Rattle.quick_cache_model.proofs.Leads.{Leads-same, Leads-leaves}
use Rattle.quick_cache_runs.proofs.Quiet.{LooksUp-told, Removes-told, RemovesIf-told, Retains-told, cleared-told, Drains-told}
use Rattle.quick_cache_runs.proofs.Quiet.{SetsCapacity-told, IsRewritten, WritesItem-told}
use Rattle.quick_cache_runs.proofs.Residents.{counted-absent}
use Rattle.quick_cache_runs.proofs.Told.{Told, Told-nothing, Told-append, Told-ordered, Told-reordered}
use Rattle.quick_cache_runs.proofs.Writes.{Written, Written-told, Writes-told}

module _ {K V : Type 0} (rules : Rules K V) (equal : K → K → Bool) (laws : IsEquivalence equal)
  where
    -- a value that is written through a reference, up to the order of what has none
    rewritten_told : (old : CacheState K V) (valid : IsValid equal old) (key : K) (left : V)
        (there : Bool) (new : CacheState K V)
        → UpToOrder (WritesItem rules (equal key) old left there) new
        → IsRewritten equal laws old valid rules key left there new
    rewritten_told old valid key left there new writes =
        let h = WritesItem-told equal laws old valid rules key left there writes.ordered
        writes.holds in
        record {
          written = h.written;
          is = h.is;
          told = Told-reordered equal old (map changing h.written) writes.ordered new writes.same
              h.told;
        }

    module _ (old : CacheState K V) (valid : IsValid equal old) where
      -- where nothing else stands behind them
      ended : (fates : List (Fate K V)) (new : CacheState K V) → Told equal old fates new
          → Told equal old (fates ++ []) new
      ended fates new told = subst (λ all. Told equal old all new) (sym (append-nil fates)) told

      -- an insert that is refused found nothing
      found_nothing : (key : K) (refusal : Refusal)
          → MayRefuse (needs_of_insert (equal key) (rules.hash key) old) old refusal
          → HasNothing (equal key) (rules.hash key) old
      found_nothing key _ (MayRefuse.tickets_spent needs spent) = absurd needs
      found_nothing key _ (MayRefuse.slots_full tickets needs full) = needs
      found_nothing key _ (MayRefuse.memory_refused provided needs) = needs

      -- a write, up to the order of what has none
      written_told : (key : K) (value : V) (strategy : Strategy) (calls : List (HookCall K V))
          (answer : Option (K × V)) (new : CacheState K V)
          → UpToOrder (Writes rules (equal key) key strategy old value calls answer) new
          → Told equal old
          (Comes key value ∷ (map fate_of calls ++ map leaving (option_to_list answer))) new
      written_told key value strategy calls answer new writes =
          Told-ordered equal (Writes rules (equal key) key strategy old value calls answer) old
          (Comes key value ∷ (map fate_of calls ++ map leaving (option_to_list answer))) new writes
          (λ state write. Writes-told equal laws old valid key rules strategy value calls answer
          state write)

      -- a look-up
      looked_told : (key : K) (found : Option V) (new : CacheState K V)
          → UpToOrder (LooksUp (equal key) old (λ item. item.value) found) new
          → Told equal old [] new
      looked_told key found new looks =
          Told-ordered equal (LooksUp (equal key) old (λ item. item.value) found) old [] new looks
          (λ state look. LooksUp-told equal laws old valid (λ item. item.value) (equal key) found
          state look)

module _ {K V F M : Type 0} (rules : Rules K V) (equal : K → K → Bool)
    (laws : IsEquivalence equal) (shows_key : K → K → Type 0) (shows : V → V → Type 0)
    (answers : F → K → V → Bool) where
  -- a call with what befalls pairs in it
  pub record IsBooked (old : CacheState K V) (call : Call K V F) (reply : Reply K V M)
      (calls : List (HookCall K V)) (new : CacheState K V) : Type 0 where
    pub fates : List (Fate K V)
    pub befalls : Befalls equal answers old call reply calls fates
    pub told : Told equal old fates new

  module _ (old : CacheState K V) (valid : IsValid equal old) where
    -- the fates of a call, in their order
    abbrev fates_of : Call K V F → Reply K V M → List (HookCall K V) → List (K × V)
        → List (Rewrite K V) → List (Fate K V)
    fates_of call reply calls begun written = map coming begun ++ (map fate_of calls
        ++ (map changing written ++ map leaving (pairs_out answers old call reply)))

    booked : (call : Call K V F) (reply : Reply K V M) (calls : List (HookCall K V))
        (new : CacheState K V) (begun : List (K × V)) (written : List (Rewrite K V))
        → HandsIn equal call reply begun → WritesThrough equal call reply written
        → Told equal old (fates_of call reply calls begun written) new
        → IsBooked old call reply calls new
    booked call reply calls new begun written hands_in writes told = record {
      fates = fates_of call reply calls begun written;
      befalls = record {
        begun = begun;
        written = written;
        hands_in = hands_in;
        writes = writes;
        parts = refl;
      };
      told = told;
    }

    -- a removal, by what it gives out
    removed_booked : (key : K) (answer : Option (K × V)) (new : CacheState K V)
        → Told equal old (map leaving (option_to_list answer)) new
        → IsBooked old (Call.Remove key) (Reply.Pair answer) [] new
    removed_booked key None new told =
        booked (Call.Remove key) (Reply.Pair None) [] new [] [] refl refl told
    removed_booked key (Some pair) new told =
        booked (Call.Remove key) (Reply.Pair (Some pair)) [] new [] [] refl refl told

    tested_booked : (key : K) (wanted : F) (answer : Option (K × V)) (new : CacheState K V)
        → Told equal old (map leaving (option_to_list answer)) new
        → IsBooked old (Call.RemoveIf key wanted) (Reply.Pair answer) [] new
    tested_booked key wanted None new told =
        booked (Call.RemoveIf key wanted) (Reply.Pair None) [] new [] [] refl refl told
    tested_booked key wanted (Some pair) new told =
        booked (Call.RemoveIf key wanted) (Reply.Pair (Some pair)) [] new [] [] refl refl told

  module _ (old : CacheState K V) (valid : IsValid equal old) where
    -- an item that is found: it is looked up, and written through the reference, where one is given
    found_booked : (key : K) (given : Option V) (call : Call K V F) (left : Option V) (found shown : V)
        (mid new : CacheState K V) → IsLoad key given left call
        → Told equal old [] mid → WritesIfGiven rules (equal key) mid left true new
        → IsBooked old call (Reply.Found shown) [] new
    found_booked key given _ _ found shown mid new (IsLoad.load _) looks same =
        booked old valid (Call.Load key given) (Reply.Found shown) [] new [] [] refl refl
        (subst (λ state. Told equal old [] state) (sym same) looks)
    found_booked key given _ _ found shown mid new (IsLoad.guarded _) looks same =
        booked old valid (Call.Guarded key given) (Reply.Found shown) [] new [] [] refl refl
        (subst (λ state. Told equal old [] state) (sym same) looks)
    found_booked key given _ _ found shown mid new (IsLoad.load_mut _ left) looks writes =
        let h = rewritten_told rules equal laws mid looks.valid key left true new writes in
        booked old valid (Call.LoadMut key given left) (Reply.Found shown) [] new [] h.written refl
        h.is
        (ended rules equal laws old valid (map changing h.written) new
        (Told-append equal old mid new [] (map changing h.written) looks h.told))
    found_booked key given _ _ found shown mid new (IsLoad.guarded_mut _ left) looks writes =
        let h = rewritten_told rules equal laws mid looks.valid key left true new writes in
        booked old valid (Call.GuardedMut key given left) (Reply.Found shown) [] new [] h.written
        refl h.is
        (ended rules equal laws old valid (map changing h.written) new
        (Told-append equal old mid new [] (map changing h.written) looks h.told))

    -- a call that is refused
    refused_look : (key : K) (call : Call K V F) (refusal : Refusal) → IsLook key call
        → IsBooked old call (Reply.Refused refusal) [] old
    refused_look key _ refusal IsLook.get =
        booked old valid _ (Reply.Refused refusal) [] old [] [] refl refl
        (Told-nothing equal old valid)
    refused_look key _ refusal IsLook.peek =
        booked old valid _ (Reply.Refused refusal) [] old [] [] refl refl
        (Told-nothing equal old valid)

    refused_load : (key : K) (given : Option V) (call : Call K V F) (left : Option V) (refusal : Refusal)
        → IsLoad key given left call → IsBooked old call (Reply.Refused refusal) [] old
    refused_load key given _ _ refusal (IsLoad.load _) =
        booked old valid _ (Reply.Refused refusal) [] old [] [] refl refl
        (Told-nothing equal old valid)
    refused_load key given _ _ refusal (IsLoad.load_mut _ left) =
        booked old valid _ (Reply.Refused refusal) [] old [] [] refl refl
        (Told-nothing equal old valid)
    refused_load key given _ _ refusal (IsLoad.guarded _) =
        booked old valid _ (Reply.Refused refusal) [] old [] [] refl refl
        (Told-nothing equal old valid)
    refused_load key given _ _ refusal (IsLoad.guarded_mut _ left) =
        booked old valid _ (Reply.Refused refusal) [] old [] [] refl refl
        (Told-nothing equal old valid)

    refused_room : (call : Call K V F) (refusal : Refusal) → MakesRoom call
        → IsBooked old call (Reply.Refused refusal) [] old
    refused_room _ refusal MakesRoom.iter =
        booked old valid _ (Reply.Refused refusal) [] old [] [] refl refl
        (Told-nothing equal old valid)
    refused_room _ refusal MakesRoom.drain =
        booked old valid _ (Reply.Refused refusal) [] old [] [] refl refl
        (Told-nothing equal old valid)
    refused_room _ refusal (MakesRoom.reserve count) =
        booked old valid _ (Reply.Refused refusal) [] old [] [] refl refl
        (Told-nothing equal old valid)

  -- each call
  pub CacheStep-booked : (old : CacheState K V) → IsValid equal old
      → (call : Call K V F) (reply : Reply K V M) (calls : List (HookCall K V))
      (new : CacheState K V)
      → CacheStep rules equal shows_key shows answers old call reply calls new
      → IsBooked old call reply calls new
  CacheStep-booked old valid _ _ _ _ (CacheStep.inserts key value calls new provided writes) =
      booked old valid _ _ calls new ((key, value) ∷ []) [] refl refl
      (written_told rules equal laws old valid key value insertion calls None new writes)
  CacheStep-booked old valid _ _ _ _ (CacheStep.refuses_insert key value refusal cause) =
      booked old valid _ _ [] old ((key, value) ∷ []) [] refl refl
      (Written-told equal laws old valid key old value (Leaves key value ∷ [])
      (Written.beside value (Leaves key value ∷ [])
      (counted-absent (equal key) old (found_nothing rules equal laws old valid key refusal cause).keys.items)
      (Leads-leaves (key, value) (Leads-same (residents old)))) (λ k. refl) valid)
  CacheStep-booked old valid _ _ _ _ (CacheStep.replaces key value soft calls new writes) =
      booked old valid _ _ calls new ((key, value) ∷ []) [] refl refl
      (written_told rules equal laws old valid key value (replacement soft) calls None new writes)
  CacheStep-booked old valid _ _ _ _
      (CacheStep.gives_back key value soft back calls new writes) =
      booked old valid _ _ calls new ((key, value) ∷ []) [] refl refl
      (written_told rules equal laws old valid key value (replacement soft) calls (Some back) new writes)
  CacheStep-booked old valid _ _ _ _ (CacheStep.gets key found shown new looks is) =
      booked old valid _ _ [] new [] [] refl refl (looked_told rules equal laws old valid key found new looks)
  CacheStep-booked old valid _ _ _ _ (CacheStep.peeks key found shown sees is) =
      booked old valid _ _ [] old [] [] refl refl (Told-nothing equal old valid)
  CacheStep-booked old valid _ _ _ _
      (CacheStep.refuses_look call key refusal place before item after look there cause) =
      refused_look old valid key call refusal look
  CacheStep-booked old valid _ _ _ _
      (CacheStep.gets_mut key value found there mid new looks writes) =
      let looked = looked_told rules equal laws old valid key found mid looks in
      let h = rewritten_told rules equal laws mid looked.valid key value there new writes in
      booked old valid _ _ [] new [] h.written refl h.is
      (ended rules equal laws old valid (map changing h.written) new
      (Told-append equal old mid new [] (map changing h.written) looked h.told))
  CacheStep-booked old valid _ _ _ _ (CacheStep.peeks_mut key value there new writes) =
      let h = rewritten_told rules equal laws old valid key value there new writes in
      booked old valid _ _ [] new [] h.written refl h.is
      (ended rules equal laws old valid (map changing h.written) new h.told)
  CacheStep-booked old valid _ _ _ _ (CacheStep.tells key there tells) =
      booked old valid _ _ [] old [] [] refl refl (Told-nothing equal old valid)
  CacheStep-booked old valid _ _ _ _ (CacheStep.tells_reads key reads sees) =
      booked old valid _ _ [] old [] [] refl refl (Told-nothing equal old valid)
  CacheStep-booked old valid _ _ _ _ (CacheStep.removes key answer new removes) =
      removed_booked old valid key answer new
      (Told-ordered equal (Removes (equal key) old (rules.hash key) answer) old
      (map leaving (option_to_list answer)) new removes
      (λ state remove. Removes-told equal laws old valid (equal key) (rules.hash key) answer state
      remove))
  CacheStep-booked old valid _ _ _ _ (CacheStep.removes_if key wanted answer new removes) =
      tested_booked old valid key wanted answer new
      (Told-ordered equal (RemovesIf (equal key) old (answers wanted key) answer) old
      (map leaving (option_to_list answer)) new removes
      (λ state remove. RemovesIf-told equal laws old valid (equal key) (answers wanted key) answer
      state remove))
  CacheStep-booked old valid _ _ _ _
      (CacheStep.finds call key given left found shown mid new is_load looks is writes) =
      found_booked old valid key given call left found shown mid new is_load
      (looked_told rules equal laws old valid key (Some found) mid looks) writes
  CacheStep-booked old valid _ _ _ _ (CacheStep.loads key value there calls new loads tells) =
      let h = Loads-told equal laws key rules (rules.hash key) old valid value calls new loads in
      booked old valid _ _ calls new ((h.own, value) ∷ []) [] (h.own, h.same, refl) refl
      (ended rules equal laws old valid (Comes h.own value ∷ map fate_of calls) new h.told)
  CacheStep-booked old valid _ _ _ _
      (CacheStep.loads_mut key value left there calls mid new loads writes) =
      let h = Loads-told equal laws key rules (rules.hash key) old valid value calls mid loads in
      let w = rewritten_told rules equal laws mid h.told.valid key left there new writes in
      booked old valid _ _ calls new ((h.own, value) ∷ []) w.written (h.own, h.same, refl) w.is
      (Told-append equal old mid new (Comes h.own value ∷ map fate_of calls)
      (map changing w.written ++ []) h.told
      (ended rules equal laws mid h.told.valid (map changing w.written) new w.told))
  CacheStep-booked old valid _ _ _ _ (CacheStep.fails key new loads) =
      booked old valid _ _ [] new [] [] refl refl
      (LoadsNothing-told equal laws key rules (rules.hash key) old valid new loads)
  CacheStep-booked old valid _ _ _ _ (CacheStep.fails_mut key left new loads) =
      booked old valid _ _ [] new [] [] refl refl
      (LoadsNothing-told equal laws key rules (rules.hash key) old valid new loads)
  CacheStep-booked old valid _ _ _ _ (CacheStep.fills key value calls new loads) =
      let h = Loads-told equal laws key rules (rules.hash key) old valid value calls new loads in
      booked old valid _ _ calls new ((h.own, value) ∷ []) [] (h.own, h.same, refl) refl
      (ended rules equal laws old valid (Comes h.own value ∷ map fate_of calls) new h.told)
  CacheStep-booked old valid _ _ _ _ (CacheStep.fills_mut key value left calls new loads) =
      let h = Loads-told equal laws key rules (rules.hash key) old valid value calls new loads in
      booked old valid _ _ calls new ((h.own, value) ∷ []) [] (h.own, h.same, refl) refl
      (ended rules equal laws old valid (Comes h.own value ∷ map fate_of calls) new h.told)
  CacheStep-booked old valid _ _ _ _ (CacheStep.drops key new loads) =
      booked old valid _ _ [] new [] [] refl refl
      (LoadsNothing-told equal laws key rules (rules.hash key) old valid new loads)
  CacheStep-booked old valid _ _ _ _ (CacheStep.drops_mut key left new loads) =
      booked old valid _ _ [] new [] [] refl refl
      (LoadsNothing-told equal laws key rules (rules.hash key) old valid new loads)
  CacheStep-booked old valid _ _ _ _
      (CacheStep.refuses_found call key given left refusal place before item after is_load there
      cause) = refused_load old valid key given call left refusal is_load
  CacheStep-booked old valid _ _ _ _
      (CacheStep.refuses_load call key given left refusal is_load cause) =
      refused_load old valid key given call left refusal is_load
  CacheStep-booked old valid _ _ _ _ (CacheStep.walks found pairs order shown) =
      booked old valid _ _ [] old [] [] refl refl (Told-nothing equal old valid)
  CacheStep-booked old valid _ _ _ _ (CacheStep.drains pairs new drains) =
      booked old valid _ _ [] new [] [] refl refl
      (Drains-told equal laws old valid pairs.items new drains)
  CacheStep-booked old valid _ _ _ _ CacheStep.clears =
      booked old valid _ _ [] _ [] [] refl refl (cleared-told equal laws old valid)
  CacheStep-booked old valid _ _ _ _ (CacheStep.retains keep new retains) =
      booked old valid _ _ [] new [] [] refl refl
      (Told-ordered equal (Retains (answers keep) old) old _ new retains
      (λ state retain. Retains-told equal laws old valid (answers keep) state retain))
  CacheStep-booked old valid _ _ _ _ CacheStep.counts =
      booked old valid _ _ [] old [] [] refl refl (Told-nothing equal old valid)
  CacheStep-booked old valid _ _ _ _ (CacheStep.sets_capacity capacity calls new sets) =
      booked old valid _ _ calls new [] [] refl refl
      (ended rules equal laws old valid (map fate_of calls) new
      (Told-ordered equal (SetsCapacity rules capacity old calls) old (map fate_of calls) new sets
      (λ state set. SetsCapacity-told equal laws old valid rules capacity calls state set)))
  CacheStep-booked old valid _ _ _ _ (CacheStep.reserves count) =
      booked old valid _ _ [] old [] [] refl refl (Told-nothing equal old valid)
  CacheStep-booked old valid _ _ _ _ (CacheStep.refuses_room call refusal room cause) =
      refused_room old valid call refusal room
