-- One call of a cache for one thread, with its reply: when it succeeds, and when it is refused.
use Rattle.std.specs.Prelude.{ℕ, ◌-◌, ◌^◌, Bool, true, List, [], ◌++◌, map, min, Option, Some, None, Vec}
use Rattle.std.specs.List.Sorted.{IsPermutation}
use Rattle.quick_cache_model.specs.declared.refusal.Refusal.{Refusal}
use Rattle.quick_cache_model.specs.CacheState.{CacheState, Item, Place, UpToOrder, item_count, total_weight}
use Rattle.quick_cache_model.specs.Capacity.{SetsCapacity}
use Rattle.quick_cache_model.specs.Finding.{IsItemAt}
use Rattle.quick_cache_model.specs.Hooks.{Rules, HookCall}
use Rattle.quick_cache_model.specs.Lookups.{Sees, LooksUp}
use Rattle.quick_cache_model.specs.Refusals.{IsProvided, MayRefuse, needs_of_insert, needs_of_clone, needs_of_placeholder}
use Rattle.quick_cache_model.specs.Removal.{Removes, RemovesIf, Retains, Drains, cleared, pair_of}
use Rattle.quick_cache_model.specs.Writes.{Writes, Insert as insertion}
use Rattle.quick_cache_model.specs.declared.calls.call.Call.{Call}
use Rattle.quick_cache_model.specs.declared.calls.reply.Reply.{Reply}
use Rattle.quick_cache_model.specs.Kinds.{replacement, IsLook, IsLoad, MakesRoom}
use Rattle.quick_cache_model.specs.Loads.{Loads, LoadsNothing, WritesIfGiven}
use Rattle.quick_cache_model.specs.References.{TellsItem, WritesItem}
use Rattle.quick_cache_model.specs.Shown.{IsShown, ArePairsShown}

-- Keys and values are shown by others: the second of `shows_key` and of `shows` may stand in a
-- reply for the first, as a clone does. What a predicate answers is a pure test.
module _ {K V F M : Type 0} (rules : Rules K V) (equal : K → K → Bool)
    (shows_key : K → K → Type 0) (shows : V → V → Type 0) (answers : F → K → V → Bool) where
  -- The state before, the call, its reply, the hooks that it calls and the state after, up to the
  -- order of what has none. A refused call calls no hook and changes nothing.
  pub data CacheStep (old : CacheState K V) : Call K V F → Reply K V M → List (HookCall K V)
      → CacheState K V → Type 0 where
    -- An insert is refused where nothing stands under its key and a slot or memory for it ran out.
    inserts : (key : K) (value : V) (calls : List (HookCall K V)) (new : CacheState K V)
        → IsProvided (needs_of_insert (equal key) (rules.hash key) old) old
        → UpToOrder (Writes rules (equal key) key insertion old value calls None) new
        → CacheStep old (Call.Insert key value) Reply.Done calls new
    refuses_insert : (key : K) (value : V) (refusal : Refusal)
        → MayRefuse (needs_of_insert (equal key) (rules.hash key) old) old refusal
        → CacheStep old (Call.Insert key value) (Reply.RefusedPair key value refusal) [] old
    -- A replace that is not admitted gives the pair back as it then stands.
    replaces : (key : K) (value : V) (soft : Bool) (calls : List (HookCall K V))
        (new : CacheState K V)
        → UpToOrder (Writes rules (equal key) key (replacement soft) old value calls None) new
        → CacheStep old (Call.Replace key value soft) Reply.Done calls new
    gives_back : (key : K) (value : V) (soft : Bool) (back : K × V) (calls : List (HookCall K V))
        (new : CacheState K V)
        → UpToOrder
        (Writes rules (equal key) key (replacement soft) old value calls (Some back)) new
        → CacheStep old (Call.Replace key value soft) (Reply.NotAdmitted back.0 back.1) calls new
    -- A look shows what it finds, and is refused only where an item stands under its key, of which
    -- the reply needs a clone.
    gets : (key : K) (found shown : Option V) (new : CacheState K V)
        → UpToOrder (LooksUp (equal key) old (λ item. item.value) found) new
        → IsShown shows found shown → CacheStep old (Call.Get key) (Reply.Value shown) [] new
    peeks : (key : K) (found shown : Option V)
        → Sees (equal key) old (λ item. item.value) found → IsShown shows found shown
        → CacheStep old (Call.Peek key) (Reply.Value shown) [] old
    refuses_look : (call : Call K V F) (key : K) (refusal : Refusal) (place : Place)
        (before : List (Item K V)) (item : Item K V) (after : List (Item K V)) → IsLook key call
        → IsItemAt (equal key) old place before item after → MayRefuse needs_of_clone old refusal
        → CacheStep old call (Reply.Refused refusal) [] old
    -- Where a reference is given, the value is written through it.
    gets_mut : (key : K) (value : V) (found : Option V) (there : Bool) (mid new : CacheState K V)
        → UpToOrder (LooksUp (equal key) old (λ item. item.value) found) mid
        → UpToOrder (WritesItem rules (equal key) mid value there) new
        → CacheStep old (Call.GetMut key value) (Reply.Flag there) [] new
    peeks_mut : (key : K) (value : V) (there : Bool) (new : CacheState K V)
        → UpToOrder (WritesItem rules (equal key) old value there) new
        → CacheStep old (Call.PeekMut key value) (Reply.Flag there) [] new
    -- What is told of an item changes nothing.
    tells : (key : K) (there : Bool) → TellsItem (equal key) old there
        → CacheStep old (Call.Contains key) (Reply.Flag there) [] old
    tells_reads : (key : K) (reads : Option ℕ) → Sees (equal key) old (λ item. item.reads) reads
        → CacheStep old (Call.Stats key) (Reply.Stats reads) [] old
    -- A removal is never refused.
    removes : (key : K) (answer : Option (K × V)) (new : CacheState K V)
        → UpToOrder (Removes (equal key) old (rules.hash key) answer) new
        → CacheStep old (Call.Remove key) (Reply.Pair answer) [] new
    removes_if : (key : K) (wanted : F) (answer : Option (K × V)) (new : CacheState K V)
        → UpToOrder (RemovesIf (equal key) old (answers wanted key) answer) new
        → CacheStep old (Call.RemoveIf key wanted) (Reply.Pair answer) [] new
    -- A call that loads looks its key up where there is an item. Its loader or its guard is not
    -- asked then, and the reply shows the value as it was before a reference was written through.
    finds : (call : Call K V F) (key : K) (given left : Option V) (found shown : V)
        (mid new : CacheState K V) → IsLoad key given left call
        → UpToOrder (LooksUp (equal key) old (λ item. item.value) (Some found)) mid
        → shows found shown → WritesIfGiven rules (equal key) mid left true new
        → CacheStep old call (Reply.Found shown) [] new
    -- Else it takes a placeholder. A loader that gives a value fills it, and the reply tells
    -- whether the key is resident then: a reference is given to it there.
    loads : (key : K) (value : V) (there : Bool) (calls : List (HookCall K V))
        (new : CacheState K V) → Loads rules (equal key) (rules.hash key) old value calls new
        → TellsItem (equal key) new there
        → CacheStep old (Call.Load key (Some value)) (Reply.Loaded there) calls new
    loads_mut : (key : K) (value left : V) (there : Bool) (calls : List (HookCall K V))
        (mid new : CacheState K V) → Loads rules (equal key) (rules.hash key) old value calls mid
        → UpToOrder (WritesItem rules (equal key) mid left there) new
        → CacheStep old (Call.LoadMut key (Some value) left) (Reply.Loaded there) calls new
    -- A loader that fails leaves no placeholder.
    fails : (key : K) (new : CacheState K V)
        → LoadsNothing rules (equal key) (rules.hash key) old new
        → CacheStep old (Call.Load key None) Reply.LoadFailed [] new
    fails_mut : (key : K) (left : V) (new : CacheState K V)
        → LoadsNothing rules (equal key) (rules.hash key) old new
        → CacheStep old (Call.LoadMut key None left) Reply.LoadFailed [] new
    -- A guard fills its placeholder, and one that is dropped leaves none.
    fills : (key : K) (value : V) (calls : List (HookCall K V)) (new : CacheState K V)
        → Loads rules (equal key) (rules.hash key) old value calls new
        → CacheStep old (Call.Guarded key (Some value)) Reply.Filled calls new
    fills_mut : (key : K) (value left : V) (calls : List (HookCall K V)) (new : CacheState K V)
        → Loads rules (equal key) (rules.hash key) old value calls new
        → CacheStep old (Call.GuardedMut key (Some value) left) Reply.Filled calls new
    drops : (key : K) (new : CacheState K V)
        → LoadsNothing rules (equal key) (rules.hash key) old new
        → CacheStep old (Call.Guarded key None) Reply.Dropped [] new
    drops_mut : (key : K) (left : V) (new : CacheState K V)
        → LoadsNothing rules (equal key) (rules.hash key) old new
        → CacheStep old (Call.GuardedMut key None left) Reply.Dropped [] new
    -- It is refused where it needs a clone of what it found, and where it finds neither an item nor
    -- a placeholder and a ticket, a slot or memory for a new one ran out: its loader never ran.
    refuses_found : (call : Call K V F) (key : K) (given left : Option V) (refusal : Refusal)
        (place : Place) (before : List (Item K V)) (item : Item K V) (after : List (Item K V))
        → IsLoad key given left call → IsItemAt (equal key) old place before item after
        → MayRefuse needs_of_clone old refusal → CacheStep old call (Reply.Refused refusal) [] old
    refuses_load : (call : Call K V F) (key : K) (given left : Option V) (refusal : Refusal)
        → IsLoad key given left call
        → MayRefuse (needs_of_placeholder (equal key) (rules.hash key) old) old refusal
        → CacheStep old call (Reply.Refused refusal) [] old
    -- A walk shows each pair once, in some order; a drain gives them out, and leaves no item, no
    -- placeholder and no ghost.
    walks : (found : List (K × V)) (pairs : Vec (K × V) M)
        → IsPermutation (map pair_of (old.hot ++ old.cold ++ old.still)) found
        → ArePairsShown shows_key shows found pairs.items
        → CacheStep old Call.Iter (Reply.Pairs pairs) [] old
    drains : (pairs : Vec (K × V) M) (new : CacheState K V) → Drains old pairs.items new
        → CacheStep old Call.Drain (Reply.Pairs pairs) [] new
    clears : CacheStep old Call.Clear Reply.Done [] (cleared old)
    retains : (keep : F) (new : CacheState K V) → UpToOrder (Retains (answers keep) old) new
        → CacheStep old (Call.Retain keep) Reply.Done [] new
    -- The numbers of the cache.
    counts : CacheStep old Call.Counts
        (Reply.Counts (item_count old) (min (total_weight old) (2 ^ 64 - 1)) old.capacity old.hits
        old.misses) [] old
    sets_capacity : (capacity : ℕ) (calls : List (HookCall K V)) (new : CacheState K V)
        → UpToOrder (SetsCapacity rules capacity old calls) new
        → CacheStep old (Call.SetCapacity capacity) Reply.Done calls new
    reserves : (count : ℕ) → CacheStep old (Call.Reserve count) Reply.Done [] old
    -- Room for what a walk shows or gives out, and room for what is to come, may be refused.
    refuses_room : (call : Call K V F) (refusal : Refusal) → MakesRoom call
        → MayRefuse needs_of_clone old refusal → CacheStep old call (Reply.Refused refusal) [] old
