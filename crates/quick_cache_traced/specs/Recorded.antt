-- What a lock keeps: a cache, and the list of its calls and replies.
use Rattle.std.specs.Prelude.{◌≡◌, ℕ, ◌+◌, ◌⊎◌, Bool, List, [], ◌∷◌, ◌++◌, length, Option, Some, None}
use Rattle.quick_cache_options.specs.Options.{Settings}
use Rattle.quick_cache_model.specs.CacheState.{CacheState, empty_state}
use Rattle.quick_cache_model.specs.Lookups.{Sees, LooksUp}
use Rattle.quick_cache_model.specs.declared.refusal.Refusal.{Refusal}
use Rattle.quick_cache_model.specs.Hooks.{Rules}
use Rattle.quick_cache_model.specs.Refusals.{MayRefuse, needs_of_insert}
use Rattle.quick_cache_model.specs.Removal.{Removes, pair_of}
use Rattle.quick_cache_model.specs.Sizes.{hot_target_of, ghost_limit_of}
use Rattle.quick_cache_model.specs.Shown.{IsShown}
use Rattle.quick_cache_shard.specs.Shard.{Shard, UpToOrder, ClonesExactly}
use Rattle.quick_cache_shard.specs.Steps.{Goes, steady_in, hooks_in, rules_in}
use Rattle.quick_cache_unsync.specs.Touches.{no_touches}
use Rattle.quick_cache_model.specs.declared.calls.reply.Reply.{Reply}
use Rattle.quick_cache_traced.specs.declared.call.TraceCall.{TraceCall}
use Rattle.quick_cache_traced.specs.Seats.{Place}
use Rattle.quick_cache_traced.specs.Trace.{Entry, IsTrace, ShowsRun, IsRunItself}

-- The cache, the options that it was made with, the list, and how many calls the seats made.
pub record Recorded (K V We B L M : Type 0) : Type 0 where
  pub cache : Shard K V We B L
  pub options : Settings
  pub entries : List (Entry K V M)
  pub calls : ℕ

-- the state of an empty cache of these options
abbrev pub empty_of : {K V : Type 0} → Settings → CacheState K V
empty_of options = record (empty_state options.weight_capacity
    (hot_target_of options.weight_capacity options.hot_allocation)
    (ghost_limit_of options.estimated_items_capacity options.ghost_allocation)) {
      mark_cut = options.mark_cut;
    }

-- where a look shows two clones of the value that it sees, or nothing twice
pub record SeesTwice {K V : Type 0} (stands_for : K → Bool) (shows : V → V → Type 0)
    (old : CacheState K V) (one other : Option V) : Type 0 where
  pub found : Option V
  pub sees : Sees stands_for old (λ item. item.value) found
  pub shows_one : IsShown shows found one
  pub shows_other : IsShown shows found other

-- One call more is in the list, and counted, also at its seat.
pub record Adds {K V We B L M : Type 0} (old new : Recorded K V We B L M) (seat left : Place)
    : Type 0 where
  pub entry : Entry K V M
  pub added : new.entries ≡ old.entries ++ entry ∷ []
  pub counted : new.calls ≡ old.calls + 1
  pub at_seat : left ≡ record seat { calls = seat.calls + 1 }

-- no call was made, and none counted
pub record Unmade {K V We B L M : Type 0} (old new : Recorded K V We B L M) : Type 0 where
  pub state : new.cache.state ≡ old.cache.state
  pub entries : new.entries ≡ old.entries
  pub calls : new.calls ≡ old.calls

-- A look-up of a key. The answer and the recorded reply both show the value that was found, and the
-- recorded key is a clone.
pub record GetsTwice {K V We B L M : Type 0} (stands_for : K → Bool) (shows_key : K → K → Type 0)
    (shows : V → V → Type 0) (key : K) (old new : Recorded K V We B L M) (answer : Option V)
    : Type 0 where
  pub found : Option V
  pub kept : K
  pub shown : Option V
  pub looks : UpToOrder (LooksUp stands_for old.cache.state (λ item. item.value) found)
      new.cache.state
  pub answers : IsShown shows found answer
  pub records : IsShown shows found shown
  pub is_key : shows_key key kept
  pub added : new.entries ≡ old.entries ++ (TraceCall.Get kept, Reply.Value shown) ∷ []

-- an insert: clones of the key and the value are recorded
pub record NotesInsert {K V We B L M : Type 0} (shows_key : K → K → Type 0) (shows : V → V → Type 0)
    (key : K) (value : V) (old new : Recorded K V We B L M) : Type 0 where
  pub kept : K
  pub copy : V
  pub is_key : shows_key key kept
  pub is_value : shows value copy
  pub added : new.entries ≡ old.entries ++ (TraceCall.Insert kept copy, Reply.Done) ∷ []

-- what is shown of a pair, if there is one: a clone of its key, and one of its value
abbrev pub ShowsPair : {K V : Type 0} → (K → K → Type 0) → (V → V → Type 0) → Option (K × V)
    → Option (K × V) → Type 0
ShowsPair shows_key shows None None = Unit {0}
ShowsPair shows_key shows (Some pair) (Some shown) =
    shows_key pair.0 shown.0 × shows pair.1 shown.1
ShowsPair shows_key shows _ _ = ⊥

-- where a look shows the pair of the item that it sees, or nothing
pub record SeesPair {K V : Type 0} (stands_for : K → Bool) (shows_key : K → K → Type 0)
    (shows : V → V → Type 0) (old : CacheState K V) (shown : Option (K × V)) : Type 0 where
  pub found : Option (K × V)
  pub sees : Sees stands_for old pair_of found
  pub is_shown : ShowsPair shows_key shows found shown

-- A removal by a key. The recorded reply has the pair that was taken out, and the answer clones of
-- its key and of its value.
pub record RemovesTwice {K V We B L M : Type 0} (stands_for : K → Bool) (hash : ℕ)
    (shows_key : K → K → Type 0) (shows : V → V → Type 0) (key : K)
    (old new : Recorded K V We B L M) (answer : Option (K × V)) : Type 0 where
  pub pair : Option (K × V)
  pub kept : K
  pub removes : UpToOrder (Removes stands_for old.cache.state hash pair) new.cache.state
  pub answers : ShowsPair shows_key shows pair answer
  pub is_key : shows_key key kept
  pub added : new.entries ≡ old.entries ++ (TraceCall.Remove kept, Reply.Pair pair) ∷ []

-- why an insert was refused: there was no memory for the entry, or the cache refused the pair
abbrev pub MayRefuseInsert : {K V : Type 0} → Rules K V → (K → K → Bool) → K → CacheState K V
    → Refusal → Type 0
MayRefuseInsert rules equal key state refusal = (refusal ≡ Refusal.Memory)
    ⊎ MayRefuse (needs_of_insert (equal key) (rules.hash key) state) state refusal

module _ {K V We B L S M : Type 0} (goes : Goes K V We B L S) (is_default : S → Type 0)
    (equal : K → K → Bool) (shows_key : K → K → Type 0) (shows : V → V → Type 0) where
  -- the list is one of a run of its cache from an empty one of its options to its state
  abbrev pub IsTraceOf : Recorded K V We B L M → Type 0
  IsTraceOf recorded =
      IsTrace (rules_in goes no_touches recorded.cache) equal shows_key shows
      (hooks_in goes recorded.cache) is_default (empty_of recorded.options) recorded.entries
      recorded.cache.state

  -- What the lock keeps true: as many calls were made as stand in the list, pinning is steady, and
  -- the list is such a one.
  pub record IsKept (recorded : Recorded K V We B L M) : Type 0 where
    pub counted : recorded.calls ≡ length recorded.entries
    pub steady : steady_in goes recorded.cache
    pub trace : IsTraceOf recorded

  -- What the list of the cache behind the lock is: it shows the calls of a run of the cache for one
  -- thread, and where a clone is the very thing it is such a run.
  pub record Shows (recorded : Recorded K V We B L M) (entries : List (Entry K V M)) : Type 0 where
    pub same : entries ≡ recorded.entries
    pub kept : IsKept recorded
    pub shows_run : ShowsRun (rules_in goes no_touches recorded.cache) equal shows_key shows
        (empty_of recorded.options) entries recorded.cache.state
    pub is_run : ClonesExactly shows_key → ClonesExactly shows
        → IsRunItself (rules_in goes no_touches recorded.cache) equal shows_key shows
        (empty_of recorded.options) entries recorded.cache.state

  -- there was such a cache, whose list this is
  pub record FromSome (entries : List (Entry K V M)) : Type 0 where
    pub recorded : Recorded K V We B L M
    pub is_its : Shows recorded entries

  -- A call was made on a cache that the lock kept, and this holds of it before and after. Other
  -- threads use it, too, so nobody knows which one it was.
  pub record WasMade (P : Recorded K V We B L M → Recorded K V We B L M → Type 0) : Type 0 where
    pub old : Recorded K V We B L M
    pub new : Recorded K V We B L M
    pub kept : IsKept old
    pub holds : P old new
