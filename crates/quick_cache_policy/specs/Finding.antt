-- What stands under a query, in the lists of a cache.
use Rattle.std.specs.Prelude.{◌≡◌, ℕ, ◌<◌, ◌≤◌, Bool, true, List, Some, None, Result, Ok, Err}
use Rattle.std.specs.List.{AllByRecursion}
use Rattle.std.specs.Int.NonZero.{non_zero_u32_get}
use Rattle.std.specs.declared.num.NonZeroU32.{NonZeroU32 as Token}
use Rattle.quick_cache_model.specs.declared.queue.Queue.{Queue}
use Rattle.quick_cache_model.specs.declared.refusal.Refusal.{Refusal}
use Rattle.quick_cache_model.specs.CacheState.{CacheState, Item, UpToOrder, Place}
use Rattle.quick_cache_model.specs.Finding.{IsItemAt}
use Rattle.quick_cache_model.specs.Lookups.{looked_up, LooksUp}
use Rattle.quick_cache_model.specs.Removal.{pair_of}
use Rattle.quick_cache_model.specs.Refusals.{slot_count}
use Rattle.quick_cache_store.specs.Lists.{Lists, Finds, FindsLoading, IsItemOf}
use Rattle.quick_cache_store.specs.declared.lists.found.Found.{Found}
use Rattle.quick_cache_policy.specs.Contents.{state_of}
use Rattle.quick_cache_policy.specs.declared.contents.Contents.{Contents}

-- each key that the query stands for is kept under its hash
pub record AreUnder {K V P : Type 0} (stands_for : K → Bool) (hash : ℕ) (lists : Lists K V P)
    : Type 0 where
  pub hot : AllByRecursion (λ held. stands_for held.item.key ≡ true → held.hash ≡ hash) lists.hot
  pub cold : AllByRecursion (λ held. stands_for held.item.key ≡ true → held.hash ≡ hash) lists.cold
  pub still : AllByRecursion
      (λ held. stands_for held.item.key ≡ true → held.hash ≡ hash) lists.still
  pub loading : AllByRecursion
      (λ waiting. stands_for waiting.key ≡ true → waiting.hash ≡ hash) lists.loading

-- here is an item whose key the query stands for
pub record IsThere {K V : Type 0} (stands_for : K → Bool) (state : CacheState K V) (item : Item K V)
    : Type 0 where
  pub place : Place
  pub before : List (Item K V)
  pub after : List (Item K V)
  pub at : IsItemAt stands_for state place before item after

-- A pair comes in at this token, with this queue and this mark: as a hot one over a ghost of its
-- hash, or over the placeholder of its key, with its queue and one mark.
pub data EntersAt {K V P : Type 0} (stands_for : K → Bool) (hash : ℕ) (lists : Lists K V P)
    (token : Token) (queue : Queue) (mark : ℕ) : Type 0 where
  at_ghost : Finds stands_for hash lists (Found.Ghost token) → queue ≡ Queue.Hot → mark ≡ 0
      → EntersAt stands_for hash lists token queue mark
  at_loading : (found : FindsLoading stands_for hash lists (non_zero_u32_get token))
      → queue ≡ found.waiting.queue → mark ≡ 1
      → EntersAt stands_for hash lists token queue mark

-- an insert over what was found makes a new entry
abbrev pub TakesSlot : Found → Type 0
TakesSlot Found.Nothing = Unit {0}
TakesSlot (Found.Ghost token) = ⊥
TakesSlot (Found.Loading token) = ⊥
TakesSlot (Found.Item token) = ⊥

-- Room was made where the insert is to make a new entry, or else there was no slot or no memory for
-- it.
abbrev pub Provides : Found → (taken : ℕ) → (room : ℕ) → Result (Unit {0}) Refusal → Type 0
Provides found taken room (Ok done) =
    (TakesSlot found → taken < slot_count) × (TakesSlot found → 0 < room)
Provides found taken room (Err Refusal.Memory) = TakesSlot found × (taken < slot_count)
Provides found taken room (Err Refusal.SlotsFull) = TakesSlot found × (slot_count ≤ taken)
Provides found taken room (Err Refusal.TicketsSpent) = ⊥
Provides found taken room (Err Refusal.Finished) = ⊥

module _ {K V P W A T : Type 0} (ticket_of : P → ℕ) (stands_for : K → Bool)
    (old : Contents K V W A T P) where
  -- the query stands for the key of the item of this token, and it was looked up
  pub record IsLookedUp (token : Token) (new : Contents K V W A T P) : Type 0 where
    pub item : Item K V
    pub stood : IsItemOf old.lists (non_zero_u32_get token) item
    pub passes : stands_for item.key ≡ true
    pub now : IsItemOf new.lists (non_zero_u32_get token) (looked_up old.mark_cut item)
    pub value : UpToOrder
        (LooksUp stands_for (state_of ticket_of old) (λ i. i.value) (Some item.value))
        (state_of ticket_of new)
    pub pair : UpToOrder
        (LooksUp stands_for (state_of ticket_of old) pair_of (Some (pair_of item)))
        (state_of ticket_of new)

  -- nothing was found, which shows neither a value nor a pair
  pub record IsMissed (new : Contents K V W A T P) : Type 0 where
    pub value : UpToOrder (LooksUp stands_for (state_of ticket_of old) (λ i. i.value) None)
        (state_of ticket_of new)
    pub pair : UpToOrder (LooksUp stands_for (state_of ticket_of old) pair_of None)
        (state_of ticket_of new)
