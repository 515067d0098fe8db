-- When a call is refused. A refused call changes nothing, calls no hook, and gives back what it was
-- handed.
use Rattle.std.specs.Prelude.{ℕ, ◌+◌, ◌-◌, ◌^◌, ◌<◌, ◌≤◌, Bool, length}
use Rattle.quick_cache_model.specs.declared.refusal.Refusal.{Refusal}
use Rattle.quick_cache_model.specs.CacheState.{CacheState, item_count}
use Rattle.quick_cache_model.specs.Finding.{HasNoKey, HasNothing}

-- how many slots there are: a token of 32 bits names each, and 0 and the greatest name none
abbrev pub slot_count : ℕ
slot_count = 4294967294

-- where the counter of tickets ends
abbrev pub last_ticket : ℕ
last_ticket = 2 ^ 64 - 1

module _ {K V : Type 0} where
  -- items, loading entries and ghosts take a slot each
  abbrev pub slots_taken : CacheState K V → ℕ
  slots_taken state = item_count state + length state.loading + length state.ghosts

  abbrev pub HasSlot : CacheState K V → Type 0
  HasSlot state = slots_taken state < slot_count

  abbrev pub HasTicket : CacheState K V → Type 0
  HasTicket state = state.next_ticket < last_ticket

-- what a call needs of that which may run out: a ticket, a slot that was not taken, and memory for
-- a growth or a clone
pub record Needs : Type 1 where
  pub ticket : Type 0
  pub slot : Type 0
  pub memory : Type 0

-- the call has the ticket and the slot that it needs
pub record IsProvided {K V : Type 0} (needs : Needs) (state : CacheState K V) : Type 0 where
  pub ticket : needs.ticket → HasTicket state
  pub slot : needs.slot → HasSlot state

-- Why a call is refused: tickets are looked at before slots, and both before memory is asked for.
-- It is refused for tickets or for slots exactly where they ran out, and for memory at most where
-- it asks for some.
pub data MayRefuse {K V : Type 0} (needs : Needs) (state : CacheState K V) : Refusal → Type 0 where
  tickets_spent : needs.ticket → last_ticket ≤ state.next_ticket
      → MayRefuse needs state Refusal.TicketsSpent
  slots_full : (needs.ticket → HasTicket state) → needs.slot → slot_count ≤ slots_taken state
      → MayRefuse needs state Refusal.SlotsFull
  memory_refused : IsProvided needs state → needs.memory → MayRefuse needs state Refusal.Memory

module _ {K V : Type 0} (stands_for : K → Bool) (hash : ℕ) (state : CacheState K V) where
  -- an insert takes a slot, and asks for memory, only where nothing is found under its key
  abbrev pub needs_of_insert : Needs
  needs_of_insert = record {
    ticket = ⊥;
    slot = HasNothing stands_for hash state;
    memory = HasNothing stands_for hash state;
  }

  -- a call that may make a placeholder does so where no item and no placeholder is found: it takes
  -- a ticket, it asks for memory, and a slot only where there is no ghost to take the place of
  abbrev pub needs_of_placeholder : Needs
  needs_of_placeholder = record {
    ticket = HasNoKey stands_for state;
    slot = HasNothing stands_for hash state;
    memory = HasNoKey stands_for state;
  }

-- a call that puts a placeholder in the place of an item takes a ticket and the item's slot, and
-- asks for memory
abbrev pub needs_of_replacement : Needs
needs_of_replacement = record { ticket = Unit {0}; slot = ⊥; memory = Unit {0} }

-- a call that shows a value makes a clone of it first
abbrev pub needs_of_clone : Needs
needs_of_clone = record { ticket = ⊥; slot = ⊥; memory = Unit {0} }
