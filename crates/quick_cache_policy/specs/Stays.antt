-- What a call leaves beside its step.
use Rattle.std.specs.Prelude.{◌≡◌, ℕ, ◌+◌, ◌≤◌, Bool, List}
use Rattle.quick_cache_model.specs.declared.queue.Queue.{Queue}
use Rattle.quick_cache_model.specs.CacheState.{keys_by}
use Rattle.quick_cache_policy.specs.declared.contents.Contents.{Contents}
use Rattle.quick_cache_policy.specs.Contents.{IsSound, KeepsNumbers, ring_count, state_of, work_of}
use Rattle.quick_cache_policy.specs.Places.{LosesOnly, places_of}
use Rattle.quick_cache_policy.specs.Work.{PaysFor, WorksWithin}

module _ {K V P W A T : Type 0} (ticket_of : P → ℕ) (equal : K → K → Bool) where
  -- by whatever hashes they were sound, they are so still
  abbrev pub KeepsSound : (old new : Contents K V W A T P) → Type 0
  KeepsSound old new = (hash : K → ℕ) → IsSound ticket_of equal hash old
      → IsSound ticket_of equal hash new

  module _ (hash : K → ℕ) where
    -- No entry came, and no item moved.
    pub record LosesEntries (old new : Contents K V W A T P) : Type 0 where
      pub sound : IsSound ticket_of equal hash new
      pub places : LosesOnly (places_of old.lists) (places_of new.lists)
      pub room : old.lists.room ≤ new.lists.room
      pub same : new ≡ record old { lists = new.lists }

    -- No entry came or went, and no item moved.
    pub record KeepsEntries (old new : Contents K V W A T P) : Type 0 where
      pub sound : IsSound ticket_of equal hash new
      pub places : LosesOnly (places_of old.lists) (places_of new.lists)
      pub room : new.lists.room ≡ old.lists.room
      pub same : new ≡ record old { lists = new.lists }

    -- Room was made by hot advances, of which items pay for all but so many. No key came, and no
    -- item moved.
    pub record MakesRoom (unpaid : ℕ) (old new : Contents K V W A T P) : Type 0 where
      pub sound : IsSound ticket_of equal hash new
      pub keys : (test : K → Bool) → keys_by test (state_of ticket_of new)
          ≤ keys_by test (state_of ticket_of old)
      pub places : LosesOnly (places_of old.lists) (places_of new.lists)
      pub room : old.lists.room ≤ new.lists.room
      pub work : PaysFor old.mark_cut unpaid (ring_count Queue.Hot old) (ring_count Queue.Cold old)
          (ring_count Queue.Hot new) (ring_count Queue.Cold new) (work_of old) (work_of new)
      pub same : KeepsNumbers old new

    -- A pair was written, or not: that took room for so many entries at most, items moved so, and
    -- the work is that of making room for one more item than there were.
    pub record WritesWithin (Moves : (old new : List (ℕ × K)) → Type 0) (taken : ℕ)
        (old new : Contents K V W A T P) : Type 0 where
      pub sound : IsSound ticket_of equal hash new
      pub places : Moves (places_of old.lists) (places_of new.lists)
      pub room : old.lists.room ≤ new.lists.room + taken
      pub work : WorksWithin old.mark_cut (ring_count Queue.Hot old + ring_count Queue.Cold old + 1)
          (work_of old) (work_of new)
      pub same : KeepsNumbers old new
