-- Laws of valid states: a valid one with another list, and that making room leads from a valid
-- state to a valid one, and so does setting the capacity.
use Rattle.std.proofs.Common.{◌≡◌, ℕ, ◌+◌, ◌<◌, ◌≤◌, ◌==◌, Bool, List, length, sym, ap, subst, arith}
use Rattle.std.specs.List.{AllByRecursion, count_by}
use Rattle.quick_cache_model.specs.declared.queue.Queue.{Queue}
use Rattle.quick_cache_model.specs.CacheState.{CacheState, Item, LoadingEntry, keys_by, IsRingItem, IsValid, empty_state}
use Rattle.quick_cache_model.specs.Hooks.{Rules, HookCall}
use Rattle.quick_cache_model.specs.Eviction.{EvictsVictim, EvictsToCapacity}
use Rattle.quick_cache_model.specs.Capacity.{resized, SetsCapacity}
use Rattle.quick_cache_model.proofs.KeyCounts.{one, keys}
use Rattle.quick_cache_model.proofs.EvictionKeeps.{newest-within, IsSameBeside, EvictsVictim-beside, EvictsToCapacity-beside}
use Rattle.quick_cache_model.proofs.Eviction.Keys.{EvictsVictim-keys, EvictsToCapacity-keys}
use Rattle.quick_cache_model.proofs.Eviction.InPlace.{IsInPlace, EvictsVictim-in_place, EvictsToCapacity-in_place}
use Rattle.quick_cache_model.proofs.Valid.Places.{IsSameButItems}
use Rattle.quick_cache_model.proofs.Valid.Tickets.{AreTickets}

module _ {K V : Type 0} (equal : K → K → Bool) where
  -- the parts of which a valid state is made
  pub IsValid-parts : (state : CacheState K V) → ((k : K) → keys_by (equal k) state ≤ 1)
      → AreTickets state.next_ticket state.loading
      → length state.ghosts ≤ state.ghost_limit → IsInPlace state → IsValid equal state
  IsValid-parts state single tickets within place = record {
    one_entry_a_key = single;
    one_entry_a_ticket = tickets.one_entry;
    tickets_given = tickets.given;
    ghosts_within = within;
    in_hot = place.in_hot;
    in_cold = place.in_cold;
    in_still = place.in_still;
  }

  -- the tickets of a valid state differ, and are below the next one
  pub IsValid-tickets : (state : CacheState K V) → IsValid equal state
      → AreTickets state.next_ticket state.loading
  IsValid-tickets state valid = record {
    one_entry = valid.one_entry_a_ticket;
    given =
        valid.tickets_given;
  }

  -- each item of a valid state is in its place
  pub IsValid-in_place : (state : CacheState K V) → IsValid equal state → IsInPlace state
  IsValid-in_place state valid = record {
    in_hot = valid.in_hot;
    in_cold = valid.in_cold;
    in_still =
        valid.in_still;
  }

  -- what a valid state becomes with other items
  pub IsValid-items : (old new : CacheState K V) → IsSameButItems old new → IsValid equal old
      → ((k : K) → keys_by (equal k) new ≤ 1) → IsInPlace new → IsValid equal new
  IsValid-items old new same valid single place =
      let loading : new.loading ≡ old.loading = ap (λ (s : CacheState K V). s.loading) same in
      let next : new.next_ticket ≡ old.next_ticket =
      ap (λ (s : CacheState K V). s.next_ticket) same in
      IsValid-parts new single
      (subst (λ n. AreTickets n new.loading) (sym next)
      (subst (λ (l : List (LoadingEntry K)). AreTickets old.next_ticket l) (sym loading)
      (IsValid-tickets old valid)))
      (omega (
        arith,
        valid.ghosts_within,
        ap (λ (s : CacheState K V). length s.ghosts) same,
        ap
            (λ (s : CacheState K V). s.ghost_limit) same,
      ))
      place

  -- and where all beside the items and the ghosts is the same
  pub IsValid-beside : (old new : CacheState K V) → IsSameBeside old new → IsValid equal old
      → ((k : K) → keys_by (equal k) new ≤ 1) → IsInPlace new → IsValid equal new
  IsValid-beside old new same valid single place =
      IsValid-parts new single
      (subst (λ n. AreTickets n new.loading) (sym same.next_ticket)
      (subst (λ (l : List (LoadingEntry K)). AreTickets old.next_ticket l) (sym same.loading)
      (IsValid-tickets old valid)))
      (same.ghosts_within valid.ghosts_within)
      place

  -- A valid state with another cold ring, which has no key more: begun elsewhere, with other marks,
  -- or without some of its items.
  pub IsValid-cold : (cold : List (Item K V)) (state : CacheState K V)
      → ((test : K → Bool) → keys test cold ≤ keys test state.cold)
      → AllByRecursion (IsRingItem state.mark_cut Queue.Cold) cold → IsValid equal state
      → IsValid equal (record state { cold = cold })
  IsValid-cold cold state fewer ring valid =
      IsValid-parts (record state { cold = cold })
      (λ k. let was = valid.one_entry_a_key k in omega (arith, was, fewer (equal k)))
      (IsValid-tickets state valid) valid.ghosts_within
      (record { in_hot = valid.in_hot; in_cold = ring; in_still = valid.in_still })

  -- with other ghosts within their limit
  pub IsValid-ghosts : (ghosts : List ℕ) (state : CacheState K V)
      → length ghosts ≤ state.ghost_limit → IsValid equal state
      → IsValid equal (record state { ghosts = ghosts })
  IsValid-ghosts ghosts state within valid =
      IsValid-parts (record state { ghosts = ghosts }) valid.one_entry_a_key
      (IsValid-tickets state valid) within
      (record { in_hot = valid.in_hot; in_cold = valid.in_cold; in_still = valid.in_still })

  -- a cache that nothing was put into is valid
  pub empty_state-valid : (capacity hot_target ghost_limit : ℕ)
      → IsValid equal (empty_state {K = K} {V = V} capacity hot_target ghost_limit)
  empty_state-valid capacity hot_target ghost_limit = record {
    one_entry_a_key = λ k. omega arith;
    one_entry_a_ticket = λ n. omega arith;
    tickets_given = tt;
    ghosts_within = omega arith;
    in_hot = tt;
    in_cold = tt;
    in_still = tt;
  }

  module _ (rules : Rules K V) where
    -- the fate of a victim: from a valid state that it was taken out of, with a mark up to the
    -- greatest
    pub EvictsVictim-valid : (queue : Queue) (old new : CacheState K V) (item : Item K V)
        (calls : List (HookCall K V)) → EvictsVictim rules queue old item calls new
        → item.mark ≤ old.mark_cut → ((k : K) → keys_by (equal k) old + one (equal k) item.key ≤ 1)
        → IsValid equal old → IsValid equal new
    EvictsVictim-valid queue old new item calls evicts marked single valid =
        IsValid-beside old new (EvictsVictim-beside rules queue old new item calls evicts) valid
        (λ k. let was = single k in omega (
          arith,
          was,
          EvictsVictim-keys rules (equal k)
              queue old new item calls evicts,
        ))
        (EvictsVictim-in_place rules queue old new item calls evicts marked
        (IsValid-in_place old valid))

    -- eviction down to the capacity
    pub EvictsToCapacity-valid : (need : ℕ) (old new : CacheState K V) (calls : List (HookCall K V))
        → EvictsToCapacity rules need old calls new
        → IsValid equal old → IsValid equal new
    EvictsToCapacity-valid need old new calls evicts valid =
        IsValid-beside old new (EvictsToCapacity-beside rules need old new calls evicts) valid
        (λ k. let was = valid.one_entry_a_key k in omega
        (arith, was, EvictsToCapacity-keys rules (equal k) need old new calls evicts))
        (EvictsToCapacity-in_place rules need old new calls evicts (IsValid-in_place old valid))

    -- setting the capacity: the ghosts that are too many for the new limit go at the end
    pub SetsCapacity-valid : (capacity : ℕ) (old new : CacheState K V) (calls : List (HookCall K V))
        → SetsCapacity rules capacity old calls new
        → IsValid equal old → IsValid equal new
    SetsCapacity-valid capacity old _ calls (SetsCapacity.sets mid _ evicts) valid =
        let same = EvictsToCapacity-beside rules 0 (resized rules capacity old) mid calls evicts in
        let place = EvictsToCapacity-in_place rules 0 (resized rules capacity old) mid calls evicts
        (record { in_hot = valid.in_hot; in_cold = valid.in_cold; in_still = valid.in_still })
        in
        record {
          one_entry_a_key = λ k. let was = valid.one_entry_a_key k in omega (
            arith,
            was,
            EvictsToCapacity-keys rules (equal k) 0 (resized rules capacity old)
                mid calls evicts,
          );
          one_entry_a_ticket = λ n. subst (λ (l : List (LoadingEntry K)). count_by
              (λ entry. entry.ticket == n) l ≤ 1) (sym same.loading) (valid.one_entry_a_ticket n);
          tickets_given =
              subst (λ n. AllByRecursion (λ (entry : LoadingEntry K). entry.ticket < n) mid.loading)
              (sym same.next_ticket)
              (subst (λ (l : List (LoadingEntry K)). AllByRecursion
              (λ entry. entry.ticket < old.next_ticket) l) (sym same.loading)
              valid.tickets_given);
          ghosts_within = newest-within mid.ghost_limit mid.ghosts;
          in_hot = place.in_hot;
          in_cold = place.in_cold;
          in_still = place.in_still;
        }
