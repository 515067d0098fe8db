-- The lists and the numbers of a cache, and the state that they are.
use Rattle.std.specs.Prelude.{◌≡◌, ℕ, ◌≤◌, ◌<◌, ◌^◌, min, Bool, length}
use Rattle.std.specs.List.{AllByRecursion}
use Rattle.quick_cache_model.specs.declared.queue.Queue.{Queue}
use Rattle.quick_cache_model.specs.CacheState.{CacheState, IsValid, ring_place}
use Rattle.quick_cache_store.specs.Lists.{Lists, items_at}
use Rattle.quick_cache_store.specs.Views.{items_of, hashes_of, loading_entries}
use Rattle.quick_cache_policy.specs.declared.contents.Contents.{Contents}
use Rattle.quick_cache_policy.specs.Work.{Work}

-- the target is within the capacity, the limit is what a count holds, and the greatest mark is one
-- of three
pub record AreSizes (capacity hot_target ghost_limit mark_cut : ℕ) : Type 0 where
  pub target_within : hot_target ≤ capacity
  pub target_above : min capacity 1 ≤ hot_target
  pub limit_counts : ghost_limit < 2 ^ 64
  pub some_mark : 1 ≤ mark_cut
  pub few_marks : mark_cut ≤ 3

-- each key stands under its hash
pub record AreHashed {K V P : Type 0} (hash : K → ℕ) (lists : Lists K V P) : Type 0 where
  pub hot : AllByRecursion (λ held. held.hash ≡ hash held.item.key) lists.hot
  pub cold : AllByRecursion (λ held. held.hash ≡ hash held.item.key) lists.cold
  pub still : AllByRecursion (λ held. held.hash ≡ hash held.item.key) lists.still
  pub loading : AllByRecursion (λ waiting. waiting.hash ≡ hash waiting.key) lists.loading

module _ {K V P W A T : Type 0} where
  -- the state that the lists and the numbers are
  abbrev pub state_of : (ticket_of : P → ℕ) → Contents K V W A T P → CacheState K V
  state_of ticket_of contents = record {
    hot = items_of contents.lists.hot;
    cold = items_of contents.lists.cold;
    ghosts = hashes_of contents.lists.ghosts;
    still = items_of contents.lists.still;
    loading = loading_entries ticket_of contents.lists.loading;
    capacity = contents.capacity;
    hot_target = contents.hot_target;
    ghost_limit = contents.ghost_limit;
    mark_cut = contents.mark_cut;
    hits = contents.hits;
    misses = contents.misses;
    next_ticket = contents.next_ticket;
  }

  -- how many items a ring has
  abbrev pub ring_count : Queue → Contents K V W A T P → ℕ
  ring_count queue contents = length (items_at (ring_place queue) contents.lists)

  -- the work that was counted
  abbrev pub work_of : Contents K V W A T P → Work
  work_of contents = record { advances = contents.advances; visits = contents.visits }

  -- all but the lists and the work is as it was
  abbrev pub KeepsNumbers : (old new : Contents K V W A T P) → Type 0
  KeepsNumbers old new = new ≡ record old {
    lists = new.lists;
    advances = new.advances;
    visits = new.visits;
  }

  -- what always holds: a valid state of a cache, whose keys stand under their hashes
  pub record IsSound (ticket_of : P → ℕ) (equal : K → K → Bool) (hash : K → ℕ)
      (contents : Contents K V W A T P) : Type 0 where
    pub valid : IsValid equal (state_of ticket_of contents)
    pub sized : AreSizes contents.capacity contents.hot_target contents.ghost_limit
        contents.mark_cut
    pub hashed : AreHashed hash contents.lists
