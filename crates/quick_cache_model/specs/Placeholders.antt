-- Placeholders: keys that are being loaded, and what becomes of them.
use Rattle.std.specs.Prelude.{◌≡◌, ◌≢◌, ℕ, ◌+◌, ◌<◌, Bool, true, List, [], ◌∷◌, ◌++◌, Option, Some, None, if◌then◌else◌}
use Rattle.std.specs.List.{AllByRecursion}
use Rattle.quick_cache_model.specs.declared.queue.Queue.{Queue}
use Rattle.quick_cache_model.specs.CacheState.{CacheState, LoadingEntry, entered}
use Rattle.quick_cache_model.specs.Hooks.{Rules, HookCall, EvictCold}
use Rattle.quick_cache_model.specs.Touches.{first_mark}
use Rattle.quick_cache_model.specs.Finding.{IsLoadingAt, IsGhostAt, HasNothing}
use Rattle.quick_cache_model.specs.Eviction.{EvictsToCapacity}
use Rattle.quick_cache_model.specs.Admission.{Admitted, TooHeavy, ChecksAdmission}
use Rattle.quick_cache_model.specs.Writes.{new_item, queue_for}
use Rattle.quick_cache_model.specs.Lookups.{after_hit, after_miss}

module _ {K V : Type 0} where
  -- a placeholder for the key, with the next ticket
  abbrev pub with_placeholder : K → Queue → CacheState K V → CacheState K V
  with_placeholder key queue state = record state {
    loading = state.loading ++ record { key = key; queue = queue; ticket = state.next_ticket } ∷ [];
    next_ticket = state.next_ticket + 1;
  }

module _ {K V : Type 0} (stands_for : K → Bool) (old : CacheState K V) where
  -- A placeholder is made for a key that the query stands for, and a miss is counted: a cold one
  -- where nothing is found, and a hot one where a ghost is, which goes.
  pub data MakesPlaceholder (hash : ℕ) (key : K) : CacheState K V → Type 0 where
    on_nothing : stands_for key ≡ true → HasNothing stands_for hash old
        → MakesPlaceholder hash key (with_placeholder key Queue.Cold (after_miss old))
    on_ghost : (before after : List ℕ) → stands_for key ≡ true
        → IsGhostAt stands_for hash old before after
        → MakesPlaceholder hash key
        (with_placeholder key Queue.Hot (after_miss (record old { ghosts = before ++ after })))

  -- one that is there already is met, by its ticket, and a hit is counted
  pub data MeetsPlaceholder : (ticket : ℕ) → CacheState K V → Type 0 where
    is_there : (before : List (LoadingEntry K)) (entry : LoadingEntry K)
        (after : List (LoadingEntry K))
        → IsLoadingAt stands_for old before entry after
        → MeetsPlaceholder entry.ticket (after_hit old)

module _ {K V : Type 0} (ticket : ℕ) (old : CacheState K V) where
  -- the placeholder of the ticket is there
  pub record IsLoadingTicket (before : List (LoadingEntry K)) (entry : LoadingEntry K)
      (after : List (LoadingEntry K)) : Type 0 where
    pub split : old.loading ≡ before ++ entry ∷ after
    pub is_of_ticket : entry.ticket ≡ ticket

  -- there is none of the ticket
  abbrev pub HasNoTicket : Type 0
  HasNoTicket = AllByRecursion (λ (entry : LoadingEntry K). entry.ticket ≢ ticket) old.loading

  -- a placeholder that is given up is gone, and its ghost does not come back
  pub data GivesUpPlaceholder : CacheState K V → Type 0 where
    was_there : (before : List (LoadingEntry K)) (entry : LoadingEntry K)
        (after : List (LoadingEntry K))
        → IsLoadingTicket before entry after
        → GivesUpPlaceholder (record old { loading = before ++ after })
    was_gone : HasNoTicket → GivesUpPlaceholder old

  module _ (rules : Rules K V) where
    -- an item of weight 0 takes no room
    pub data MakesRoomFor (weight : ℕ) (mid : CacheState K V) : List (HookCall K V) → CacheState K V
        → Type 0 where
      takes_none : weight ≡ 0 → MakesRoomFor weight mid [] mid
      takes_some : (calls : List (HookCall K V)) (new : CacheState K V) → 0 < weight
          → EvictsToCapacity rules 0 mid calls new → MakesRoomFor weight mid calls new

    -- A placeholder is filled with a value, marked where others waited for it. The answer is the
    -- value where the placeholder was gone. The value passes the admission check first: too heavy,
    -- it is told to the cold hook and the placeholder goes. Else it is hot if it fits the target,
    -- and of the placeholder's queue if not.
    pub data FillsPlaceholder (marked : Bool) (value : V) : List (HookCall K V) → Option V
        → CacheState K V → Type 0 where
      was_gone : HasNoTicket → FillsPlaceholder marked value [] (Some value) old
      fills : (before : List (LoadingEntry K)) (entry : LoadingEntry K)
          (after : List (LoadingEntry K))
          (left : V) (first rest : List (HookCall K V)) (new : CacheState K V)
          → IsLoadingTicket before entry after
          → ChecksAdmission rules old.hot_target entry.key value first (Admitted left)
          → MakesRoomFor (rules.weight entry.key left)
          (entered (new_item rules entry.key left (queue_for rules old entry.key left entry.queue)
          (if marked then first_mark old.mark_cut else 0))
          (record old { loading = before ++ after })) rest new
          → FillsPlaceholder marked value (first ++ rest) None new
      too_heavy : (before : List (LoadingEntry K)) (entry : LoadingEntry K)
          (after : List (LoadingEntry K))
          (left : V) (first : List (HookCall K V))
          → IsLoadingTicket before entry after
          → ChecksAdmission rules old.hot_target entry.key value first (TooHeavy left)
          → FillsPlaceholder marked value (first ++ EvictCold entry.key left ∷ []) None
          (record old { loading = before ++ after })
