-- What eviction keeps: all but the items and the ghosts, and the ghosts stay within their limit.
use Rattle.std.proofs.Common.{◌≡◌, ℕ, ◌-◌, ◌≤◌, Bool, true, false, List, [], ◌∷◌, ◌++◌, map, length, refl, sym, ap, ◌∙◌, arith, length-drop}
use Rattle.std.proofs.Common.{append_assoc, append-nil}
use Rattle.quick_cache_model.specs.declared.queue.Queue.{Queue}
use Rattle.quick_cache_model.specs.CacheState.{CacheState, Item}
use Rattle.quick_cache_model.specs.Hooks.{Rules, HookCall}
use Rattle.quick_cache_model.specs.Eviction.{newest, lowered, EvictsVictim, AdvancesHot, EvictsToTarget, AdvancesCold, EvictsToCapacity}

-- the newest ghosts are within the limit
pub newest-within : (n : ℕ) (ghosts : List ℕ) → length (newest n ghosts) ≤ n
newest-within n ghosts = omega (arith, length-drop (length ghosts - n) ghosts)

module _ {K V : Type 0} where
  -- Two states are the same but for their items and ghosts. Items without weight only come, and
  -- ghosts that were within their limit stay so.
  pub record IsSameBeside (old new : CacheState K V) : Type 0 where
    pub loading : new.loading ≡ old.loading
    pub next_ticket : new.next_ticket ≡ old.next_ticket
    pub capacity : new.capacity ≡ old.capacity
    pub hot_target : new.hot_target ≡ old.hot_target
    pub ghost_limit : new.ghost_limit ≡ old.ghost_limit
    pub mark_cut : new.mark_cut ≡ old.mark_cut
    pub hits : new.hits ≡ old.hits
    pub misses : new.misses ≡ old.misses
    pub still : (more : List (Item K V)) × (new.still ≡ old.still ++ more)
    pub ghosts_within : length old.ghosts ≤ old.ghost_limit → length new.ghosts ≤ new.ghost_limit

  -- a state is the same beside itself
  pub IsSameBeside-refl : (state : CacheState K V) → IsSameBeside state state
  IsSameBeside-refl state = record {
    loading = refl;
    next_ticket = refl;
    capacity = refl;
    hot_target = refl;
    ghost_limit = refl;
    mark_cut = refl;
    hits = refl;
    misses = refl;
    still = ([], sym (append-nil state.still));
    ghosts_within = λ within. within;
  }

  -- and the same beside what that is the same beside
  pub IsSameBeside-trans : (old mid new : CacheState K V) → IsSameBeside old mid
      → IsSameBeside mid new → IsSameBeside old new
  IsSameBeside-trans old mid new a b = record {
    loading = b.loading ∙ a.loading;
    next_ticket = b.next_ticket ∙ a.next_ticket;
    capacity = b.capacity ∙ a.capacity;
    hot_target = b.hot_target ∙ a.hot_target;
    ghost_limit = b.ghost_limit ∙ a.ghost_limit;
    mark_cut = b.mark_cut ∙ a.mark_cut;
    hits = b.hits ∙ a.hits;
    misses = b.misses ∙ a.misses;
    still = (
      a.still.0 ++ b.still.0,
      b.still.1 ∙ ap (λ xs. xs ++ b.still.0)
          a.still.1 ∙ append_assoc old.still a.still.0 b.still.0,
    );
    ghosts_within = λ within. b.ghosts_within (a.ghosts_within within);
  }

  -- a state with other rings is the same beside
  pub IsSameBeside-rings : (state : CacheState K V) (hot cold : List (Item K V))
      → IsSameBeside state (record state { hot = hot; cold = cold })
  IsSameBeside-rings state hot cold = record {
    loading = refl;
    next_ticket = refl;
    capacity = refl;
    hot_target = refl;
    ghost_limit = refl;
    mark_cut = refl;
    hits = refl;
    misses = refl;
    still = ([], sym (append-nil state.still));
    ghosts_within = λ within. within;
  }

module _ {K V : Type 0} (rules : Rules K V) where
  -- the fate of a victim changes items and ghosts alone
  pub EvictsVictim-beside : (queue : Queue) (old new : CacheState K V) (item : Item K V)
      (calls : List (HookCall K V))
      → EvictsVictim rules queue old item calls new → IsSameBeside old new
  EvictsVictim-beside queue old _ item _ (EvictsVictim.stays left light) = record {
    loading = refl;
    next_ticket = refl;
    capacity = refl;
    hot_target = refl;
    ghost_limit = refl;
    mark_cut = refl;
    hits = refl;
    misses = refl;
    still = (record item { value = left; weight = 0 } ∷ [], refl);
    ghosts_within = λ within. within;
  }
  EvictsVictim-beside Queue.Hot old _ item _ (EvictsVictim.leaves left heavy) =
      IsSameBeside-refl old
  EvictsVictim-beside Queue.Cold old _ item _ (EvictsVictim.leaves left heavy) = record {
    loading = refl;
    next_ticket = refl;
    capacity = refl;
    hot_target = refl;
    ghost_limit = refl;
    mark_cut = refl;
    hits = refl;
    misses = refl;
    still = ([], sym (append-nil old.still));
    ghosts_within = λ within. newest-within old.ghost_limit
        (old.ghosts ++ rules.hash item.key ∷ []);
  }

  -- so does a hot advance
  pub AdvancesHot-beside : (old new : CacheState K V) (answer : Bool) (calls : List (HookCall K V))
      → AdvancesHot rules old answer calls new → IsSameBeside old new
  AdvancesHot-beside old _ _ _ (AdvancesHot.all_pinned hot raised pinned) =
      IsSameBeside-rings old (map (lowered 1) hot) old.cold
  AdvancesHot-beside old _ _ _ (AdvancesHot.evicts hot before item after calls new raised split
      first evicts) =
      IsSameBeside-trans old _ new (IsSameBeside-rings old _ old.cold)
      (EvictsVictim-beside Queue.Hot _ new (lowered item.mark item) calls evicts)

  -- so does eviction down to the target
  pub EvictsToTarget-beside : (old new : CacheState K V) (calls : List (HookCall K V))
      → EvictsToTarget rules old calls new → IsSameBeside old new
  EvictsToTarget-beside _ _ _ (EvictsToTarget.has_room old fits) = IsSameBeside-refl old
  EvictsToTarget-beside _ _ _ (EvictsToTarget.gives_up old new calls above advances) =
      AdvancesHot-beside old new false calls advances
  EvictsToTarget-beside _ _ _ (EvictsToTarget.goes_on old mid new first rest above advances goes) =
      IsSameBeside-trans old mid new (AdvancesHot-beside old mid true first advances)
      (EvictsToTarget-beside mid new rest goes)

  -- so does a cold advance
  pub AdvancesCold-beside : (old new : CacheState K V) (answer : Bool) (calls : List (HookCall K V))
      → AdvancesCold rules old answer calls new → IsSameBeside old new
  AdvancesCold-beside old _ _ _ (AdvancesCold.promotes cold before item after calls new raised split
      passed marked goes) =
      IsSameBeside-trans old _ new (IsSameBeside-rings old _ _)
      (EvictsToTarget-beside _ new calls goes)
  AdvancesCold-beside old _ _ _ (AdvancesCold.evicts cold before item after calls new raised split
      passed unmarked unpinned evicts) =
      IsSameBeside-trans old _ new (IsSameBeside-rings old old.hot _)
      (EvictsVictim-beside Queue.Cold _ new item calls evicts)
  AdvancesCold-beside old _ _ _ (AdvancesCold.passes_all cold answer calls new raised passed
      advances) =
      IsSameBeside-trans old _ new (IsSameBeside-rings old old.hot cold)
      (AdvancesHot-beside _ new answer calls advances)

  -- so does eviction down to the capacity
  pub EvictsToCapacity-beside : (need : ℕ) (old new : CacheState K V) (calls : List (HookCall K V))
      → EvictsToCapacity rules need old calls new → IsSameBeside old new
  EvictsToCapacity-beside need _ _ _ (EvictsToCapacity.has_room old fits) = IsSameBeside-refl old
  EvictsToCapacity-beside need _ _ _ (EvictsToCapacity.gives_up old new calls above advances) =
      AdvancesCold-beside old new false calls advances
  EvictsToCapacity-beside need _ _ _ (EvictsToCapacity.goes_on old mid new first rest above advances
      goes) =
      IsSameBeside-trans old mid new (AdvancesCold-beside old mid true first advances)
      (EvictsToCapacity-beside need mid new rest goes)
