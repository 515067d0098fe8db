-- Room is made by a front of the cold ring, where none of its items is marked or pinned and no
-- reader leaves touches.
use Rattle.std.proofs.Common.{◌≡◌, ◌≢◌, ℕ, ◌+◌, ◌-◌, take, drop, ◌<◌, ◌≤◌, ◌⊎◌, inl, inr, true, false, true≢false, List, [], ◌∷◌, ◌++◌}
use Rattle.std.proofs.Common.{length, refl, sym, ap, subst, ◌∙◌, arith, append-nil, length-append}
use Rattle.std.specs.List.{AllByRecursion}
use Rattle.quick_cache_model.specs.declared.queue.Queue.{Queue}
use Rattle.quick_cache_model.specs.CacheState.{CacheState, Item, weight_of, hot_weight, total_weight, restarted_behind}
use Rattle.quick_cache_model.specs.Eviction.{EvictsVictim, AdvancesCold, EvictsToCapacity, IsPassed}
use Rattle.quick_cache_model.specs.Hooks.{Rules, HookCall}
use Rattle.quick_cache_model.proofs.EachElement.{all-left, all-right, all-middle, all-push}
use Rattle.std.proofs.lemmas.List.{take-append-drop}
use Rattle.quick_cache_model.proofs.EvictionKeeps.{AdvancesCold-beside}
use Rattle.quick_cache_model.proofs.TouchLaws.{RaisesMarks-none}
use Rattle.quick_cache_laws.specs.Scans.{IsEvictable, IsShortestFront}

module _ {X : Type 0} where
  -- a list with an element in it is not empty
  pub not_empty : (before : List X) (x : X) (after : List X) → [] ≡ before ++ x ∷ after → ⊥
  not_empty before x after same = omega (arith, ap length same, length-append before (x ∷ after))

  -- what follows the first of a list
  abbrev pub behind_first : List X → List X
  behind_first [] = []
  behind_first (x ∷ xs) = xs

module _ {K V : Type 0} (rules : Rules K V) where
  abbrev AreEvictable : List (Item K V) → Type 0
  AreEvictable items = AllByRecursion (IsEvictable rules) items

  -- the fate of a cold victim leaves the rings as they are
  victim_rings : (old : CacheState K V) (item : Item K V) (calls : List (HookCall K V))
      (new : CacheState K V) → EvictsVictim rules Queue.Cold old item calls new
      → (new.hot ≡ old.hot) × (new.cold ≡ old.cold)
  victim_rings old item _ _ (EvictsVictim.stays left light) = (refl, refl)
  victim_rings old item _ _ (EvictsVictim.leaves left heavy) = (refl, refl)

  -- it brings no hash but the item's to the ghosts
  victim_ghosts : (P : ℕ → Type 0) (old : CacheState K V) (item : Item K V)
      (calls : List (HookCall K V)) (new : CacheState K V)
      → EvictsVictim rules Queue.Cold old item calls new → AllByRecursion P old.ghosts
      → P (rules.hash item.key) → AllByRecursion P new.ghosts
  victim_ghosts P old item _ _ (EvictsVictim.stays left light) all is = all
  victim_ghosts P old item _ _ (EvictsVictim.leaves left heavy) all is =
      let ghosts = old.ghosts ++ rules.hash item.key ∷ [] in
      let n = length ghosts - old.ghost_limit in
      all-right P (take n ghosts) (drop n ghosts) (subst (AllByRecursion P)
      (sym (take-append-drop n ghosts)) (all-push P old.ghosts (rules.hash item.key) all is))

  -- an item that would be evicted is not passed by
  none_passed : (items : List (Item K V)) → AllByRecursion (IsPassed rules) items
      → AreEvictable items → items ≡ []
  none_passed [] passed evictable = refl
  none_passed (x ∷ xs) passed evictable =
      absurd (true≢false (sym passed.0.1 ∙ evictable.0.1))

  -- the ghosts get no hash but those of cold items
  abbrev BringsHashes : CacheState K V → CacheState K V → Type 0
  BringsHashes old new = (hash : ℕ) → AllByRecursion (λ ghost. ghost ≢ hash) old.ghosts
      → AllByRecursion (λ item. rules.hash item.key ≢ hash) old.cold
      → AllByRecursion (λ ghost. ghost ≢ hash) new.ghosts

  -- the first item leaves the cold ring
  record TakesFirst (old new : CacheState K V) : Type 0 where
    pub item : Item K V
    pub rest : List (Item K V)
    pub was : old.cold ≡ item ∷ rest
    pub hot : new.hot ≡ old.hot
    pub cold : new.cold ≡ rest
    pub ghosts : BringsHashes old new

  -- the shortest front that makes room leaves it
  pub record TakesFront (need : ℕ) (old new : CacheState K V) : Type 0 where
    pub front : List (Item K V)
    pub rest : List (Item K V)
    pub is_shortest : IsShortestFront need old front rest
    pub hot : new.hot ≡ old.hot
    pub cold : new.cold ≡ rest
    pub ghosts : BringsHashes old new

  module _ (none : (n : ℕ) → rules.may_count n → n ≡ 0) where
    -- an advance that answers yes takes the first item, if there is one
    first_leaves : (old : CacheState K V) (calls : List (HookCall K V)) (new : CacheState K V)
        → AdvancesCold rules old true calls new → AreEvictable old.cold
        → (old.cold ≡ []) ⊎ TakesFirst old new
    first_leaves old _ _ (AdvancesCold.promotes cold before item after calls new raised split passed
        marked goes) evictable =
        let same : old.cold ≡ before ++ item ∷ after =
        sym (RaisesMarks-none old.mark_cut rules.may_count none old.cold cold raised) ∙ split in
        let unmarked = (all-middle (IsEvictable rules) before item after
        (subst AreEvictable same evictable)).0 in
        absurd (omega (arith, marked, unmarked))
    first_leaves old _ _ (AdvancesCold.evicts cold before item after calls new raised split passed
        unmarked unpinned evicts) evictable =
        let same : old.cold ≡ before ++ item ∷ after =
        sym (RaisesMarks-none old.mark_cut rules.may_count none old.cold cold raised) ∙ split in
        let empty : before ≡ [] = none_passed before passed
        (all-left (IsEvictable rules) before (item ∷ after) (subst AreEvictable same evictable)) in
        let rings = victim_rings (record old { cold = restarted_behind before after }) item calls
        new evicts in
        inr (record {
          item = item;
          rest = after;
          was = same ∙ ap (λ xs. xs ++ item ∷ after) empty;
          hot = rings.0;
          cold = rings.1 ∙ ap (λ xs. after ++ xs) empty ∙ append-nil after;
          ghosts = λ hash ghosts items. victim_ghosts (λ ghost. ghost ≢ hash)
              (record old { cold = restarted_behind before after }) item calls new evicts ghosts
              (all-middle (λ other. rules.hash other.key ≢ hash) before item after
              (subst (AllByRecursion (λ other. rules.hash other.key ≢ hash)) same items));
        })
    first_leaves old _ _ (AdvancesCold.passes_all cold _ calls new raised passed advances) evictable
        =
        let same : old.cold ≡ cold =
        sym (RaisesMarks-none old.mark_cut rules.may_count none old.cold cold raised) in
        inl (same ∙ none_passed cold passed (subst AreEvictable same evictable))

    -- one that answers no finds no item
    none_leaves : (old : CacheState K V) (calls : List (HookCall K V)) (new : CacheState K V)
        → AdvancesCold rules old false calls new → AreEvictable old.cold → old.cold ≡ []
    none_leaves old _ _ (AdvancesCold.passes_all cold _ calls new raised passed advances) evictable
        =
        let same : old.cold ≡ cold =
        sym (RaisesMarks-none old.mark_cut rules.may_count none old.cold cold raised) in
        same ∙ none_passed cold passed (subst AreEvictable same evictable)

    -- the first item left, and then a front of what stood behind it
    one_more : (need : ℕ) (old mid new : CacheState K V) → old.capacity < total_weight old + need
        → mid.capacity ≡ old.capacity → TakesFirst old mid → TakesFront need mid new
        → TakesFront need old new
    one_more need old mid new above same_capacity takes behind = record {
      front = takes.item ∷ behind.front;
      rest = behind.rest;
      is_shortest = record {
        parts = parts;
        makes_room = omega (arith, behind.is_shortest.makes_room, same_hot, same_capacity);
        shortest = shortest;
      };
      hot = behind.hot ∙ takes.hot;
      cold = behind.cold;
      ghosts = λ hash ghosts items. behind.ghosts hash (takes.ghosts hash ghosts items)
          (subst (AllByRecursion (λ other. rules.hash other.key ≢ hash)) (sym takes.cold)
          (subst (AllByRecursion (λ other. rules.hash other.key ≢ hash)) takes.was items).1);
    }
      where
        same_hot : hot_weight mid ≡ hot_weight old
        same_hot = ap (λ items. weight_of items) takes.hot

        parts : old.cold ≡ takes.item ∷ behind.front ++ behind.rest
        parts = takes.was ∙ ap (λ items. takes.item ∷ items)
            (sym takes.cold ∙ behind.is_shortest.parts)

        shortest : (left : List (Item K V)) (item : Item K V) (more : List (Item K V))
            → takes.item ∷ behind.front ≡ left ++ item ∷ more
            → old.capacity < total_weight (record old { cold = item ∷ more ++ behind.rest }) + need
        shortest [] item more same =
            omega (
              arith,
              above,
              ap (λ items. weight_of items)
                  (parts ∙ ap (λ items. items ++ behind.rest) same),
            )
        shortest (x ∷ left) item more same =
            omega (
              arith,
              behind.is_shortest.shortest left item more (ap behind_first same),
              same_hot,
              same_capacity,
            )

    -- where what is needed fits beside the hot ring, room is made by the shortest front
    pub front_leaves : (need : ℕ) (old : CacheState K V) (calls : List (HookCall K V))
        (new : CacheState K V) → EvictsToCapacity rules need old calls new → AreEvictable old.cold
        → hot_weight old + need ≤ old.capacity → TakesFront need old new
    front_leaves need _ _ _ (EvictsToCapacity.has_room old has_room) evictable fits = record {
      front = [];
      rest = old.cold;
      is_shortest = record {
        parts = refl;
        makes_room = has_room;
        shortest = λ left item more same. absurd (not_empty left item more same);
      };
      hot = refl;
      cold = refl;
      ghosts = λ hash ghosts items. ghosts;
    }
    front_leaves need _ _ _ (EvictsToCapacity.gives_up old new calls above advances) evictable fits
        =
        absurd (omega (
          arith,
          above,
          fits,
          ap (λ items. weight_of items) (none_leaves old calls new advances evictable),
        ))
    front_leaves need _ _ _ (EvictsToCapacity.goes_on old mid new first others above advances goes)
        evictable fits =
        let same_capacity : mid.capacity ≡ old.capacity =
        (AdvancesCold-beside rules old mid true first advances).capacity in
        elim (first_leaves old first mid advances evictable) [
          | inl empty ↦
              absurd (omega (arith, above, fits, ap (λ items. weight_of items) empty))
          | inr takes ↦ one_more need old mid new above same_capacity takes
              (front_leaves need mid others new goes
              (subst AreEvictable (sym takes.cold) (subst AreEvictable takes.was evictable).1)
              (omega (arith, fits, ap (λ items. weight_of items) takes.hot, same_capacity)))
        ]
