-- Through each call the tickets that were given and are gone stay so, and the next one never falls.
use Rattle.std.proofs.Common.{◌≡◌, ◌≢◌, ℕ, ◌<◌, ◌≤◌, Bool, if◌then◌else◌, List, ◌∷◌, ◌++◌, Option, refl, sym, ap, subst, arith}
use Rattle.std.specs.List.{AllByRecursion}
use Rattle.quick_cache_model.specs.declared.queue.Queue.{Queue}
use Rattle.quick_cache_model.specs.CacheState.{CacheState, Item, LoadingEntry, Place, with_items, entered, rewritten, SameButOrder}
use Rattle.quick_cache_model.specs.Hooks.{Rules, HookCall}
use Rattle.quick_cache_model.specs.Touches.{first_mark}
use Rattle.quick_cache_model.specs.Eviction.{EvictsToCapacity}
use Rattle.quick_cache_model.specs.Writes.{Strategy, new_item, queue_for, WritesAdmitted, TakesOutItem, RejectsTooHeavy, Writes}
use Rattle.quick_cache_model.specs.Placeholders.{with_placeholder, MakesPlaceholder, MeetsPlaceholder, MakesRoomFor, FillsPlaceholder}
use Rattle.quick_cache_model.specs.Placeholders.{GivesUpPlaceholder, HasNoTicket}
use Rattle.quick_cache_model.specs.Lookups.{looked_up, after_hit, LooksUp}
use Rattle.quick_cache_model.specs.Removal.{Removes, RemovesIf, weighed, reweighed}
use Rattle.quick_cache_model.specs.Entries.{EntryChoice, EntryOutcome, ActsOnEntry}
use Rattle.quick_cache_model.specs.Capacity.{resized, SetsCapacity}
use Rattle.quick_cache_model.proofs.EvictionKeeps.{EvictsToCapacity-beside}
use Rattle.quick_cache_model.proofs.EachElement.{all-without, all-push, all-permutation}
use Rattle.quick_cache_model.proofs.Valid.Places.{IsSameButItems, with_items-same, entered-same, rewritten-same}

module _ {K V : Type 0} where
  -- the next ticket did not fall, and none that was given and is gone came back
  pub record KeepsTickets (old new : CacheState K V) : Type 0 where
    pub grows : old.next_ticket ≤ new.next_ticket
    pub gone : (ticket : ℕ) → ticket < old.next_ticket → HasNoTicket ticket old
        → HasNoTicket ticket new

  -- where placeholders and next ticket are as they were
  pub kept-same : (old new : CacheState K V) → new.loading ≡ old.loading
      → new.next_ticket ≡ old.next_ticket → KeepsTickets old new
  kept-same old new loading next = record {
    grows = omega (arith, next);
    gone = λ ticket given none. subst
        (λ (l : List (LoadingEntry K)). AllByRecursion (λ entry. entry.ticket ≢ ticket) l)
        (sym loading) none;
  }

  -- one change after another
  pub kept-trans : (old mid new : CacheState K V) → KeepsTickets old mid → KeepsTickets mid new
      → KeepsTickets old new
  kept-trans old mid new a b = record {
    grows = omega (arith, a.grows, b.grows);
    gone = λ ticket given none. b.gone ticket (omega (arith, given, a.grows))
        (a.gone ticket given none);
  }

  -- where items alone changed
  pub kept-items : (old new : CacheState K V) → IsSameButItems old new → KeepsTickets old new
  kept-items old new same = kept-same old new (ap (λ (s : CacheState K V). s.loading) same)
      (ap (λ (s : CacheState K V). s.next_ticket) same)

  -- other items at a place
  kept-with : (place : Place) (items : List (Item K V)) (state : CacheState K V)
      → KeepsTickets state (with_items place items state)
  kept-with place items state = kept-items state _ (with_items-same place items state)

  -- an item that enters
  kept-entered : (item : Item K V) (state : CacheState K V)
      → KeepsTickets state (entered item state)
  kept-entered item state = kept-items state _ (entered-same item state)

  -- one that is written over another
  kept-rewritten : (place : Place) (before : List (Item K V)) (item : Item K V)
      (after : List (Item K V)) (state : CacheState K V)
      → KeepsTickets state (rewritten place before item after state)
  kept-rewritten place before item after state =
      kept-items state _ (rewritten-same place before item after state)

  -- a placeholder that goes
  kept-unloaded : (before : List (LoadingEntry K)) (entry : LoadingEntry K)
      (after : List (LoadingEntry K)) (state : CacheState K V)
      → state.loading ≡ before ++ entry ∷ after
      → KeepsTickets state (record state { loading = before ++ after })
  kept-unloaded before entry after state split = record {
    grows = omega arith;
    gone = λ ticket given none. all-without (λ e. e.ticket ≢ ticket) before entry after (subst
        (λ (l : List (LoadingEntry K)). AllByRecursion (λ e. e.ticket ≢ ticket) l) split none);
  }

  -- one that comes has the next ticket
  kept-loaded : (key : K) (queue : Queue) (state : CacheState K V)
      → KeepsTickets state (with_placeholder key queue state)
  kept-loaded key queue state = record {
    grows = omega arith;
    gone = λ ticket given none. all-push (λ (e : LoadingEntry K). e.ticket ≢ ticket) state.loading _
        none (λ is. omega (arith, given, is));
  }

  -- another order of what has none
  pub SameButOrder-tickets : (old new : CacheState K V) → SameButOrder old new
      → KeepsTickets old new
  SameButOrder-tickets old new order = record {
    grows = omega (arith, ap (λ (s : CacheState K V). s.next_ticket) order.same);
    gone = λ ticket given none. all-permutation (λ (e : LoadingEntry K). e.ticket ≢ ticket)
        old.loading new.loading order.loading none;
  }

  -- a look-up
  pub LooksUp-tickets : {X : Type 0} (stands_for : K → Bool) (of : Item K V → X)
      (old new : CacheState K V) (shown : Option X) → LooksUp stands_for old of shown new
      → KeepsTickets old new
  LooksUp-tickets stands_for of old _ _ (LooksUp.hit place before item after there) =
      kept-trans old (after_hit old) _ (kept-same old (after_hit old) refl refl)
      (kept-with place _ (after_hit old))
  LooksUp-tickets stands_for of old _ _ (LooksUp.miss none) = kept-same old _ refl refl

  -- a removal
  pub Removes-tickets : (stands_for : K → Bool) (hash : ℕ) (old new : CacheState K V)
      (answer : Option (K × V)) → Removes stands_for old hash answer new → KeepsTickets old new
  Removes-tickets stands_for hash old _ _ (Removes.of_item place before item after there) =
      kept-with place _ old
  Removes-tickets stands_for hash old _ _ (Removes.of_loading before entry after there) =
      kept-unloaded before entry after old there.split
  Removes-tickets stands_for hash old _ _ (Removes.of_ghost before after there) =
      kept-same old _ refl refl
  Removes-tickets stands_for hash old _ _ (Removes.of_nothing nothing) = kept-same old _ refl refl

  -- a removal by a test
  pub RemovesIf-tickets : (stands_for : K → Bool) (passes : V → Bool) (old new : CacheState K V)
      (answer : Option (K × V)) → RemovesIf stands_for old passes answer new → KeepsTickets old new
  RemovesIf-tickets stands_for passes old _ _
      (RemovesIf.goes place before item after there passed) = kept-with place _ old
  RemovesIf-tickets stands_for passes old _ _
      (RemovesIf.stays place before item after there failed) = kept-same old _ refl refl
  RemovesIf-tickets stands_for passes old _ _ (RemovesIf.absent none) = kept-same old _ refl refl

  -- a placeholder that is made
  pub MakesPlaceholder-tickets : (stands_for : K → Bool) (hash : ℕ) (key : K)
      (old new : CacheState K V) → MakesPlaceholder stands_for old hash key new
      → KeepsTickets old new
  MakesPlaceholder-tickets stands_for hash key old _ (MakesPlaceholder.on_nothing stands nothing) =
      let same = kept-loaded key Queue.Cold old in record { grows = same.grows; gone = same.gone }
  MakesPlaceholder-tickets stands_for hash key old _
      (MakesPlaceholder.on_ghost before after stands there) =
      let same = kept-loaded key Queue.Hot old in record { grows = same.grows; gone = same.gone }

  -- one that is met
  pub MeetsPlaceholder-tickets : (stands_for : K → Bool) (ticket : ℕ) (old new : CacheState K V)
      → MeetsPlaceholder stands_for old ticket new → KeepsTickets old new
  MeetsPlaceholder-tickets stands_for _ old _
      (MeetsPlaceholder.is_there before entry after there) = kept-same old _ refl refl

  -- one that is given up
  pub GivesUpPlaceholder-tickets : (ticket : ℕ) (old new : CacheState K V)
      → GivesUpPlaceholder ticket old new → KeepsTickets old new
  GivesUpPlaceholder-tickets ticket old _
      (GivesUpPlaceholder.was_there before entry after there) =
      kept-unloaded before entry after old there.split
  GivesUpPlaceholder-tickets ticket old _ (GivesUpPlaceholder.was_gone none) =
      kept-same old _ refl refl

  module _ (rules : Rules K V) where
    -- eviction
    kept-evicted : (need : ℕ) (old new : CacheState K V) (calls : List (HookCall K V))
        → EvictsToCapacity rules need old calls new → KeepsTickets old new
    kept-evicted need old new calls evicts =
        let kept = EvictsToCapacity-beside rules need old new calls evicts in
        kept-same old new kept.loading kept.next_ticket

    -- an item that is weighed anew
    pub reweighed-tickets : (place : Place) (before : List (Item K V)) (item : Item K V)
        (after : List (Item K V)) (left : V) (old : CacheState K V)
        → KeepsTickets old (reweighed rules place before item after left old)
    reweighed-tickets place before item after left old =
        kept-rewritten place before (weighed rules item left) after old

    -- the entry call
    pub ActsOnEntry-tickets : (stands_for : K → Bool) (old : CacheState K V) (item : Item K V)
        (left : V) (choice : EntryChoice) (outcome : EntryOutcome) (new : CacheState K V)
        → ActsOnEntry rules stands_for old item left choice outcome new → KeepsTickets old new
    ActsOnEntry-tickets stands_for old item left _ _ _ (ActsOnEntry.kept place before after there) =
        let same = reweighed-tickets place before (looked_up old.mark_cut item) after left old in
        record { grows = same.grows; gone = same.gone }
    ActsOnEntry-tickets stands_for old item left _ _ _
        (ActsOnEntry.removed place before after now front back there written) =
        kept-trans old _ _ (reweighed-tickets place before item after left old) (kept-with now _ _)
    ActsOnEntry-tickets stands_for old item left _ _ _
        (ActsOnEntry.replaced place before after now front back there written provided) =
        kept-trans old _ _ (reweighed-tickets place before item after left old)
        (kept-trans _ _ _ (kept-with now _ _) (kept-loaded item.key item.queue _))
    ActsOnEntry-tickets stands_for old item left _ _ _
        (ActsOnEntry.refused place before after refusal there may) =
        reweighed-tickets place before item after left old

    -- a placeholder that is filled
    pub FillsPlaceholder-tickets : (ticket : ℕ) (marked : Bool) (old : CacheState K V) (value : V)
        (calls : List (HookCall K V)) (answer : Option V) (new : CacheState K V)
        → FillsPlaceholder ticket old rules marked value calls answer new → KeepsTickets old new
    FillsPlaceholder-tickets ticket marked old value _ _ _ (FillsPlaceholder.was_gone none) =
        kept-same old _ refl refl
    FillsPlaceholder-tickets ticket marked old value _ _ _
        (FillsPlaceholder.fills before entry after left first rest new there checks makes) =
        room _ _ rest new
        (kept-trans old (record old { loading = before ++ after }) _
        (kept-unloaded before entry after old there.split)
        (kept-entered (new_item rules entry.key left
        (queue_for rules old entry.key left entry.queue)
        (if marked then first_mark old.mark_cut else 0))
        (record old { loading = before ++ after })))
        makes
      where
        room : (weight : ℕ) (mid : CacheState K V) (calls : List (HookCall K V))
            (last : CacheState K V) → KeepsTickets old mid
            → MakesRoomFor ticket old rules weight mid calls last → KeepsTickets old last
        room weight mid _ _ same (MakesRoomFor.takes_none none) = same
        room weight mid _ _ same (MakesRoomFor.takes_some calls last some evicts) =
            kept-trans old mid last same (kept-evicted 0 mid last calls evicts)
    FillsPlaceholder-tickets ticket marked old value _ _ _
        (FillsPlaceholder.too_heavy before entry after left first there checks) =
        kept-unloaded before entry after old there.split

    -- a new capacity
    pub SetsCapacity-tickets : (capacity : ℕ) (old new : CacheState K V)
        (calls : List (HookCall K V)) → SetsCapacity rules capacity old calls new
        → KeepsTickets old new
    SetsCapacity-tickets capacity old _ calls (SetsCapacity.sets mid _ evicts) =
        let same = EvictsToCapacity-beside rules 0 (resized rules capacity old) mid calls evicts in
        kept-same old _ same.loading same.next_ticket

    module _ (equal_to : K → Bool) (key : K) where
      -- the write of an admitted pair
      WritesAdmitted-tickets : (strategy : Strategy) (old : CacheState K V) (value : V)
          (calls : List (HookCall K V)) (answer : Option (K × V)) (new : CacheState K V)
          → WritesAdmitted rules equal_to key strategy old value calls answer new
          → KeepsTickets old new
      WritesAdmitted-tickets strategy old value _ _ _
          (WritesAdmitted.inserts_new mid calls inserts nothing evicts) =
          kept-trans old mid _ (kept-evicted (rules.weight key value) old mid calls evicts)
          (kept-entered (new_item rules key value (queue_for rules old key value Queue.Cold) 0) mid)
      WritesAdmitted-tickets strategy old value _ _ _
          (WritesAdmitted.overwrites place before item touched after calls new there takes evicts) =
          kept-trans old _ new (kept-rewritten place before _ after old)
          (kept-evicted 0 _ new calls evicts)
      WritesAdmitted-tickets strategy old value _ _ _
          (WritesAdmitted.inserts_over_ghost before after calls new inserts there evicts) =
          kept-trans old _ new
          (kept-trans old (record old { ghosts = before ++ after }) _ (kept-same old _ refl refl)
          (kept-entered (new_item rules key value Queue.Hot 0)
          (record old { ghosts = before ++ after })))
          (kept-evicted 0 _ new calls evicts)
      WritesAdmitted-tickets strategy old value _ _ _
          (WritesAdmitted.inserts_over_loading before entry after calls new inserts there evicts) =
          kept-trans old _ new
          (kept-trans old (record old { loading = before ++ after }) _
          (kept-unloaded before entry after old there.split)
          (kept-entered (new_item rules key value entry.queue (first_mark old.mark_cut))
          (record old { loading = before ++ after })))
          (kept-evicted 0 _ new calls evicts)
      WritesAdmitted-tickets strategy old value _ _ _ (WritesAdmitted.gives_back replaces none) =
          kept-same old _ refl refl

      TakesOutItem-tickets : (old : CacheState K V) (calls : List (HookCall K V))
          (new : CacheState K V) → TakesOutItem equal_to old calls new
          → KeepsTickets old new
      TakesOutItem-tickets old _ _ (TakesOutItem.was_there place before item after there) =
          kept-with place _ old
      TakesOutItem-tickets old _ _ (TakesOutItem.was_absent none) = kept-same old _ refl refl

      -- a write
      pub Writes-tickets : (strategy : Strategy) (old : CacheState K V) (value : V)
          (calls : List (HookCall K V)) (answer : Option (K × V)) (new : CacheState K V)
          → Writes rules equal_to key strategy old value calls answer new → KeepsTickets old new
      Writes-tickets strategy old value _ _ _
          (Writes.admitted first rest left answer new checks writes) =
          WritesAdmitted-tickets strategy old left rest answer new writes
      Writes-tickets strategy old value _ _ _
          (Writes.too_heavy first rest left answer new checks rejects) =
          rejected rest answer new rejects
        where
          rejected : (calls : List (HookCall K V)) (answer : Option (K × V)) (last : CacheState K V)
              → RejectsTooHeavy equal_to key strategy old left calls answer last
              → KeepsTickets old last
          rejected _ _ _ (RejectsTooHeavy.reports calls last inserts takes) =
              TakesOutItem-tickets old calls last takes
          rejected _ _ _ (RejectsTooHeavy.gives_back calls last replaces takes) =
              TakesOutItem-tickets old calls last takes
