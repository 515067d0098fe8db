-- The callback of an entry call: what it leaves of an item that it is shown, and what it chooses.
use Rattle.std.specs.Prelude.{◌≡◌, Bool}
use denote.Ref.{Bor, MutBor}
use denote.Param.Members.{Called, Mut}
use Rattle.quick_cache_model.specs.declared.calls.entry.EntryAction.{EntryAction}
use Rattle.quick_cache_model.specs.CacheState.{CacheState, Item, UpToOrder}
use Rattle.quick_cache_model.specs.Entries.{EntryChoice, Retain, Remove, ReplaceWithGuard, EntryOutcome, ActsOnEntry}
use Rattle.quick_cache_model.specs.Hooks.{Rules}

module _ {F K V R : Type 0}
    (calls : Mut F (Bor K × (MutBor V × Unit {0})) (R × (MutBor V × Unit {0}))) where
  -- a call at references to this pair may give the answer, and leave this callback and this value
  pub record Leaves (callback : F) (key : K) (value : V) (answer : R) (next : F) (left : V)
      : Type 0 where
    pub shown_key : Bor K
    pub shown : MutBor V
    pub shows : (shown_key.now ≡ key) × (shown.now ≡ value)
    pub left_by : MutBor V
    pub called : Called calls callback (shown_key, (shown, tt)) (answer, (left_by, tt)) next
    pub leaves : left_by.now ≡ left

-- what the callback chose, without what it told
abbrev pub choice_of : {T : Type 0} → EntryAction T → EntryChoice
choice_of (EntryAction.Retain told) = Retain
choice_of EntryAction.Remove = Remove
choice_of EntryAction.ReplaceWithGuard = ReplaceWithGuard

module _ {F K V T : Type 0}
    (calls : Mut F (Bor K × (MutBor V × Unit {0})) (EntryAction T × (MutBor V × Unit {0})))
    (rules : Rules K V) (stands_for : K → Bool) (callback : F) (old : CacheState K V) where
  -- The item under the query was shown, what the callback chose was done, and that came of it.
  pub record ActsAsChosen (action : EntryAction T) (outcome : EntryOutcome)
      (gives : Item K V → V → Type 0) (next : F) (new : CacheState K V) : Type 0 where
    pub item : Item K V
    pub left : V
    pub called : Leaves calls callback item.key item.value action next left
    pub step : UpToOrder
        (ActsOnEntry rules stands_for old item left (choice_of action) outcome) new
    pub given : gives item left
