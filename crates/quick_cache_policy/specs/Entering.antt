-- What an entry call answers: what its callback left and chose, and what came of that.
use Rattle.std.specs.Prelude.{◌≡◌, ◌⊎◌, ◌==◌, ℕ, Bool, true, List, ◌∷◌, ◌++◌, Result, Ok, Err}
use denote.Ref.{Bor, MutBor}
use denote.Param.Members.{Mut}
use Rattle.quick_cache_model.specs.declared.queue.Queue.{Queue}
use Rattle.quick_cache_model.specs.declared.refusal.Refusal.{Refusal}
pub use Rattle.quick_cache_model.specs.Callbacks.{Leaves, choice_of, ActsAsChosen}
use Rattle.quick_cache_model.specs.CacheState.{CacheState, Item, Place, UpToOrder, with_items}
use Rattle.quick_cache_model.specs.Entries.{EntryChoice, Remove, ReplaceWithGuard, EntryOutcome, Kept, Removed, Replaced, Refused}
use Rattle.quick_cache_model.specs.Entries.{ActsOnEntry}
use Rattle.quick_cache_model.specs.Finding.{IsItemAt}
use Rattle.quick_cache_model.specs.Hooks.{Rules}
use Rattle.quick_cache_model.specs.Lookups.{looked_up, after_hit}
use Rattle.quick_cache_model.specs.Placeholders.{MeetsPlaceholder}
use Rattle.quick_cache_model.specs.Removal.{pair_of}
use Rattle.quick_cache_store.specs.Lists.{IsItemOf, with_value, without_entry}
pub use Rattle.quick_cache_store.specs.Shown.{MayBeShown}
use Rattle.quick_cache_policy.specs.declared.contents.Contents.{Contents}
use Rattle.quick_cache_model.specs.declared.calls.entry.EntryAction.{EntryAction}
use Rattle.quick_cache_model.specs.declared.calls.entry.EntryOrPlaceholder.{EntryOrPlaceholder}
use Rattle.quick_cache_policy.specs.Loading.{IsMade, MakesNone}

module _ {F K V R : Type 0}
    (calls : Mut F (Bor K × (MutBor V × Unit {0})) (R × (MutBor V × Unit {0}))) where
  -- the callback, as it is now, may be called at the item under the query
  abbrev pub MayBeShownUnder : F → (stands_for : K → Bool) → CacheState K V → Type 0
  MayBeShownUnder callback stands_for state = (place : Place) (before : List (Item K V))
      (item : Item K V) (after : List (Item K V)) → IsItemAt stands_for state place before item after
      → MayBeShown calls callback item.key item.value

  -- the item under the query was shown, and has the value that was left
  pub record ShowsAt (stands_for : K → Bool) (callback : F) (old : CacheState K V) (answer : R)
      (next : F) (new : CacheState K V) : Type 0 where
    pub item : Item K V
    pub left : V
    pub called : Leaves calls callback item.key item.value answer next left
    pub place : Place
    pub before : List (Item K V)
    pub after : List (Item K V)
    pub at : IsItemAt stands_for old place before item after
    pub rest : new ≡ with_items place (before ++ with_value left item ∷ after) old

-- a hit was counted at the item under the query, which is marked and read
pub record CountsHit {K V : Type 0} (stands_for : K → Bool) (old new : CacheState K V)
    : Type 0 where
  pub place : Place
  pub before : List (Item K V)
  pub item : Item K V
  pub after : List (Item K V)
  pub at : IsItemAt stands_for old place before item after
  pub rest : new ≡ with_items place (before ++ looked_up old.mark_cut item ∷ after) (after_hit old)

-- the query's keys have that hash
abbrev pub IsHashed : {K : Type 0} → (stands_for : K → Bool) → (hashed : K → ℕ) → (hash : ℕ)
    → Type 0
IsHashed {K} stands_for hashed hash = (key : K) → stands_for key ≡ true → hashed key ≡ hash

module _ {K V : Type 0} (rules : Rules K V) (stands_for : K → Bool) (old : CacheState K V) where
  -- the choice was acted on, at the item under the query, whose value was written before
  pub record ActsOnWritten (choice : EntryChoice) (outcome : EntryOutcome) (new : CacheState K V)
      : Type 0 where
    pub item : Item K V
    pub step : UpToOrder (ActsOnEntry rules stands_for old item item.value choice outcome) new

  -- the item under the query, whose value was written before, was taken out
  pub record RemovesWritten (pair : K × V) (new : CacheState K V) : Type 0 where
    pub item : Item K V
    pub gives : pair ≡ pair_of item
    pub step : UpToOrder (ActsOnEntry rules stands_for old item item.value Remove Removed) new

-- The item of this token goes, and gives its pair and its queue. Its ring begins behind it where
-- its value weighs nothing.
pub record TakesWeighed {K V P W A T : Type 0} (weight_of : K → V → ℕ) (old : Contents K V W A T P)
    (token : ℕ) (gone : (K × V) × Queue) (new : Contents K V W A T P) : Type 0 where
  pub item : Item K V
  pub stood : IsItemOf old.lists token item
  pub pair : gone.0 ≡ pair_of item
  pub queue : gone.1 ≡ item.queue
  pub rest : new ≡ record old {
    lists = without_entry (weight_of item.key item.value == 0) token old.lists;
  }

-- a placeholder that was made has this hash
abbrev pub IsNewUnder : {K V W T : Type 0} (hash_of : W → ℕ) (hash : ℕ)
    → Result (EntryOrPlaceholder K V W T) Refusal → Type 0
IsNewUnder hash_of hash (Ok (EntryOrPlaceholder.Kept told)) = Unit {0}
IsNewUnder hash_of hash (Ok (EntryOrPlaceholder.Removed key value)) = Unit {0}
IsNewUnder hash_of hash (Ok (EntryOrPlaceholder.Replaced placeholder value)) =
    hash_of placeholder ≡ hash
IsNewUnder hash_of hash (Ok (EntryOrPlaceholder.ExistingPlaceholder placeholder)) = Unit {0}
IsNewUnder hash_of hash (Ok (EntryOrPlaceholder.NewPlaceholder placeholder)) =
    hash_of placeholder ≡ hash
IsNewUnder hash_of hash (Err refusal) = Unit {0}

module _ {F K V T : Type 0}
    (calls : Mut F (Bor K × (MutBor V × Unit {0})) (EntryAction T × (MutBor V × Unit {0})))
    (rules : Rules K V) (stands_for : K → Bool) (callback : F) (old : CacheState K V) where
  module _ {W : Type 0} (own_ticket : W → ℕ) where
    -- what is answered where an item was found
    abbrev pub AnswersItem : Result (EntryOrPlaceholder K V W T) Refusal → F → CacheState K V
        → Type 0
    AnswersItem (Ok (EntryOrPlaceholder.Kept told)) next new =
        ActsAsChosen calls rules stands_for callback old (EntryAction.Retain told) Kept
        (λ item left. Unit {0}) next new
    AnswersItem (Ok (EntryOrPlaceholder.Removed key value)) next new =
        ActsAsChosen calls rules stands_for callback old EntryAction.Remove Removed
        (λ item left. (key ≡ item.key) × (value ≡ left)) next new
    AnswersItem (Ok (EntryOrPlaceholder.Replaced placeholder value)) next new =
        ActsAsChosen calls rules stands_for callback old EntryAction.ReplaceWithGuard Replaced
        (λ item left. (own_ticket placeholder ≡ old.next_ticket) × (value ≡ left)) next new
    AnswersItem (Ok (EntryOrPlaceholder.ExistingPlaceholder placeholder)) next new = ⊥
    AnswersItem (Ok (EntryOrPlaceholder.NewPlaceholder placeholder)) next new = ⊥
    AnswersItem (Err refusal) next new =
        ActsAsChosen calls rules stands_for callback old EntryAction.ReplaceWithGuard
        (Refused refusal) (λ item left. Unit {0}) next new

    module _ (gives : K → Type 0) (hash : ℕ) where
      -- What is answered: what the callback chose where an item is found, and else what a look-up
      -- that makes a placeholder answers, with no call of the callback.
      abbrev pub AnswersEntry : Result (EntryOrPlaceholder K V W T) Refusal → F → CacheState K V
          → Type 0
      AnswersEntry (Ok (EntryOrPlaceholder.Kept told)) next new =
          AnswersItem (Ok (EntryOrPlaceholder.Kept told)) next new
      AnswersEntry (Ok (EntryOrPlaceholder.Removed key value)) next new =
          AnswersItem (Ok (EntryOrPlaceholder.Removed key value)) next new
      AnswersEntry (Ok (EntryOrPlaceholder.Replaced placeholder value)) next new =
          AnswersItem (Ok (EntryOrPlaceholder.Replaced placeholder value)) next new
      AnswersEntry (Ok (EntryOrPlaceholder.ExistingPlaceholder placeholder)) next new =
          (next ≡ callback)
          × UpToOrder (MeetsPlaceholder stands_for old (own_ticket placeholder)) new
      AnswersEntry (Ok (EntryOrPlaceholder.NewPlaceholder placeholder)) next new =
          (next ≡ callback) × IsMade stands_for gives hash old (own_ticket placeholder) new
      AnswersEntry (Err refusal) next new =
          AnswersItem (Err refusal) next new
          ⊎ ((next ≡ callback) × MakesNone stands_for gives hash old refusal new)

module _ {K V : Type 0} (rules : Rules K V) (stands_for : K → Bool) (old : CacheState K V)
    {W : Type 0} (own_ticket : W → ℕ) where
  -- an item, whose value was written before, gave its slot to a placeholder, or was to and did not
  abbrev pub ReplacesItem : Result (W × V) Refusal → CacheState K V → Type 0
  ReplacesItem (Ok given) new =
      (item : Item K V)
      × UpToOrder (ActsOnEntry rules stands_for old item item.value ReplaceWithGuard Replaced) new
      × (own_ticket given.0 ≡ old.next_ticket)
      × (given.1 ≡ item.value)
  ReplacesItem (Err refusal) new =
      (item : Item K V)
      × UpToOrder
      (ActsOnEntry rules stands_for old item item.value ReplaceWithGuard (Refused refusal)) new
