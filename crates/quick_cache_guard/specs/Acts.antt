-- What a callback leaves of a value, and what an entry call on a shard gives.
use Rattle.std.specs.Prelude.{◌≡◌, ◌⊎◌, ⊤, Bool, true, Option, IsSomeAnd, Result, Ok, Err}
use denote.Ref.{Bor, MutBor}
use denote.Param.Members.{Once}
use Rattle.quick_cache_model.specs.declared.refusal.Refusal.{Refusal}
use Rattle.quick_cache_model.specs.declared.calls.entry.EntryAction.{EntryAction}
use Rattle.quick_cache_model.specs.declared.calls.entry.EntryOrPlaceholder.{EntryOrPlaceholder}

module _ {F K V T : Type 0}
    (calls : Once F (Bor K × (MutBor V × Unit {0})) (EntryAction T × (MutBor V × Unit {0}))) where
  -- the call of this callback, at references to this pair, may choose this and leave this value
  pub record LeavesOnce (callback : F) (key : K) (value : V) (action : EntryAction T) (left : V)
      : Type 0 where
    pub shown_key : Bor K
    pub shown : MutBor V
    pub shows : (shown_key.now ≡ key) × (shown.now ≡ value)
    pub left_by : MutBor V
    pub called : calls.post callback (shown_key, (shown, tt)) (action, (left_by, tt))
    pub leaves : left_by.now ≡ left

  -- so may that of the callback that is held
  abbrev pub LeavesHeld : Option F → K → V → EntryAction T → V → Type 0
  LeavesHeld held key value action left =
      IsSomeAnd held (λ callback. LeavesOnce callback key value action left)

  -- the callback may be called at references to this pair
  abbrev pub TakesOnce : F → K → V → Type 0
  TakesOnce callback key value = (shown_key : Bor K) (shown : MutBor V) → shown_key.now ≡ key
      → shown.now ≡ value → calls.pre callback (shown_key, (shown, tt))

  -- and so at each value that fits a key that the query stands for
  abbrev pub MayAct : (fits : K → V → Type 0) → (stands_for : K → Bool) → F → Type 0
  MayAct fits stands_for callback = (key : K) (value : V) → stands_for key ≡ true
      → fits key value → TakesOnce callback key value

-- What a call of a callback may leave decides what follows of it: `leaves` says of a pair that it is
-- shown, what it chooses and the value that it leaves, whether that may be.
module _ {K V T : Type 0} (leaves : K → V → EntryAction T → V → Type 0) where
  -- where a value fitted its key, so does what may be left of it
  abbrev pub LeavesFit : (fits : K → V → Type 0) → Type 0
  LeavesFit fits = (key : K) (value : V) (action : EntryAction T) (left : V)
      → leaves key value action left → fits key value → fits key left

  module _ (fits : K → V → Type 0) (stands_for : K → Bool) where
    -- A call of the callback may keep an item and tell this. The query stands for the key that it
    -- was shown, and the value that it was shown fits that key.
    pub record MayTell (told : T) : Type 0 where
      pub key : K
      pub value : V
      pub left : V
      pub called : leaves key value (EntryAction.Retain told) left
      pub stands : stands_for key ≡ true
      pub fits_key : fits key value

    -- A call of the callback saw an item of this key, chose this and left this value. The query
    -- stands for the key, and the value that the callback was shown fits it.
    pub record Chooses (action : EntryAction T) (key : K) (left : V) : Type 0 where
      pub value : V
      pub called : leaves key value action left
      pub stands : stands_for key ≡ true
      pub fits_key : fits key value

    -- an item was to give its place to a placeholder, and did not
    pub record KeepsReplaced : Type 0 where
      pub key : K
      pub left : V
      pub chosen : Chooses EntryAction.ReplaceWithGuard key left

    -- What comes of an entry call on a shard is what the callback chose, by its one call. Where a
    -- placeholder was met or made for a key that was absent it was not called.
    abbrev pub DoesAsChosen : {W : Type 0} → (uncalled : Type 0)
        → Result (EntryOrPlaceholder K V W T) Refusal → Type 0
    DoesAsChosen uncalled (Ok (EntryOrPlaceholder.Kept told)) = (key : K) × (left : V)
        × Chooses (EntryAction.Retain told) key left
    DoesAsChosen uncalled (Ok (EntryOrPlaceholder.Removed key value)) =
        Chooses EntryAction.Remove key value
    DoesAsChosen uncalled (Ok (EntryOrPlaceholder.Replaced placeholder value)) = (key : K)
        × Chooses EntryAction.ReplaceWithGuard key value
    DoesAsChosen uncalled (Ok (EntryOrPlaceholder.ExistingPlaceholder placeholder)) = uncalled
    DoesAsChosen uncalled (Ok (EntryOrPlaceholder.NewPlaceholder placeholder)) = uncalled
    DoesAsChosen uncalled (Err refusal) = uncalled ⊎ KeepsReplaced

module _ {K V W T : Type 0} where
  -- of a value that is given back this is true
  abbrev pub IfGone : Result (EntryOrPlaceholder K V W T) Refusal → (V → Type 0) → Type 0
  IfGone (Ok (EntryOrPlaceholder.Kept told)) P = ⊤
  IfGone (Ok (EntryOrPlaceholder.Removed key value)) P = P value
  IfGone (Ok (EntryOrPlaceholder.Replaced placeholder value)) P = P value
  IfGone (Ok (EntryOrPlaceholder.ExistingPlaceholder placeholder)) P = ⊤
  IfGone (Ok (EntryOrPlaceholder.NewPlaceholder placeholder)) P = ⊤
  IfGone (Err refusal) P = ⊤

  -- of what is told this is true
  abbrev pub IfKept : Result (EntryOrPlaceholder K V W T) Refusal → (T → Type 0) → Type 0
  IfKept (Ok (EntryOrPlaceholder.Kept told)) P = P told
  IfKept (Ok (EntryOrPlaceholder.Removed key value)) P = ⊤
  IfKept (Ok (EntryOrPlaceholder.Replaced placeholder value)) P = ⊤
  IfKept (Ok (EntryOrPlaceholder.ExistingPlaceholder placeholder)) P = ⊤
  IfKept (Ok (EntryOrPlaceholder.NewPlaceholder placeholder)) P = ⊤
  IfKept (Err refusal) P = ⊤

  -- where a placeholder is the answer, and no item gave its place to it, this is true
  abbrev pub IfAbsent : Result (EntryOrPlaceholder K V W T) Refusal → Type 0 → Type 0
  IfAbsent (Ok (EntryOrPlaceholder.Kept told)) P = ⊤
  IfAbsent (Ok (EntryOrPlaceholder.Removed key value)) P = ⊤
  IfAbsent (Ok (EntryOrPlaceholder.Replaced placeholder value)) P = ⊤
  IfAbsent (Ok (EntryOrPlaceholder.ExistingPlaceholder placeholder)) P = P
  IfAbsent (Ok (EntryOrPlaceholder.NewPlaceholder placeholder)) P = P
  IfAbsent (Err refusal) P = ⊤
