-- Placeholders by a test of their own: keys that are being loaded, found by what stands for them.
use Rattle.std.specs.Prelude.{◌≡◌, ℕ, Bool, true, false, List, ◌++◌}
use Rattle.std.specs.List.{AllByRecursion}
use Rattle.quick_cache_store.specs.declared.slots.entry.Entry.{Entry}
use Rattle.quick_cache_store.specs.declared.slots.entry.Slot.{Slot}
use Rattle.quick_cache_store.specs.Lists.{HeldLoading, Lists, StandsIn}

module _ {K V P : Type 0} (means : P → Bool) where
  -- no placeholder is meant
  abbrev pub HasNoPlaceholder : Lists K V P → Type 0
  HasNoPlaceholder lists =
      AllByRecursion (λ (waiting : HeldLoading K P). means waiting.placeholder ≡ false)
      lists.loading

  -- the placeholder of that token is meant
  pub record FindsPlaceholder (lists : Lists K V P) (token : ℕ) : Type 0 where
    pub waiting : HeldLoading K P
    pub named : waiting.token ≡ token
    pub stands : StandsIn lists.loading waiting
    pub passes : means waiting.placeholder ≡ true

-- ---- in the slots: no public clause cites what follows

module _ {K V P T : Type 0} (means : P → Bool) where
  -- the entry is a placeholder that is meant
  abbrev pub entry_is_meant : Entry K V P T → Bool
  entry_is_meant (Entry.Item item) = false
  entry_is_meant (Entry.Loading awaited) = means awaited.placeholder
  entry_is_meant Entry.Ghost = false

  -- the slot has it
  abbrev pub is_meant : Slot K V P T → Bool
  is_meant slot = entry_is_meant slot.entry

  -- a walk over the slots, with these left, that passed none that is meant
  pub record PassesNoneMeant (all left : List (ℕ × Slot K V P T)) : Type 0 where
    pub passed : List (ℕ × Slot K V P T)
    pub split : all ≡ passed ++ left
    pub none : AllByRecursion (λ entry. is_meant entry.1 ≡ false) passed
