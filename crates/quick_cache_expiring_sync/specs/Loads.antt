-- Loads of entries that end, beside other threads.
use Rattle.std.specs.Prelude.{◌≡◌, ℕ, ◌⊎◌, Bool, true, false, Result, Ok, Err}
use Rattle.quick_cache_model.specs.declared.refusal.Refusal.{Refusal}
use Rattle.quick_cache_model.specs.declared.calls.entry.EntryAction.{EntryAction}
use Rattle.quick_cache_expiring.specs.declared.lasting.Lasting.{Lasting}
use Rattle.quick_cache_expiring.specs.Lives.{lives}
use Rattle.quick_cache_expiring_sync.specs.Looks.{FitsAt}

-- a value that is given fits with an end that is not reached at the moment, or was loaded now
abbrev pub GivesAt : {K V E : Type 0} → (fits : K → Lasting V → Type 0) → (stands_for : K → Bool)
    → (given : Result V E → Type 0) → (now : ℕ) → V → Type 0
GivesAt fits stands_for given now value = FitsAt fits stands_for now value ⊎ given (Ok value)

-- A value that lives stays, and a clone is told, or that there is no memory for one. One that is
-- over gives its place to a load.
abbrev pub ChoosesToLoad : {V : Type 0} → (is_clone : V → V → Type 0) → (now : ℕ) → Lasting V
    → EntryAction (Result V Refusal) → Type 0
ChoosesToLoad is_clone now old (EntryAction.Retain (Ok value)) =
    (lives old.until now ≡ true) × is_clone old.value value
ChoosesToLoad is_clone now old (EntryAction.Retain (Err refusal)) = refusal ≡ Refusal.Memory
ChoosesToLoad is_clone now old EntryAction.Remove = ⊥
ChoosesToLoad is_clone now old EntryAction.ReplaceWithGuard = lives old.until now ≡ false
