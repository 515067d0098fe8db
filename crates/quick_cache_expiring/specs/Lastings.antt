-- Values with their ends.
use Rattle.std.specs.Prelude.{◌≡◌, ℕ}
use Rattle.quick_cache_expiring.specs.declared.lasting.Lasting.{Lasting}

module _ {V : Type 0} where
  -- a value with this end
  abbrev pub lasting_of : V → (until : ℕ) → Lasting V
  lasting_of value until = record { value = value; until = until }

  -- a clone of the value, with the same end
  abbrev pub ClonesLasting : (V → V → Type 0) → Lasting V → Lasting V → Type 0
  ClonesLasting is_clone old new = is_clone old.value new.value × (new.until ≡ old.until)
