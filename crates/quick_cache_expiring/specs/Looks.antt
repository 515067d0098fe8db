-- What a look at an entry chooses.
use Rattle.std.specs.Prelude.{⊤}
use Rattle.quick_cache_model.specs.declared.calls.entry.EntryAction.{EntryAction}

module _ {T : Type 0} where
  -- where the entry stays, this is true of what is told
  abbrev pub IfRetain : EntryAction T → (T → Type 0) → Type 0
  IfRetain (EntryAction.Retain told) P = P told
  IfRetain _ P = ⊤

  -- the entry stays
  abbrev pub Stays : EntryAction T → Type 0
  Stays (EntryAction.Retain told) = ⊤
  Stays _ = ⊥
