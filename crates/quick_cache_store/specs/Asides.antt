-- What stands beside slots, as one list. No public clause cites this module.
use Rattle.std.specs.Prelude.{◌≡◌, ℕ, ◌-◌, min, List, [], ◌∷◌, length, vec_len, vec_capacity}
use Rattle.quick_cache_store.specs.declared.slots.aside.Aside.{Aside}
use Rattle.quick_cache_store.specs.declared.slots.asides.Asides.{Asides}
use Rattle.quick_cache_store.specs.declared.slots.beside.Beside.{Beside}
use Rattle.quick_cache_store.specs.declared.slots.beside.BesideRef.{BesideRef}

-- the list without marks and that of the marks, as one
abbrev pub besides : List Aside → List ℕ → List Beside
besides [] marks = []
besides (aside ∷ asides) [] = []
besides (aside ∷ asides) (mark ∷ marks) =
    record { aside = aside; mark = mark } ∷ besides asides marks

module _ {A : Type 0} where
  -- what stands beside each slot
  abbrev pub besides_of : Asides A → List Beside
  besides_of a = besides a.asides.items a.marks.items

  -- beside how many more slots something can stand with no allocation
  abbrev pub room_of : Asides A → ℕ
  room_of a =
      min (vec_capacity a.asides - vec_len a.asides) (vec_capacity a.marks - vec_len a.marks)

  -- the two lists are as long
  abbrev pub AreInStep : Asides A → Type 0
  AreInStep a = length a.asides.items ≡ length a.marks.items

-- what is seen
abbrev pub seen : BesideRef → Beside
seen b = record { aside = b.aside.now; mark = b.mark.now }
