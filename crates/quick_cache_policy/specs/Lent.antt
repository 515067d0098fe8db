-- What contents end as, once a reference to a value has ended. This module alone names the row of
-- their type parameters.
use Rattle.std.specs.Prelude.{ℕ}
use Rattle.std.specs.Borrow.{Fml, RattleType, MutBor, Lends}
use Rattle.std.specs.declared.alloc.Allocator.{Ghosts}
use Rattle.quick_cache_store.specs.Lists.{with_change, with_value}
use Rattle.quick_cache_policy.specs.declared.contents.Contents.{Contents}
use Rattle.quick_cache_policy.specs.contracts.contents.Contents.{the_row}

module _ (K V W A T P : RattleType) (alloc : Ghosts A.Denot) where
  -- the item of that token ends with the last value written
  abbrev pub lends_value_at : MutBor (Contents K.Denot V.Denot W.Denot A.Denot T.Denot P.Denot)
      → ℕ → MutBor V.Denot → Fml
  lends_value_at contents token r = Lends (the_row K V W A T P alloc) V contents r
      (λ value. record contents.now {
        lists = with_change token (with_value value) contents.now.lists;
      })
