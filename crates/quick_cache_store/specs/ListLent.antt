-- What the lists end as, once a reference to a value of theirs has ended. This module alone names
-- the rows of their types.
use Rattle.std.specs.Prelude.{ℕ}
use Rattle.std.specs.Borrow.{Fml, RattleType, MutBor, Lends}
use Rattle.std.specs.declared.alloc.Allocator.{Ghosts}
use Rattle.quick_cache_store.specs.Lists.{Lists, with_change, with_value}
use Rattle.quick_cache_store.specs.contracts.lists.lists.Lists as lists

module _ (K V P T A : RattleType) (alloc : Ghosts A.Denot) where
  -- the item of that token ends with the last value written
  abbrev pub lends_value_at : MutBor (Lists K.Denot V.Denot P.Denot) → ℕ → MutBor V.Denot → Fml
  lends_value_at held token r =
      Lends (lists.the_row K V P T A alloc) V held r
      (λ value. with_change token (with_value value) held.now)
