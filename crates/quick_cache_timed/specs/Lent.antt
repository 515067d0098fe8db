-- How the logic calls the type of a cache with a clock.
use Rattle.std.specs.Borrow.{RattleType}
use Rattle.quick_cache_timed.specs.declared.timed.Timed.{Timed}
use Rattle.quick_cache_timed.specs.contracts.timed.Timed.{the_row}

-- what its type parameters make of it
abbrev pub row_of : (C T : RattleType) → RattleType
row_of C T = the_row C T

-- it with this cache
abbrev pub with_inner : {C T : Type 0} → Timed C T → C → Timed C T
with_inner timed inner = record timed { inner = inner }
