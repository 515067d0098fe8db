-- How the logic calls the type of a cache.
use Rattle.std.specs.Prelude.{ℕ, Bool, List}
use Rattle.std.specs.Borrow.{RattleType}
use Rattle.std.specs.declared.alloc.Allocator.{Ghosts}
use Rattle.std.specs.declared.hash.Hasher as hasher
use Rattle.std.specs.declared.hash.BuildHasher as builder
use Rattle.quick_cache_unsync.specs.contracts.cache.Cache.{the_row}

module _ (K V We B L A H : RattleType) (equal : K.Denot → K.Denot → Bool)
    (writes : K.Denot → List (List ℕ)) (make : builder.Ghosts B.Denot H.Denot)
    (hashes : hasher.Ghosts H.Denot) (alloc : Ghosts A.Denot) where
  -- what its type parameters make of it
  abbrev pub row_of : RattleType
  row_of = the_row K V We B L A H (record {}) (record { eq = equal })
      (record { hash_input = writes }) make hashes alloc
