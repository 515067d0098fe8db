-- How the logic calls the type of a cache whose entries end.
use Rattle.std.specs.Prelude.{ℕ, Bool, List}
use Rattle.std.specs.Borrow.{RattleType}
use Rattle.std.specs.declared.alloc.Allocator.{Ghosts}
use Rattle.std.specs.declared.hash.Hasher as hasher
use Rattle.std.specs.declared.hash.BuildHasher as builder
use Rattle.quick_cache_expiring.specs.contracts.alone.expiring.Expiring.{the_row}

module _ (K V We B L A H : RattleType) (equal : K.Denot → K.Denot → Bool)
    (hash_input : K.Denot → List (List ℕ)) (make : builder.Ghosts B.Denot H.Denot)
    (hasher : hasher.Ghosts H.Denot) (alloc : Ghosts A.Denot) where
  abbrev pub row_of : RattleType
  row_of = the_row K V We B L A H (record {}) (record { eq = equal })
      (record { hash_input = hash_input }) make hasher alloc
