-- The items of weight 0, which stand in no ring.
use Rattle.std.specs.Prelude.{ℕ, ◌==◌, Bool, List, filter}
use Rattle.std.specs.List.Sorted.{IsPermutation, IsNonDecreasingBy}
use Rattle.quick_cache_model.specs.CacheState.{CacheState}
use Rattle.quick_cache_shard.specs.Shard.{AreResidents}
use Rattle.qcrun_parts.specs.Kinds.{weight_of}

-- a pair whose value weighs nothing
abbrev pub is_weightless : ℕ × ℕ → Bool
is_weightless pair = weight_of pair.1 == 0

-- the pairs of all items of weight 0, each once, by key
pub record AreStill (state : CacheState ℕ ℕ) (still : List (ℕ × ℕ)) : Type 0 where
  pub items : List (ℕ × ℕ)
  pub all : AreResidents state items
  pub weightless : IsPermutation (filter is_weightless items) still
  pub by_key : IsNonDecreasingBy (λ pair. pair.0) still
