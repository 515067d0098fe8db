-- What a shard behind its lock knows of the history.
use Rattle.std.specs.Prelude.{ℕ, List}
use Rattle.quick_cache_history.specs.declared.entry.Entry.{Entry}

-- the number of the shard, and a beginning of the history in which all its calls are
pub record Known (K V : Type 0) : Type 0 where
  pub shard : ℕ
  pub log : List (Entry K V)
