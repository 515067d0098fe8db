-- What a call leaves beside its step.
use Rattle.std.specs.Prelude.{ℕ, ◌+◌, ◌≤◌, Bool}
use Rattle.quick_cache_shard.specs.Shard.{Shard, IsSoundShard, KeepsTerms, KeepsWork, WorksAsWrite}

module _ {K V We B L : Type 0} (equal : K → K → Bool) (taken : ℕ) (old new : Shard K V We B L) where
  -- It took room for so many entries at most. The shard was made with the same, and is sound.
  pub record StaysWithin : Type 0 where
    pub room : old.room ≤ new.room + taken
    pub same : KeepsTerms old new
    pub sound : IsSoundShard equal new

  -- the same of a call that did no work that is counted
  pub record IdlesWithin : Type 0 where
    pub room : old.room ≤ new.room + taken
    pub same : KeepsWork old new
    pub sound : IsSoundShard equal new

  -- the same of a call that works as a write, whatever is pinned
  pub record WritesWithin : Type 0 where
    pub room : old.room ≤ new.room + taken
    pub work : WorksAsWrite old new
    pub same : KeepsTerms old new
    pub sound : IsSoundShard equal new
