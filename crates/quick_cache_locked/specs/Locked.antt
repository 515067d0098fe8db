-- What a lock keeps true of the shard behind it.
use Rattle.std.specs.Prelude.{Bool}
use Rattle.quick_cache_model.specs.declared.terms.lifecycle.Lifecycle as lifecycle
use Rattle.quick_cache_shard.specs.Shard.{Shard, IsSoundShard}
use Rattle.quick_cache_locked.specs.Fitting.{AllFit}

module _ {K V We B L S : Type 0} (life : lifecycle.Ghosts L K V S) (equal : K → K → Bool) where
  -- its state is valid, and its values fit
  pub record IsKept (shard : Shard K V We B L) : Type 0 where
    pub sound : IsSoundShard equal shard
    pub fit : AllFit life.fits shard.state

  -- There was such a shard behind the lock, and this holds of it. Other threads use it, too, so
  -- nobody knows which one it was.
  pub record FromSome (P : Shard K V We B L → Type 0) : Type 0 where
    pub shard : Shard K V We B L
    pub kept : IsKept shard
    pub holds : P shard
