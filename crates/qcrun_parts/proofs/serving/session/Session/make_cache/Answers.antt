use Rattle.std.proofs.Common.{ℕ, refl, ap, ◌∙◌}
use Rattle.quick_cache_shard.specs.Shard.{Shard}
use Rattle.qcrun_parts.specs.Sessions.{MakesCache, new_state}
use Rattle.qcrun_parts.proofs.serving.session.Session.make_cache.Goals as goal

-- the options have a fault
pub returns-in-Err : goal.returns-in-Err
returns-in-Err g c = record {
  makes = MakesCache.has_fault c.in-Err.error c.in-Err.ensures.error;
}

-- the cache stands
pub returns-in-Ok-made : goal.returns-in-Ok-made
returns-in-Ok-made g c = record {
  makes = MakesCache.makes c.in-Ok-made.cache (c.in-Ok.ensures.succeeds.0 refl)
      (ap (λ (made : Shard ℕ ℕ _ _ _). made.state) c.in-Ok-made.ensures.makes
      ∙ ap new_state c.in-Ok.ensures.options);
}

-- there was no memory
pub returns-in-Err-made : goal.returns-in-Err-made
returns-in-Err-made g c = record {
  makes = rw c.in-Err-made.ensures.refused
      (MakesCache.lacks_memory (c.in-Ok.ensures.succeeds.0 refl));
}
