use Rattle.std.proofs.Common.{Ok, ap, ◌∙◌}
use Rattle.quick_cache_locked.proofs.FitLoads.{AllFit-begins, found-fits}
use Rattle.quick_cache_locked.proofs.locked.LockedShard.begin_load.Goals.{in-Ok-Ok, in-Ok-Err, in-Err}
use Rattle.quick_cache_locked.proofs.locked.LockedShard.begin_load.Goals as goal

-- a look-up writes no value, nor does a placeholder that is made or met
pub invariant_of-self : goal.invariant_of-self
invariant_of-self g c =
    AllFit-begins g.L.Lifecycle.fits (g.Q.Equivalent.equivalent c.args.query.now)
    c.self.inside.shard.state c.copy_or_placeholder.new.self.state _ _ _ _
    c.copy_or_placeholder.result c.copy_or_placeholder.ensures.begins c.self.invariant

-- the clone fits where clones do
pub returns-clause-fits : goal.returns-clause-fits
returns-clause-fits g c = λ clones.
    elim c.match-copy_or_placeholder.branch [
      | in-Ok-Ok w ↦
          let is = w.in-Ok-Ok.is ∙ ap Ok w.in-Ok-Ok.field-0-is in
          rw w.result-is
          (found-fits g.L.Lifecycle.fits (g.Q.Equivalent.equivalent c.args.query.now)
          c.self.inside.shard.state c.copy_or_placeholder.new.self.state _ _ _ _
          w.in-Ok-Ok.copy (rw is at c.copy_or_placeholder.ensures.begins) c.self.invariant clones)
      | in-Ok-Err w ↦ rw w.result-is tt
      | in-Err w ↦ rw w.result-is tt
    ]
