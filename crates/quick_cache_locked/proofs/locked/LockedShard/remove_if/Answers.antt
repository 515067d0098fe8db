use Rattle.quick_cache_locked.proofs.FitWrites.{IsItemAt-fits}
use Rattle.quick_cache_locked.proofs.FitRemovals.{RemovesAsked-fits, RemovesAsked-gives, AllFit-stepped}
use Rattle.quick_cache_locked.proofs.locked.LockedShard.remove_if.Goals as goal

-- it is asked of the value of the item that is found, and that fits its key
pub remove_if-requires-clause-callable : goal.remove_if-requires-clause-callable
remove_if-requires-clause-callable g c = λ place before item after there.
    c.requires.callable item.value (record {
      key = item.key;
      stands = there.passes;
      fits_key = IsItemAt-fits g.L.Lifecycle.fits
          (g.Q.Equivalent.equivalent c.args.query.now) c.self.inside.shard.state place before item
          after there c.self.invariant;
    })

-- the items that are left are as they were
pub invariant_of-self : goal.invariant_of-self
invariant_of-self g c = AllFit-stepped g.L.Lifecycle.fits c.self.inside.shard.state
    c.remove_if.new.self.state c.remove_if.ensures.asks
    (λ next step. RemovesAsked-fits g.L.Lifecycle.fits
    (g.Q.Equivalent.equivalent c.args.query.now) c.self.inside.shard.state _ _ next step)
    c.self.invariant

-- the shard had values that fit, and the answer is one of them
pub returns-clause-fits : goal.returns-clause-fits
returns-clause-fits g c =
    RemovesAsked-gives g.L.Lifecycle.fits
    (g.Q.Equivalent.equivalent c.args.query.now) _ _ c.remove_if.result _
    c.remove_if.ensures.asks.holds c.self.invariant

pub returns-clause-places : goal.returns-clause-places
returns-clause-places g c = rw (← c.self.view_is) c.remove_if.ensures.places
