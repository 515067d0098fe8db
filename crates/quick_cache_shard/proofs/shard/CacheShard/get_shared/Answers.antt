use Rattle.std.proofs.Common.{Some, subst, sym}
use Rattle.quick_cache_model.specs.Lookups.{Sees}
use Rattle.quick_cache_policy.specs.Contents.{state_of}
use Rattle.quick_cache_shard.proofs.shard.CacheShard.get_shared.Goals as goal

pub returns-in_err-item-clause-sees : goal.returns-in_err-item-clause-sees
returns-in_err-item-clause-sees g c =
    rw (← c.self.view_is, c.from_residual.ensures) (Sees.is_absent c.in_err-item.ensures)

-- the value that is shown is that of the item that is there
pub returns-clause-sees : goal.returns-clause-sees
returns-clause-sees g c =
    let there = c.in_ok-item.ensures in
    rw (← c.self.view_is)
    (subst (λ (shown : g.row.V.Denot). Sees (g.Q.Equivalent.equivalent c.args.query.now)
    (state_of g.P.SharedPlaceholder.ticket_of c.self.inside.contents) (λ item. item.value)
    (Some shown)) (sym c.value.ensures)
    (Sees.is_there there.place there.before c.in_ok-item.item there.after there.at))
