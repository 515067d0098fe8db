use Rattle.std.proofs.Common.{ap, ◌∙◌}
use Rattle.quick_cache_policy.proofs.FindLemmas.{none-found}
use Rattle.quick_cache_locked.specs.Invalidates.{is_between}
use Rattle.quick_cache_locked.proofs.AskedLemmas.{between-same}
use Rattle.quick_cache_locked.proofs.locked.LockedShard.load_between.Goals as goal

-- no ticket lies between
pub returns-in_default : goal.returns-in_default
returns-in_default g c =
    rw (← c.self.view_is) (none-found _ _ c.in_default.not-Some
    (c.find_placeholder.ensures.finds (is_between c.args.above c.args.below)
    (λ kept. between-same c.args.above c.args.below _ _ c.between-tickets.ensures.above
    c.between-tickets.ensures.below kept.ticket)))

-- this one does
pub returns : goal.returns
returns g c =
    ap (λ ticket. is_between c.args.above c.args.below ticket) c.met.ensures.ticket
    ∙ c.in-Some.ensures.finds (is_between c.args.above c.args.below)
    (λ kept. between-same c.args.above c.args.below _ _ c.between-tickets.ensures.above
    c.between-tickets.ensures.below kept.ticket)
