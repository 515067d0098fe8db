use Rattle.std.proofs.Common.{refl}
use Rattle.quick_cache_policy.proofs.FindLemmas.{none-found, HasNoItem-state}
use Rattle.quick_cache_policy.proofs.contents.Contents.look_up_copy.Goals as goal

-- no item was found
pub returns-in_default-clause-finds : goal.returns-in_default-clause-finds
returns-in_default-clause-finds g c = (
  HasNoItem-state g.P.SharedPlaceholder.ticket_of (g.Q.Equivalent.equivalent c.args.query.now)
      c.args.hash c.args.self.now c.requires.under
      (none-found _ _ c.in_default.not-Some c.find_item.ensures),
  refl,
)
