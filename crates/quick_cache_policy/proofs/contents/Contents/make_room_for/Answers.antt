use Rattle.std.proofs.Common.{arith, [], refl}
use Rattle.quick_cache_model.specs.Fates.{residents}
use Rattle.quick_cache_model.specs.Placeholders.{MakesRoomFor}
use Rattle.quick_cache_model.proofs.Leads.{Leads-same}
use Rattle.quick_cache_model.proofs.OrderLaws.{UpToOrder-exact, UpToOrder-map}
use Rattle.quick_cache_policy.specs.Advances.{AreEvictions}
use Rattle.quick_cache_policy.specs.Contents.{state_of}
use Rattle.quick_cache_policy.proofs.contents.Contents.make_room_for.Goals as goal

-- where it weighs nothing, no room is made
pub returns-then-weight-eq0-clause-makes : goal.returns-then-weight-eq0-clause-makes
returns-then-weight-eq0-clause-makes g c = record {
  calls = [];
  holds = (
    λ steadily. UpToOrder-exact _ _ (MakesRoomFor.takes_none c.if-weight-eq0.true),
    AreEvictions.none,
    Leads-same (residents (state_of g.P.SharedPlaceholder.ticket_of c.args.self.now)),
  );
  runs = refl;
}

pub returns-clause-makes : goal.returns-clause-makes
returns-clause-makes g c =
    let evicts = c.evict_to_capacity.ensures.evicts in
    record {
      calls = evicts.calls;
      holds = (
        λ steadily. UpToOrder-map _ _ _ (λ now e. MakesRoomFor.takes_some evicts.calls now
            (omega (arith, c.if-weight-eq0.false)) e) (evicts.holds.0 steadily),
        evicts.holds.1,
        evicts.holds.2,
      );
      runs = evicts.runs;
    }
