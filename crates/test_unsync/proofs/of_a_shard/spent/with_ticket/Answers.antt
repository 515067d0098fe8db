use Rattle.test_unsync.proofs.SpentLemmas.{IsSound-ticket}
use Rattle.test_unsync.proofs.of_a_shard.spent.with_ticket.Goals as goal

-- nothing is loading
pub from_parts-requires : goal.from_parts-requires
from_parts-requires c = record {
  sound =
      IsSound-ticket _ _ _ _ _ _ _ _ c.in_ok-contents.ensures.state
      (c.in_ok-contents.ensures.sound _);
}
