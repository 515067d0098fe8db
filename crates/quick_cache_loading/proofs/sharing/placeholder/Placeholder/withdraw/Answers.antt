use Rattle.std.proofs.Common.{◌≡◌, true, false, Some, None, rules}
use Rattle.quick_cache_loading.proofs.sharing.placeholder.Placeholder.withdraw.Goals as goal

-- the life was given up, and so the placeholder left the shard
pub returns-in-Some : goal.returns-in-Some
returns-in-Some g c =
    let is : c.cancel-unroused.result ≡ Some c.in-Some.ended = search rules in
    let ended = rw is at c.cancel-unroused.ensures.ended in
    record {
      leaves = record {
        old = c.deref_mut.result.now;
        new = c.cancel-unroused.new.self;
        holds = record {
          ends = true;
          own = rw is at c.cancel-unroused.ensures.event;
          other = λ elsewhere. absurd (elsewhere ended.1);
          shard = rw ended.0 at c.settle.ensures.gives_up;
        };
      };
    }

-- or it goes on
pub returns-in_default : goal.returns-in_default
returns-in_default g c =
    let is : c.cancel-unroused.result ≡ None = search rules in
    record {
      leaves = record {
        old = c.deref_mut.result.now;
        new = c.cancel-unroused.new.self;
        holds = record {
          ends = false;
          own = rw is at c.cancel-unroused.ensures.event;
          other = λ elsewhere. search rules;
          shard = search rules;
        };
      };
    }
