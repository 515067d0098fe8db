use Rattle.std.proofs.Common.{subst, sym, arith}
use Rattle.quick_cache_store.specs.Lists.{Lists}
use Rattle.quick_cache_policy.specs.Contents.{IsSound}
use Rattle.quick_cache_policy.proofs.contents.Contents.new.Goals as goal

-- nothing stands in the lists, and what holds of each entry holds of none
pub returns-clause-sound : goal.returns-clause-sound
returns-clause-sound g c = λ hashed.
    subst (λ (lists : Lists g.row.K.Denot g.row.V.Denot g.row.P-Kept.Denot).
    IsSound g.P.SharedPlaceholder.ticket_of g.K.PartialEq.eq hashed (record {
      lists = lists;
      capacity = c.args.capacity;
      hot_target = c.args.hot_target;
      ghost_limit = c.args.ghost_limit;
      mark_cut = c.args.mark_cut;
      hits = 0;
      misses = 0;
      shared_hits = c.default.result;
      shared_misses = c.default-2.result;
      next_ticket = 1;
      advances = 0;
      visits = 0;
    }))
    (sym c.in_ok-new.ensures.empty)
    (record {
      valid = record {
        one_entry_a_key = λ k. omega arith;
        one_entry_a_ticket = λ n. omega arith;
        tickets_given = tt;
        ghosts_within = omega arith;
        in_hot = tt;
        in_cold = tt;
        in_still = tt;
      };
      sized = c.requires.sized;
      hashed = record { hot = tt; cold = tt; still = tt; loading = tt };
    })
