use Rattle.std.proofs.Common.{◌≡◌, ap, rules}
use Rattle.quick_cache_loading.specs.Waiters.{told_or_none}
use Rattle.quick_cache_loading.proofs.waiting.JoinLemmas.{uncounted}
use Rattle.quick_cache_loading.proofs.sharing.placeholder.Placeholder.wait_within.Goals as goal

-- it is told as the state says
pub returns-then-not-is_counted-clause-looks : goal.returns-then-not-is_counted-clause-looks
returns-then-not-is_counted-clause-looks g c =
    rw (uncounted c.args.turns.now.limit c.args.turns.now.ended (search rules)) c.wait.ensures.looks

pub returns-in-Ok-clause-looks : goal.returns-in-Ok-clause-looks
returns-in-Ok-clause-looks g c =
    let place : c.loop.place ≡ c.args.place = search rules in
    record {
      old = c.deref_mut.result.now;
      new = c.poll.new.self;
      holds = rw (← place, ← c.is_over.ensures) (record {
        elsewhere = λ other. ap told_or_none (c.in-Ok.ensures.elsewhere other).0;
        ended = λ here over. ap told_or_none (c.in-Ok.ensures.ended here over).0;
        looks = c.in-Ok.ensures.looks;
      });
    }
