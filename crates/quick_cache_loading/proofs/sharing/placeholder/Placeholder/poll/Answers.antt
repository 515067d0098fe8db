use Rattle.std.proofs.Common.{ap}
use Rattle.quick_cache_loading.specs.Waiters.{told_or_none}
use Rattle.quick_cache_loading.proofs.sharing.placeholder.Placeholder.poll.Goals as goal

-- it is told as the state says
pub returns-clause-looks : goal.returns-clause-looks
returns-clause-looks g c = record {
  old = c.deref_mut.result.now;
  new = c.poll_as_task.new.self;
  holds = record {
    elsewhere = λ other. ap told_or_none (c.poll_as_task.ensures.elsewhere other).0;
    ended = λ here over. ap told_or_none (c.poll_as_task.ensures.ended here over).0;
    looks = c.poll_as_task.ensures.looks;
  };
}
