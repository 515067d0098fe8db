use Rattle.std.proofs.Common.{sym}
use Rattle.quick_cache_loading.proofs.waiting.TaskLemmas.{slots_after-other}
use Rattle.quick_cache_loading.proofs.waiting.tasks.Tasks.wake_handed.Goals as goal

pub returns-in_default : goal.returns-in_default
returns-in_default g c =
    sym (slots_after-other c.args.answer.now c.args.self.now c.in_default.not-HandedTo)
