use Rattle.quick_cache_listeners.proofs.Runs.{runs-tell}
use Rattle.quick_cache_listeners.proofs.causes.laws.tell_law.Goals as goal

pub returns : goal.returns
returns g c = λ listener calls first last runs. runs-tell _ calls first last runs
