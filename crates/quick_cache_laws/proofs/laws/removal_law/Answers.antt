use Rattle.quick_cache_laws.proofs.Calls.SecondRemovals.{Removes-second, Retains-second}
use Rattle.quick_cache_laws.proofs.laws.removal_law.Goals as goal

pub returns-clause-again : goal.returns-clause-again
returns-clause-again g c = λ stands_for hash old mid new first second query valid removes again.
    Removes-second _ stands_for query hash old mid new first second valid removes again

pub returns-clause-retains_again : goal.returns-clause-retains_again
returns-clause-retains_again g c = λ keeps old mid new retains again. Retains-second keeps old mid
    new retains again
