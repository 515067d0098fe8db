use Rattle.std.proofs.Common.{None}
use Rattle.quick_cache_model.specs.Lookups.{Sees}
use Rattle.quick_cache_model.specs.CacheStep.{CacheStep}
use Rattle.quick_cache_runs.proofs.CallSteps.{LooksUp-seen}
use Rattle.quick_cache_runs.proofs.calls.CallMaker.miss.Goals as goal

-- there is no item, so the look-up shows nothing
pub returns-clause-step : goal.returns-clause-step
returns-clause-step g c = λ answers.
    CacheStep.gets c.args.key.now None None _
    (LooksUp-seen (g.K.PartialEq.eq c.args.key.now) c.args.cache.now.state (λ item. item.value)
    (c.requires.sound.valid.one_entry_a_key c.args.key.now) (Sees.is_absent c.requires.absent)
    c.get.follows.holds-at-none.0) tt
