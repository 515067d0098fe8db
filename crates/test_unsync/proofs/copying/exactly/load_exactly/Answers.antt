use Rattle.quick_cache_loading.proofs.WiderShowing.{LoadingRun-wider}
use Rattle.quick_cache_model.specs.Shown.{IsItself}
use Rattle.test_unsync.proofs.copying.exactly.load_exactly.Goals as goal

pub returns-in-Ok : goal.returns-in-Ok
returns-in-Ok g c = LoadingRun-wider g.V.Clone.is_clone IsItself c.requires.clones _ _ _ _
    c.in-Ok.ensures.run
