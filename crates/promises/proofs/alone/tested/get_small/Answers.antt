use Rattle.std.proofs.Common.{◌<◌, IfOk, OnErr, ◌∙◌, rules, subst, sym}
use Rattle.quick_cache_model.specs.CacheState.{SameButOrder}
use Rattle.quick_cache_model.specs.Lookups.{after_miss}
use Rattle.promises.proofs.TestedLemmas.{LooksUpIf-missed, LooksUpIf-passed, copied-ok}
use Rattle.promises.proofs.alone.tested.get_small.Goals as goal

-- what is copied passed the test
pub returns-clause-small : goal.returns-clause-small
returns-clause-small c =
    subst (λ shown. IfOk shown (λ value. value < 10))
    (sym (c.copied.ensures ∙ copied-ok c.get_if.result))
    (LooksUpIf-passed _ _ _ (λ value. value < 10) (λ value said. search rules) _ _
    c.get_if.follows.holds-at-none.0)

-- and where nothing is, a miss is counted
pub returns-clause-stays : goal.returns-clause-stays
returns-clause-stays c =
    subst
    (λ shown. OnErr shown
    (SameButOrder (after_miss c.args.cache.now.state) c.get_if.follows.lender-at-none.state))
    (sym (c.copied.ensures ∙ copied-ok c.get_if.result))
    (LooksUpIf-missed _ _ _ _ _ c.get_if.follows.holds-at-none.0)
