use Rattle.std.proofs.Common.{length, ap, sym, subst, arith}
use Rattle.std.specs.List.Sorted.{IsNonDecreasingBy}
use Rattle.std.proofs.lemmas.List.{length-take}
use Rattle.std.proofs.lemmas.List.Sorted.{IsNonDecreasingBy-take}
use Rattle.std.proofs.lemmas.Result.{IfOk-weaker}
use Rattle.quick_cache_locked.specs.Hottest.{coolness}
use Rattle.promises.proofs.behind_a_lock.many.show_the_hottest.Goals as goal

-- they are the first of what stands in order
pub returns : goal.returns
returns g c = record {
  within = IfOk-weaker c.hottest.result _ _ (λ list shows. omega (
    arith,
    ap length shows.first,
    length-take c.args.count shows.sorted,
  )) c.hottest.ensures.shows;
  order = IfOk-weaker c.hottest.result _ _ (λ list shows.
      subst (λ items. IsNonDecreasingBy coolness items) (sym shows.first)
      (IsNonDecreasingBy-take coolness c.args.count shows.sorted shows.order))
      c.hottest.ensures.shows;
}
