use Rattle.std.proofs.Common.{◌∙◌, ap, sym, subst}
use Rattle.quick_cache_options.specs.Options.{Settings}
use Rattle.quick_cache_shard.specs.Shard.{Shard}
use Rattle.quick_cache_traced.specs.Recorded.{empty_of}
use Rattle.quick_cache_traced.proofs.KeptLemmas.{begins}
use Rattle.quick_cache_traced.proofs.recorder.Recorder.new.Goals as goal

-- before the first call the cache is empty, and so is the list
pub invariant_of-result : goal.invariant_of-result
invariant_of-result g c =
    let X = Shard g.row.K.Denot g.row.V.Denot g.row.We.Denot g.row.B.Denot g.row.L.Denot in
    let makes = c.in_ok-with_options.ensures.makes in
    begins _ g.L.RequestState.Default.is_default g.K.PartialEq.eq g.K.Clone.is_clone
    g.V.Clone.is_clone c.in_ok-with_options.field-0 c.in_ok-kept.kept c.new.result.items
    c.args.calls.total
    (subst (λ (x : X). g.L.Lifecycle.steady x.lifecycle) (sym makes) c.requires.steady)
    (ap (λ (x : X). x.state) makes
    ∙ ap (λ (o : Settings). empty_of o) (sym c.in_ok-kept.ensures.same))
    c.new.ensures.items c.requires.none
