use Rattle.std.proofs.Common.{None, slice_index_or, ap, ◌∙◌, arith}
use Rattle.std.proofs.lemmas.List.{get_or-set_other}
use Rattle.quick_cache_sync.proofs.ManyLemmas.{IsGot-put}
use Rattle.quick_cache_sync.proofs.calls.many.get_at.Goals as goal

-- what was found stands at the index
pub returns-clause-gets : goal.returns-clause-gets
returns-clause-gets g c = λ query is here. IsGot-put g.L.Lifecycle g.K.PartialEq.eq
    g.V.Clone.is_clone g.Q.Equivalent.equivalent c.args.shard.now c.args.queries.now
    c.args.values.now.items c.put_at.new.values.items c.args.index c.requires.index
    c.index-queries-index.result query c.in_ok-found.found
    (omega (arith, c.args.values.now.ok, c.requires.values)) c.index-queries-index.is is
    c.put_at.ensures.puts c.in_ok-found.ensures.got

-- and the others are as they were
pub returns-clause-elsewhere : goal.returns-clause-elsewhere
returns-clause-elsewhere g c = λ other off.
    ap (λ list. slice_index_or list other None) c.put_at.ensures.puts
    ∙ get_or-set_other c.args.values.now.items c.args.index other c.in_ok-found.found None off
