use Rattle.quick_cache_runs.proofs.calls.CallMaker.make.Goals as goal

-- the reply is the one that was put at the end
pub returns-clause-made : goal.returns-clause-made
returns-clause-made g c = (
  c.act-reply.result,
  c.push_reserved.ensures.items,
  c.act-reply.ensures.step,
  c.act-reply.ensures.answered,
  c.act-reply.ensures.asks,
)
