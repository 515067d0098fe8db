use Rattle.std.proofs.Common.{◌∙◌, ap}
use Rattle.quick_cache_loading.specs.declared.waiting.tokens.Filled.{Filled}
use Rattle.quick_cache_loading.proofs.sharing.placeholder.Placeholder.fill.Goals as goal

-- the state is filled so
pub returns-in-Ok-clause-fills : goal.returns-in-Ok-clause-fills
returns-in-Ok-clause-fills g c = record {
  old = c.deref_mut.result.now;
  new = c.fill.new.self;
  holds = record {
    own = c.in-Ok.ensures.event.2;
    told = ap (λ (filled : Filled). filled.waited) (c.rouse.ensures ∙ c.in-Ok.ensures.event.0);
    step = c.in-Ok.ensures.event.1;
  };
}
