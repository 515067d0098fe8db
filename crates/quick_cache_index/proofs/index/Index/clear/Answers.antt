use Rattle.std.proofs.Common.{sym, ◌∙◌}
use Rattle.quick_cache_index.proofs.ShownTokens.{HasNone-count}
use Rattle.quick_cache_index.proofs.index.Index.clear.Goals as goal

pub returns-then-len-eq0-clause-empty : goal.returns-then-len-eq0-clause-empty
returns-then-len-eq0-clause-empty g c =
    HasNone-count c.args.self.now (sym c.len.ensures.value ∙ c.if-len-eq0.true)
