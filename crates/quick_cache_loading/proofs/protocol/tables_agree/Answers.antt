use Rattle.quick_cache_loading.proofs.RowsToCases.{tables_agree}
use Rattle.quick_cache_loading.proofs.protocol.tables_agree.Goals as goal

pub returns : goal.returns
returns g c = tables_agree g.V.Clone.is_clone
