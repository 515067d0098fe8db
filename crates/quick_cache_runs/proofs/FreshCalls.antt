-- Fresh calls ask no predicate.
use Rattle.std.proofs.Common.{List}
use Rattle.std.specs.List.{All}
use Rattle.std.proofs.lemmas.List.Elements.{All-nil, All-cons}
use Rattle.quick_cache_model.specs.CacheState.{CacheState}
use Rattle.quick_cache_model.specs.Hooks.{Rules}
use Rattle.quick_cache_model.specs.declared.calls.call.Call.{Call}
use Rattle.quick_cache_runs.specs.Asked.{IfAsks}
use Rattle.quick_cache_laws.specs.Scans.{AreFresh}

pub fresh_asks : {K V F : Type 0} (rules : Rules K V) (state : CacheState K V) (P : F → Type 0)
    (calls : List (Call K V F)) → AreFresh rules state calls → All (IfAsks P) calls
fresh_asks rules state P _ AreFresh.none = All-nil (IfAsks P)
fresh_asks rules state P _ (AreFresh.gets key calls absent fresh) =
    All-cons (IfAsks P) (Call.Get key) calls tt (fresh_asks rules state P calls fresh)
fresh_asks rules state P _
    (AreFresh.inserts key value calls nothing unpinned light fits apart fresh) =
    All-cons (IfAsks P) (Call.Insert key value) calls tt (fresh_asks rules state P calls fresh)
