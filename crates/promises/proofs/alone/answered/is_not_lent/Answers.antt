use Rattle.std.proofs.Common.{◌≡◌, rules, refl, sym, subst}
use Rattle.quick_cache_model.specs.Finding.{HasNoItem}
use Rattle.quick_cache_shard.specs.Shard.{Shard}
use Rattle.promises.proofs.AnsweredLemmas.{AnswersLoad-absent}
use Rattle.promises.proofs.alone.answered.is_not_lent.Goals as goal

-- the cache is as the call left it
pub returns-in-Err-NotKept : goal.returns-in-Err-NotKept
returns-in-Err-NotKept g c =
    let rests = rw c.in-Err-NotKept.field-0-is at
    (rw c.in-Err-NotKept.is at c.get_or_insert_with.follows.holds-at-none) in
    let same : c.match-this-2.cache ≡ c.get_or_insert_with.follows.lender-at-none =
    search rules in
    λ is. subst (λ (x : Shard g.row.K.Denot g.row.V.Denot g.row.We.Denot g.row.B.Denot
    g.row.L.Denot). HasNoItem (g.Q.Equivalent.equivalent c.args.query.now) x.state) (sym same)
    (AnswersLoad-absent _ _ _ _ _ _ _ _ _ _ _ rests.0 refl)
