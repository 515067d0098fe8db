use Rattle.std.proofs.Common.{arith}
use Rattle.quick_cache_store.proofs.pool.WalkLemmas.{entries_rest, AreLeft-rest}
use Rattle.quick_cache_store.proofs.pool.Pool.after.Goals as goal

pub invariant_of-result : goal.invariant_of-result
invariant_of-result g c =
    let i = c.self.inside in
    rw (c.as_slice-items.ensures.value, c.as_slice.ensures.value)
    (AreLeft-rest g.T.Blank.is_blank g.T.Blank.note_of i.free.items i.items.items
    c.min-passed.result (omega arith) c.self.invariant.few c.self.invariant.noted)

pub returns : goal.returns
returns g c =
    let i = c.self.inside in
    let least = rw c.as_slice-items.ensures.value at c.min-passed.ensures in
    rw (← c.self.view_is, c.as_slice-items.ensures.value, c.as_slice.ensures.value)
    (entries_rest i.free.items i.items.items c.args.passed c.min-passed.result least)
