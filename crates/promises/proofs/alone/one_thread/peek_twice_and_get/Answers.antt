use Rattle.std.proofs.Common.{◌∙◌, sym}
use Rattle.quick_cache_model.specs.CacheState.{Item}
use Rattle.quick_cache_model.proofs.LookupLaws.{Sees-Sees, Sees-LooksUp}
use Rattle.promises.proofs.alone.one_thread.peek_twice_and_get.Goals as goal

-- two looks show the same
pub returns-clause-peeks : goal.returns-clause-peeks
returns-clause-peeks g c =
    let of : Item g.row.K.Denot g.row.V.Denot → g.row.V.Denot = λ item. item.value in
    c.copied-first.ensures ∙ Sees-Sees (g.K.PartialEq.eq c.args.key.now) c.args.cache.now.state
    (c.peek.ensures.sound.valid.one_entry_a_key c.args.key.now) of c.peek.ensures.sees
    c.peek-2.ensures.sees ∙ sym c.copied-second.ensures

-- and so does a look-up
pub returns-clause-gets : goal.returns-clause-gets
returns-clause-gets g c =
    let of : Item g.row.K.Denot g.row.V.Denot → g.row.V.Denot = λ item. item.value in
    c.copied-first.ensures ∙ Sees-LooksUp (g.K.PartialEq.eq c.args.key.now) c.args.cache.now.state
    (c.peek.ensures.sound.valid.one_entry_a_key c.args.key.now) of c.peek.ensures.sees
    c.get.follows.holds-at-none.0.holds ∙ sym c.copied.ensures
