use Rattle.std.proofs.Common.{ℕ, ◌∙◌, ap, arith}
use Rattle.quick_cache_store.proofs.lists.CopyLemmas.{IsSound-copied, light-copied, lists_of-copied}
use Rattle.quick_cache_store.proofs.lists.TurnLemmas.{AreWithin-all}
use Rattle.quick_cache_store.proofs.lists.lists.Lists.try_clone.Goals as goal

pub try_copy-requires-2 : goal.try_copy-requires-2
try_copy-requires-2 g c =
    let i = c.self.inside in
    AreWithin-all i.slots i.index i.rings i.loading c.self.invariant _ (omega (
      arith,
      c.len.ensures.value,
    ))

-- the copies weigh as much as the entries
pub index_of-requires : goal.index_of-requires
index_of-requires g c = record {
  light = light-copied g.K.Clone.is_clone g.V.Clone.is_clone
      (g.C.Copying.hash_of c.args.by.now) (g.C.Copying.shares c.args.by.now) c.self.inside.slots
      c.in_ok-slots.slots c.in_ok-slots.ensures.copies c.self.inside.index c.self.invariant.keyed;
}

pub invariant_of-result : goal.invariant_of-result
invariant_of-result g c =
    let i = c.self.inside in
    let rings = c.in_ok-rings.ensures.copies
    ∙ ap (λ (n : ℕ). record i.rings { capacity = n }) c.len.ensures.value in
    rw rings (IsSound-copied g.K.Clone.is_clone
    g.V.Clone.is_clone (g.C.Copying.hash_of c.args.by.now)
    (g.C.Copying.shares c.args.by.now) i.slots c.in_ok-slots.slots c.in_ok-slots.ensures.copies i.index
    c.in_ok-index.index i.rings i.loading c.self.invariant c.in_ok-index.ensures.keyed)

pub returns-clause-copies : goal.returns-clause-copies
returns-clause-copies g c =
    let i = c.self.inside in
    rw (← c.self.view_is, c.in_ok-rings.ensures.copies) (lists_of-copied g.K.Clone.is_clone g.V.Clone.is_clone
    (g.C.Copying.hash_of c.args.by.now) (g.C.Copying.shares c.args.by.now) i.slots
    c.in_ok-slots.slots c.in_ok-slots.ensures.copies i.index c.in_ok-index.index
    i.rings c.len.result)
