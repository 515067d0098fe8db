use Rattle.std.proofs.Common.{arith}
use Rattle.quick_cache_store.specs.Asides.{besides_of}
use Rattle.quick_cache_store.proofs.slots.CopiedLemmas.{beside-copied, AreBeside-copied, joined-copied}
use Rattle.quick_cache_store.proofs.slots.JoinedEdits.{IsParted-joined}
use Rattle.quick_cache_store.proofs.slots.slots.Slots.try_copy.Goals as goal

-- the copy has as many slots, and a pool has no more than these
pub copy_asides-requires : goal.copy_asides-requires
copy_asides-requires g c =
    let i = c.self.inside in
    let asides = besides_of i.asides in
    let pool = c.in_ok-pool.pool in
    let few = c.facts.ensures.few in
    let beside = c.self.invariant.beside in
    record {
      in_step = c.self.invariant.in_step;
      beside = beside-copied g.K.Clone.is_clone g.V.Clone.is_clone
          (g.C.Copying.hash_of c.args.by.now) (g.C.Copying.shares c.args.by.now) i.pool pool
          asides
          c.self.invariant.beside c.in_ok-pool.ensures.copies;
      few = omega arith;
      empty = c.new-empty.ensures.empty;
      empty_in_step = c.new-empty.ensures.in_step;
    }

pub invariant_of-result : goal.invariant_of-result
invariant_of-result g c =
    let i = c.self.inside in
    let asides = besides_of i.asides in
    let pool = c.in_ok-pool.pool in
    record {
      in_step = c.in_ok-asides.ensures.in_step;
      beside = AreBeside-copied g.K.Clone.is_clone g.V.Clone.is_clone
          (g.C.Copying.hash_of c.args.by.now) (g.C.Copying.shares c.args.by.now) i.pool pool
          asides
          c.self.invariant.beside c.in_ok-pool.ensures.copies
          (besides_of c.in_ok-asides.asides)
          c.in_ok-asides.ensures.copies;
    }

pub returns-clause-copies : goal.returns-clause-copies
returns-clause-copies g c =
    let i = c.self.inside in
    let asides = besides_of i.asides in
    let pool = c.in_ok-pool.pool in
    rw (← c.self.view_is) (joined-copied g.K.Clone.is_clone g.V.Clone.is_clone
    (g.C.Copying.hash_of c.args.by.now) (g.C.Copying.shares c.args.by.now) i.pool pool asides
    c.self.invariant.beside c.in_ok-pool.ensures.copies _ _
    (besides_of c.in_ok-asides.asides)
    c.in_ok-asides.ensures.copies)

pub returns-clause-parted : goal.returns-clause-parted
returns-clause-parted g c =
    let i = c.self.inside in
    let asides = besides_of i.asides in
    let pool = c.in_ok-pool.pool in
    IsParted-joined pool (besides_of c.in_ok-asides.asides) _
    (AreBeside-copied g.K.Clone.is_clone g.V.Clone.is_clone
    (g.C.Copying.hash_of c.args.by.now) (g.C.Copying.shares c.args.by.now) i.pool pool asides
    c.self.invariant.beside c.in_ok-pool.ensures.copies
    (besides_of c.in_ok-asides.asides)
    c.in_ok-asides.ensures.copies)
    c.in_ok-pool.ensures.parted
