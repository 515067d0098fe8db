use Rattle.std.proofs.Common.{rules, ◌≡◌, ◌<◌, ap, sym, ◌∙◌, ◌-◌, arith, vec_len, length}
use Rattle.quick_cache_containers.specs.Table.{wanted_room}
use Rattle.quick_cache_containers.specs.TableGroups.{pairs_of}
use Rattle.quick_cache_containers.proofs.ShownPairs.{pair_count-of, in_order-same_pairs, IsSound-grown}
use Rattle.quick_cache_containers.proofs.PairOrder.{length-in_order}
use Rattle.quick_cache_containers.proofs.table.Table.reserve.Goals as goal

-- the room that was wanted is there
pub returns-then-wanted-capacity-clause-room : goal.returns-then-wanted-capacity-clause-room
returns-then-wanted-capacity-clause-room g c =
    let count =
    pair_count-of c.args.self.now c.self.inside.places.items
    (sym (ap (λ t. t.pairs) c.self.view_is)) in
    omega (
      arith,
      count,
      c.self.invariant.counted,
      ap (λ t. t.room) c.self.view_is,
      c.min-wanted.ensures,
      c.capacity.ensures,
      c.if-wanted-capacity.true,
      c.len.ensures,
    )

pub returns-then-wanted-capacity-clause-most : goal.returns-then-wanted-capacity-clause-most
returns-then-wanted-capacity-clause-most g c =
    let count =
    pair_count-of c.args.self.now c.self.inside.places.items
    (sym (ap (λ t. t.pairs) c.self.view_is)) in
    omega
    (arith, count, c.self.invariant.counted, c.self.invariant.load, ap (λ t. t.room) c.self.view_is)

-- a growth was refused, and the places stay
pub returns-in_err-grow-clause-most : goal.returns-in_err-grow-clause-most
returns-in_err-grow-clause-most g c =
    omega (
      arith,
      length-in_order (pairs_of c.grow.new.places.items),
      ap
          (λ ps. length (pairs_of ps)) c.in_err-grow.ensures.places_stay,
      ap length
          c.in_err-grow.ensures.reaches_stay,
      c.self.invariant.counted,
      c.self.invariant.load,
    )

pub returns-in_err-grow-clause-lacked_room : goal.returns-in_err-grow-clause-lacked_room
returns-in_err-grow-clause-lacked_room g c =
    let count =
    pair_count-of c.args.self.now c.self.inside.places.items
    (sym (ap (λ t. t.pairs) c.self.view_is)) in
    let lacked : c.args.self.now.room < wanted_room c.args.self.now c.args.additional =
    omega (
      arith,
      count,
      c.self.invariant.counted,
      ap (λ t. t.room) c.self.view_is,
      c.min-wanted.ensures,
      c.capacity.ensures,
      c.if-wanted-capacity.false,
      c.len.ensures,
    ) in
    search (lacked, rules)

pub returns-in_err-grow-clause-succeeds : goal.returns-in_err-grow-clause-succeeds
returns-in_err-grow-clause-succeeds g c = λ had.
    let count =
    pair_count-of c.args.self.now c.self.inside.places.items
    (sym (ap (λ t. t.pairs) c.self.view_is)) in
    absurd (omega (
      arith,
      had,
      count,
      c.self.invariant.counted,
      ap (λ t. t.room) c.self.view_is,
      c.min-wanted.ensures,
      c.capacity.ensures,
      c.if-wanted-capacity.false,
      c.len.ensures,
    ))

pub returns-in_err-grow-clause-had_room : goal.returns-in_err-grow-clause-had_room
returns-in_err-grow-clause-had_room g c = λ had.
    let count =
    pair_count-of c.args.self.now c.self.inside.places.items
    (sym (ap (λ t. t.pairs) c.self.view_is)) in
    absurd (omega (
      arith,
      had,
      count,
      c.self.invariant.counted,
      ap (λ t. t.room) c.self.view_is,
      c.min-wanted.ensures,
      c.capacity.ensures,
      c.if-wanted-capacity.false,
      c.len.ensures,
    ))

-- the pairs were housed anew, in more groups
pub invariant_of-self-2 : goal.invariant_of-self-2
invariant_of-self-2 g c =
    let inside = c.self.inside in
    let size : vec_len c.grow.new.reaches ≡ c.groups_for-count.result =
    c.in_ok-grow.ensures.groups in
    IsSound-grown inside.tags.items c.grow.new.tags.items inside.places.items
    c.grow.new.places.items inside.reaches.items c.grow.new.reaches.items inside.mask
    (c.groups_for-count.result - 1) inside.len c.self.invariant c.in_ok-grow.ensures.whole
    c.in_ok-grow.ensures.pairs
    (omega (arith, size, c.grow.new.reaches.ok.0, c.groups_for-count.ensures.enough))

pub returns-clause-pairs : goal.returns-clause-pairs
returns-clause-pairs g c =
    in_order-same_pairs c.self.inside.places.items c.grow.new.places.items
    c.in_ok-grow.ensures.pairs ∙ ap (λ t. t.pairs) c.self.view_is

pub returns-clause-room : goal.returns-clause-room
returns-clause-room g c =
    let count =
    pair_count-of c.args.self.now c.self.inside.places.items
    (sym (ap (λ t. t.pairs) c.self.view_is)) in
    let size : vec_len c.grow.new.reaches ≡ c.groups_for-count.result =
    c.in_ok-grow.ensures.groups in
    omega (
      arith,
      count,
      c.self.invariant.counted,
      size,
      c.grow.new.reaches.ok.0,
      c.groups_for-count.ensures.enough,
      c.in_ok-grow.ensures.pairs.taken,
      c.min-wanted.ensures,
      c.len.ensures,
    )

pub returns-clause-most : goal.returns-clause-most
returns-clause-most g c =
    let size : vec_len c.grow.new.reaches ≡ c.groups_for-count.result =
    c.in_ok-grow.ensures.groups in
    omega (
      arith,
      length-in_order (pairs_of c.grow.new.places.items),
      c.self.invariant.counted,
      c.self.invariant.load,
      size,
      c.grow.new.reaches.ok.0,
      c.groups_for-count.ensures.enough,
      c.in_ok-grow.ensures.pairs.taken,
    )

pub returns-clause-had_room : goal.returns-clause-had_room
returns-clause-had_room g c = λ had.
    let count =
    pair_count-of c.args.self.now c.self.inside.places.items
    (sym (ap (λ t. t.pairs) c.self.view_is)) in
    absurd (omega (
      arith,
      had,
      count,
      c.self.invariant.counted,
      ap (λ t. t.room) c.self.view_is,
      c.min-wanted.ensures,
      c.capacity.ensures,
      c.if-wanted-capacity.false,
      c.len.ensures,
    ))
