use Rattle.std.proofs.Common.{refl}
use Rattle.std.specs.Int.NonZero.{non_zero_u32_get as number}
use Rattle.quick_cache_store.specs.Lists.{with_value}
use Rattle.quick_cache_store.proofs.lists.ItemLemmas.{item_by_token}
use Rattle.quick_cache_store.proofs.lists.StandLemmas.{HasItem-from}
use Rattle.quick_cache_store.proofs.lists.ChangeLemmas.{written-by, IsSound-changed, lists-changed}
use Rattle.quick_cache_store.proofs.lists.lists.Lists.show.Goals as goal

pub show-requires-clause-item : goal.show-requires-clause-item
show-requires-clause-item g c =
    let i = c.self.inside in
    item_by_token i.slots i.index i.rings
    (number c.args.token) (rw (← c.self.view_is) at c.requires.token)

-- the item of the slot is that of the token
pub show-requires-clause-callable : goal.show-requires-clause-callable
show-requires-clause-callable g c =
    let i = c.self.inside in
    λ hash item at. c.requires.callable item (
      hash,
      rw (← c.self.view_is) (HasItem-from i.slots i.index i.rings
          c.self.invariant.standing (number c.args.token) hash item at),
    )

-- the item keeps its weight, whatever value was left
pub invariant_of-self : goal.invariant_of-self
invariant_of-self g c =
    let i = c.self.inside in
    let t = number c.args.token in
    let shows = c.show.ensures in
    let is = written-by i.slots c.show.new.self t shows.hash shows.item (with_value shows.left)
    shows.writes shows.at in
    rw is (IsSound-changed i.slots t shows.hash shows.item (with_value shows.left) refl refl
    shows.at refl i.index i.rings i.loading c.self.invariant)

pub returns : goal.returns
returns g c =
    let i = c.self.inside in
    let t = number c.args.token in
    let shows = c.show.ensures in
    let is = written-by i.slots c.show.new.self t shows.hash shows.item (with_value shows.left)
    shows.writes shows.at in
    record {
      item = shows.item;
      stood = (
        shows.hash,
        rw (← c.self.view_is) (HasItem-from i.slots i.index i.rings
            c.self.invariant.standing t shows.hash shows.item shows.at),
      );
      left = shows.left;
      called = shows.called;
      rest = rw (← c.self.view_is, is) (lists-changed i.slots t shows.hash shows.item
          (with_value shows.left) refl refl shows.at i.index i.rings);
    }
