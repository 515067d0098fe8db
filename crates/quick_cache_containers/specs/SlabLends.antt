-- What a `LinkedSlab` ends as, where a `&mut` to one of its items is returned.
use Rattle.std.specs.Prelude.{◌≡◌, ℕ, Option}
use Rattle.std.specs.Borrow.{Lends, RestsIfNone, Fml, GName, RattleType, MutBor}
use Rattle.std.specs.declared.alloc.Allocator.{Ghosts}
use Rattle.quick_cache_containers.specs.LinkedSlab.{LinkedSlab, with_item}
use Rattle.quick_cache_containers.specs.declared.linked_slab.item.ItemMut.{ItemMut}
use Rattle.quick_cache_containers.specs.contracts.linked_slab.LinkedSlab.{the_row}

module _ {T A : Type 0} where
  -- the ghost name of the reference to the slab
  abbrev pub held_lender : ItemMut T A → GName
  held_lender held = held.slab.ghost_name

  -- the slab of the item
  abbrev pub held_slab : ItemMut T A → LinkedSlab T
  held_slab held = held.slab.now

  -- the token of the item
  abbrev pub held_token : ItemMut T A → ℕ
  held_token held = held.place

module _ (T A : RattleType) (alloc : Ghosts A.Denot) where
  -- once the borrow ends, the token has the last item written through it
  abbrev pub lends_item : MutBor (LinkedSlab T.Denot) → ℕ → MutBor T.Denot → Fml
  lends_item slab token r = Lends (the_row T A alloc) T slab r (with_item slab.now token)

  -- the same for the slab and the token of an item
  abbrev pub lends_held : ItemMut T.Denot A.Denot → MutBor T.Denot → Fml
  lends_held held = lends_item held.slab held.place

  -- with no item the slab stays as it is
  abbrev pub rests_if_free : MutBor (LinkedSlab T.Denot) → Option (ItemMut T.Denot A.Denot) → Fml
  rests_if_free slab r =
      RestsIfNone (the_row T A alloc) slab held_lender r (λ rest. rest ≡ slab.now)
