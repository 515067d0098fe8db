-- What a `Pool` ends as, where a `&mut` to one of its items is returned.
use Rattle.std.specs.Prelude.{ℕ}
use Rattle.std.specs.Borrow.{Lends, Fml, RattleType, MutBor}
use Rattle.std.specs.declared.alloc.Allocator.{Ghosts}
use Rattle.quick_cache_store.specs.Pool.{Pool, with_item}
use Rattle.quick_cache_store.specs.declared.pool.blank.Blank.{Ghosts as Blanks}
use Rattle.quick_cache_store.specs.contracts.pool.Pool.{the_row}

module _ (T A : RattleType) (blanks : Blanks T.Denot) (alloc : Ghosts A.Denot) where
  -- once the borrow ends, the token has the last item written through it
  abbrev pub lends_item : MutBor (Pool T.Denot) → ℕ → MutBor T.Denot → Fml
  lends_item pool token r = Lends (the_row T A blanks alloc) T pool r (with_item pool.now token)
