-- A key that is being loaded, which becomes that of an item.
use Rattle.std.specs.Prelude.{◌≡◌, ℕ, false}
pub use Rattle.quick_cache_store.specs.Items.{filled}
use Rattle.quick_cache_model.specs.CacheState.{Item}
use Rattle.quick_cache_store.specs.declared.slots.entry.Awaited.{Awaited}
use Rattle.quick_cache_store.specs.Lists.{Lists, StandsIn, PutsItem, without_entry}

-- The key that was being loaded under that token became that of an item, which was put last under
-- the same token and hash. The room and the next token stay.
pub record FillsToken {K V P : Type 0} (old : Lists K V P) (token : ℕ) (item : K → Item K V)
    (new : Lists K V P) : Type 0 where
  pub hash : ℕ
  pub awaited : Awaited K P
  pub taken : StandsIn old.loading (record {
    token = token;
    hash = hash;
    key = awaited.key;
    queue = awaited.queue;
    placeholder = awaited.placeholder;
  })
  pub last : PutsItem (without_entry false token old) token hash (item awaited.key) new
  pub room : new.room ≡ old.room
  pub next : new.next ≡ old.next
