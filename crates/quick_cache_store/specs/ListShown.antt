-- A call that shows an item to a callback of the caller's, which may write its value.
use Rattle.std.specs.Prelude.{◌≡◌, ℕ}
use denote.Ref.{Bor, MutBor}
use denote.Param.Members.{Mut}
use Rattle.quick_cache_model.specs.CacheState.{Item}
use Rattle.quick_cache_model.specs.Callbacks.{Leaves}
pub use Rattle.quick_cache_store.specs.Shown.{MayBeShown}
use Rattle.quick_cache_store.specs.Lists.{Lists, IsItemOf, with_change, with_value}

module _ {F K V R : Type 0}
    (calls : Mut F (Bor K × (MutBor V × Unit {0})) (R × (MutBor V × Unit {0}))) where
  -- the callback, as it is now, may be called at the item of the token
  abbrev pub MayBeShownItem : {P : Type 0} → F → Lists K V P → (token : ℕ) → Type 0
  MayBeShownItem callback lists token = (item : Item K V) → IsItemOf lists token item
      → MayBeShown calls callback item.key item.value

  -- the item of the token was shown, and has the value that was left
  pub record ShowsItem {P : Type 0} (callback : F) (old : Lists K V P) (token : ℕ) (answer : R)
      (next : F) (new : Lists K V P) : Type 0 where
    pub item : Item K V
    pub stood : IsItemOf old token item
    pub left : V
    pub called : Leaves calls callback item.key item.value answer next left
    pub rest : new ≡ with_change token (with_value left) old
