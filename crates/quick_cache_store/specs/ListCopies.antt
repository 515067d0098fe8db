-- Copies of what the lists have: clones stand in for keys and values.
use Rattle.std.specs.Prelude.{◌≡◌, ℕ}
use Rattle.std.specs.List.{AllZip}
pub use Rattle.quick_cache_store.specs.Copies.{IsItemCopy, IsAwaitedCopy, IsEntryCopy, IsSlotCopy}
use Rattle.quick_cache_store.specs.Lists.{HeldItem, HeldLoading, Lists}

module _ {K V P : Type 0} (clones_key : K → K → Type 0) (clones_value : V → V → Type 0)
    (hash_of : K → ℕ) (shares : P → P → Type 0) where
  -- a copy of the item under its token, and under the hash of the copy's key
  pub record IsHeldCopy (held copy : HeldItem K V) : Type 0 where
    pub token : copy.token ≡ held.token
    pub hash : copy.hash ≡ hash_of copy.item.key
    pub item : IsItemCopy clones_key clones_value held.item copy.item

  -- the same of a key that is being loaded
  pub record IsWaitingCopy (waiting copy : HeldLoading K P) : Type 0 where
    pub token : copy.token ≡ waiting.token
    pub hash : copy.hash ≡ hash_of copy.key
    pub key : clones_key waiting.key copy.key
    pub queue : copy.queue ≡ waiting.queue
    pub placeholder : shares waiting.placeholder copy.placeholder

  -- copies of the items and of the keys that are being loaded, in their order; and the same ghosts
  pub record AreCopies (lists copy : Lists K V P) : Type 0 where
    pub hot : AllZip IsHeldCopy lists.hot copy.hot
    pub cold : AllZip IsHeldCopy lists.cold copy.cold
    pub still : AllZip IsHeldCopy lists.still copy.still
    pub loading : AllZip IsWaitingCopy lists.loading copy.loading
    pub ghosts : copy.ghosts ≡ lists.ghosts
    pub next : copy.next ≡ lists.next
