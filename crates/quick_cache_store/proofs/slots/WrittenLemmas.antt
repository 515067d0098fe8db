-- A write to the entry of a token and to what stands beside it, in the pool of whole slots.
use Rattle.std.proofs.Common.{◌≡◌, ℕ, zero, suc, ◌+◌, ◌<◌, ◌≤◌, min, length, List, [], ◌∷◌, Option, Some, None, IsSome, is_some, get_or}
use Rattle.std.proofs.Common.{set, refl, sym, ap, subst, ◌∙◌, arith}
use Rattle.std.proofs.lemmas.List.{get_or_read, get_or_default, set-get_or, set-set}
use Rattle.quick_cache_store.proofs.pool.AtTokens.{with_token-suc, at_token-suc, at_token-with_same}
use Rattle.quick_cache_store.specs.Pool.{Pool, at_token, with_token, item_at, IsOccupied, with_item}
use Rattle.quick_cache_model.specs.CacheState.{Item}
use Rattle.quick_cache_store.specs.declared.slots.beside.Beside.{Beside}
use Rattle.quick_cache_store.specs.declared.slots.entry.Awaited.{Awaited}
use Rattle.quick_cache_store.specs.declared.slots.entry.Entry.{Entry}
use Rattle.quick_cache_store.specs.declared.slots.entry.Slot.{Slot}
use Rattle.quick_cache_store.specs.declared.slots.stored.StoredEntry.{StoredEntry}
use Rattle.quick_cache_store.specs.Joined.{joined_slot, joined_slots, joined, AreBeside}
use Rattle.quick_cache_store.specs.Items.{with_mark, with_value}
use Rattle.quick_cache_store.specs.Slots.{HasItem, HasLoading, HasEntry, HasValue, slot_changed}
use Rattle.quick_cache_store.specs.Lent.{IsStoredValue}
use Rattle.quick_cache_store.specs.Shown.{HoldsOfItem, MayBeShown, MayBeShownSlot, ShowsStored, ShowsSlot}
use Rattle.quick_cache_model.specs.Callbacks.{Leaves}
use denote.Ref.{Bor, MutBor}
use denote.Param.Members.{Mut}
use Rattle.quick_cache_store.specs.Stored.{slot_of, entry_of, item_of_body, entry_with_value, IsItem, IsAwaited}
use Rattle.quick_cache_store.specs.Walks.{no_aside}
use Rattle.quick_cache_store.specs.Writes.{Writes, changed_at, changed_to}
use Rattle.quick_cache_store.proofs.slots.JoinedLemmas.{item_at-joined, occupied-apart, occupied-within}

-- there is something where there is this
IsSome-some : {X : Type 0} (o : Option X) (x : X) → o ≡ Some x → IsSome o
IsSome-some o x is = ap is_some is

-- a list with what stands at a token written there is the same
with_token-same : {X : Type 0} (xs : List X) (t : ℕ) (d : X) → with_token xs t (at_token xs t d) ≡ xs
with_token-same xs zero d = refl
with_token-same xs (suc i) d = set-get_or xs i d

-- the item that a pool has at a token, written there, changes nothing
with_item-same : {X : Type 0} (pool : Pool X) (t : ℕ) (x : X) → item_at pool t ≡ Some x
    → with_item pool t x ≡ pool
with_item-same pool t x is = λ i. record {
  slots = (ap (with_token pool.slots t) (sym is) ∙ with_token-same pool.slots t None) i;
  free = pool.free;
  room = pool.room;
}

module _ {K V P T : Type 0} where
  -- ---- what stands at the token before the write

  -- the slot of an occupied token, of its entry and of what stands beside it
  pub slot-joined : (pool : Pool (StoredEntry K V P T)) (asides : List Beside) (left t : ℕ)
      (stored : StoredEntry K V P T) (aside : Beside)
      → AreBeside pool asides → item_at pool t ≡ Some stored → at_token asides t no_aside ≡ aside
      → item_at (joined pool asides left) t ≡ Some (slot_of stored aside)
  slot-joined pool asides left t stored aside beside at here =
      item_at-joined pool asides left t beside
      ∙ ap (λ (o : Option (StoredEntry K V P T)). joined_slot o (at_token asides t no_aside)) at
      ∙ ap (λ (a : Beside). Some (slot_of stored a)) here

  -- an entry that stands for an item is one that is stored
  IsItem-entry : (stored : StoredEntry K V P T) (aside : Beside) (item : Item K V)
      → entry_of stored aside ≡ Entry.Item item → IsItem stored
  IsItem-entry (StoredEntry.Item head body) aside item is = tt
  IsItem-entry (StoredEntry.Loading queue key placeholder) aside item is = absurd (cc)
  IsItem-entry (StoredEntry.Ghost note) aside item is = absurd (cc)

  -- an entry that stands for a key that is being loaded is one that is stored
  IsAwaited-entry : (stored : StoredEntry K V P T) (aside : Beside) (awaited : Awaited K P)
      → entry_of stored aside ≡ Entry.Loading awaited → IsAwaited stored
  IsAwaited-entry (StoredEntry.Item head body) aside awaited is = absurd (cc)
  IsAwaited-entry (StoredEntry.Loading queue key placeholder) aside awaited is = tt
  IsAwaited-entry (StoredEntry.Ghost note) aside awaited is = absurd (cc)

  -- two slots of one token have one entry
  entry-same : (slot other : Slot K V P T) (o : Option (Slot K V P T)) → o ≡ Some slot
      → o ≡ Some other → slot.entry ≡ other.entry
  entry-same slot other o is too =
      let same : slot ≡ other = cc in ap (λ (s : Slot K V P T). s.entry) same

  module _ (pool : Pool (StoredEntry K V P T)) (asides : List Beside) (left t : ℕ)
      (whole : Pool (Slot K V P T)) (beside : AreBeside pool asides)
      (is : joined pool asides left ≡ whole) where
    -- a token that is occupied in the pool of whole slots is so where the entries are stored
    pub occupied-stored : IsOccupied whole t → IsOccupied pool t
    occupied-stored some = occupied-apart pool asides left t beside
        (subst (λ (w : Pool (Slot K V P T)). IsOccupied w t) (sym is) some)

    -- the token of an item is occupied
    pub item-occupied : HasItem whole t → IsOccupied pool t
    item-occupied has = occupied-stored (IsSome-some _ _ has.2)

    -- and so is that of a key that is being loaded
    pub loading-occupied : HasLoading whole t → IsOccupied pool t
    loading-occupied has = occupied-stored (IsSome-some _ _ has.2)

    -- the slot of the token, in the pool of whole slots
    slot-whole : (stored : StoredEntry K V P T) → item_at pool t ≡ Some stored
        → item_at whole t ≡ Some (slot_of stored (at_token asides t no_aside))
    slot-whole stored at = subst (λ (w : Pool (Slot K V P T)). item_at w t
        ≡ Some (slot_of stored (at_token asides t no_aside))) is
        (slot-joined pool asides left t stored (at_token asides t no_aside) beside at refl)

    -- an item is stored where the slot has one
    pub item-stored : (stored : StoredEntry K V P T) → HasItem whole t
        → item_at pool t ≡ Some stored → IsItem stored
    item-stored stored has at =
        let aside = at_token asides t no_aside in
        IsItem-entry stored aside has.1 (entry-same (slot_of stored aside) _ (item_at whole t)
        (slot-whole stored at) has.2)

    -- a callback that may be called at the item of the slot may be at the one that is stored
    module _ {F R : Type 0}
        (calls : Mut F (Bor K × (MutBor V × Unit {0})) (R × (MutBor V × Unit {0})))
        (callback : F) (may : MayBeShownSlot calls callback whole t) where
      may-be-shown : (stored : StoredEntry K V P T) (aside : Beside) → IsItem stored
          → item_at whole t ≡ Some (slot_of stored aside)
          → HoldsOfItem stored (MayBeShown calls callback)
      may-be-shown (StoredEntry.Item head body) aside item has =
          may aside.aside.hash (item_of_body head body aside) has
      may-be-shown (StoredEntry.Loading queue key placeholder) aside item has = absurd item
      may-be-shown (StoredEntry.Ghost note) aside item has = absurd item

      pub shown-stored : (stored : StoredEntry K V P T) → HasItem whole t
          → item_at pool t ≡ Some stored → HoldsOfItem stored (MayBeShown calls callback)
      shown-stored stored has at =
          may-be-shown stored (at_token asides t no_aside) (item-stored stored has at)
          (slot-whole stored at)

    -- and a key that is being loaded where the slot has one
    pub loading-stored : (stored : StoredEntry K V P T) → HasLoading whole t
        → item_at pool t ≡ Some stored → IsAwaited stored
    loading-stored stored has at =
        let aside = at_token asides t no_aside in
        IsAwaited-entry stored aside has.1 (entry-same (slot_of stored aside) _ (item_at whole t)
        (slot-whole stored at) has.2)

  -- the entry of the slot, as an answer tells it
  pub entry-joined : (pool : Pool (StoredEntry K V P T)) (asides : List Beside) (left t : ℕ)
      (stored : StoredEntry K V P T) (aside : Beside) (entry : Entry K V P T)
      → AreBeside pool asides → item_at pool t ≡ Some stored → at_token asides t no_aside ≡ aside
      → entry_of stored aside ≡ entry → HasEntry (joined pool asides left) t entry
  entry-joined pool asides left t stored aside entry beside at here is = (
    aside.aside.hash,
    slot-joined pool asides left t stored aside beside at here
        ∙ ap (λ (e : Entry K V P T). Some (record { hash = aside.aside.hash; entry = e })) is,
  )

  -- what indexing gives at the place of an occupied token stands beside its slot
  pub aside-read : (pool : Pool (StoredEntry K V P T)) (asides : List Beside) (t i : ℕ)
      (stored : StoredEntry K V P T) (aside : Beside)
      → AreBeside pool asides → item_at pool t ≡ Some stored → i + 1 ≡ t
      → aside ≡ get_or asides i aside → at_token asides t no_aside ≡ aside
  aside-read pool asides t i stored aside beside at place read =
      let within = occupied-within pool asides t beside (IsSome-some _ _ at) in
      let high = within.1 in
      at_token-suc asides t i no_aside place
      ∙ sym (get_or_read asides i aside (omega arith) read no_aside)

  -- ---- the slots after the write

  -- the same at a place
  set-joined : (slots : List (Option (StoredEntry K V P T))) (asides : List Beside) (i : ℕ)
      (stored : StoredEntry K V P T) (aside : Beside)
      → joined_slots (set slots i (Some stored)) (set asides i aside)
      ≡ set (joined_slots slots asides) i (Some (slot_of stored aside))
  set-joined [] asides i stored aside = refl
  set-joined (s ∷ slots) [] zero stored aside = refl
  set-joined (s ∷ slots) [] (suc i) stored aside = refl
  set-joined (s ∷ slots) (a ∷ asides) zero stored aside = refl
  set-joined (s ∷ slots) (a ∷ asides) (suc i) stored aside =
      ap (λ xs. joined_slot s a ∷ xs) (set-joined slots asides i stored aside)

  -- the slots with another entry at a token and another thing beside it
  pub with_token-joined : (slots : List (Option (StoredEntry K V P T))) (asides : List Beside)
      (t : ℕ) (stored : StoredEntry K V P T) (aside : Beside)
      → joined_slots (with_token slots t (Some stored)) (with_token asides t aside)
      ≡ with_token (joined_slots slots asides) t (Some (slot_of stored aside))
  with_token-joined slots asides zero stored aside = refl
  with_token-joined slots asides (suc i) stored aside = set-joined slots asides i stored aside

  -- the pool of whole slots is written at that token, and nowhere else
  pub with_item-joined : (pool : Pool (StoredEntry K V P T)) (asides : List Beside)
      (left t : ℕ) (stored : StoredEntry K V P T) (aside : Beside)
      → joined (with_item pool t stored) (with_token asides t aside) left
      ≡ with_item (joined pool asides left) t (slot_of stored aside)
  with_item-joined pool asides left t stored aside = λ i. record {
    slots = with_token-joined pool.slots asides t stored aside i;
    free = pool.free;
    room = min pool.room left;
  }

  module _ (pool : Pool (StoredEntry K V P T)) (asides : List Beside) (left t : ℕ)
      (stored : StoredEntry K V P T) (beside : AreBeside pool asides)
      (at : item_at pool t ≡ Some stored) (change : Slot K V P T → Slot K V P T) where
    -- the write of an entry and of what stands beside it, at the place of the token
    pub Writes-both : (i : ℕ) → i + 1 ≡ t → (aside : Beside) → aside ≡ get_or asides i aside
        → (new : StoredEntry K V P T) (new_aside : Beside)
        → slot_of new new_aside ≡ change (slot_of stored aside)
        → Writes (joined pool asides left) (joined (with_item pool t new) (set asides i new_aside) left)
        t change
    Writes-both i place aside read new new_aside is =
        record {
          slot = slot_of stored aside;
          was = slot-joined pool asides left t stored aside beside at
              (aside-read pool asides t i stored aside beside at place read);
          is = ap (λ xs. joined (with_item pool t new) xs left) (sym (with_token-suc asides t i new_aside place))
              ∙ with_item-joined pool asides left t new new_aside
              ∙ ap (λ (s : Slot K V P T). with_item (joined pool asides left) t s) is;
        }

    -- the write of an entry alone
    pub Writes-entry : (new : StoredEntry K V P T)
        → ((aside : Beside) → slot_of new aside ≡ change (slot_of stored aside))
        → Writes (joined pool asides left) (joined (with_item pool t new) asides left) t change
    Writes-entry new is =
        let aside = at_token asides t no_aside in
        record {
          slot = slot_of stored aside;
          was = slot-joined pool asides left t stored aside beside at refl;
          is = ap (λ xs. joined (with_item pool t new) xs left) (sym (with_token-same asides t no_aside))
              ∙ with_item-joined pool asides left t new aside
              ∙ ap (λ (s : Slot K V P T). with_item (joined pool asides left) t s) (is aside);
        }

  -- ---- a mark alone

  slot_of-mark : (stored : StoredEntry K V P T) (beside : Beside) (mark : ℕ)
      → slot_of stored (record beside { mark = mark })
      ≡ slot_changed (with_mark mark) (slot_of stored beside)
  slot_of-mark (StoredEntry.Item head body) beside mark = refl
  slot_of-mark (StoredEntry.Loading queue key placeholder) beside mark = refl
  slot_of-mark (StoredEntry.Ghost note) beside mark = refl

  stored-some : (o : Option (StoredEntry K V P T)) → IsSome o
      → (stored : StoredEntry K V P T) × (o ≡ Some stored)
  stored-some None some = absurd (cc)
  stored-some (Some stored) some = (stored, refl)

  module _ (pool : Pool (StoredEntry K V P T)) (asides : List Beside) (left t i : ℕ)
      (beside : AreBeside pool asides) (place : i + 1 ≡ t) (occupied : IsOccupied pool t) where
    pub place-within : i < length asides
    place-within =
        let within = occupied-within pool asides t beside occupied in
        let high = within.1 in
        omega arith

    -- what stands beside the slot of the token
    abbrev pub beside_token : Beside
    beside_token = at_token asides t no_aside

    pub beside_token-read : at_token asides t no_aside
        ≡ get_or asides i (at_token asides t no_aside)
    beside_token-read =
        let read = at_token-suc asides t i no_aside place in
        read ∙ get_or_default asides i no_aside (at_token asides t no_aside) place-within

    pub Writes-mark : (mark : ℕ) → Writes (joined pool asides left)
        (joined pool (set asides i (record beside_token { mark = mark })) left) t
        (slot_changed (with_mark mark))
    Writes-mark mark =
        let some = stored-some (item_at pool t) occupied in
        let write = Writes-both pool asides left t some.0 beside some.1
        (slot_changed (with_mark mark)) i place beside_token beside_token-read some.0
        (record beside_token { mark = mark }) (slot_of-mark some.0 beside_token mark) in
        subst (λ (s : Pool (StoredEntry K V P T)). Writes (joined pool asides left)
        (joined s (set asides i (record beside_token { mark = mark })) left) t
        (slot_changed (with_mark mark))) (with_item-same pool t some.0 some.1) write

  -- ---- two writes to one item

  with_item-twice : (pool : Pool (Slot K V P T)) (t : ℕ) (x y : Slot K V P T)
      → with_item (with_item pool t x) t y ≡ with_item pool t y
  with_item-twice pool zero x y = refl
  with_item-twice pool (suc i) x y =
      λ k. record pool { slots = set-set pool.slots i (Some x) (Some y) k }

  item-within : (slots : List (Option (Slot K V P T))) (t : ℕ) (x : Slot K V P T)
      → at_token slots t None ≡ Some x → (0 < t) × (t ≤ length slots)
  item-within slots zero x is = absurd (cc)
  item-within [] (suc i) x is = absurd (cc)
  item-within (slot ∷ slots) (suc zero) x is = (omega arith, omega arith)
  item-within (slot ∷ slots) (suc (suc i)) x is =
      let rest = item-within slots (suc i) x is in
      let high = rest.1 in
      (omega arith, omega arith)

  changed-item : (o : Option (Slot K V P T)) (slot : Slot K V P T) (hash : ℕ) (item : Item K V)
      (change : Item K V → Item K V) → o ≡ Some slot
      → o ≡ Some (record { hash = hash; entry = Entry.Item item })
      → slot_changed change slot ≡ record { hash = hash; entry = Entry.Item (change item) }
  changed-item o slot hash item change is has =
      let same : slot ≡ record { hash = hash; entry = Entry.Item item } = cc in
      ap (slot_changed change) same

  module _ (old mid : Pool (Slot K V P T)) (t : ℕ) (first : Item K V → Item K V)
      (has : HasItem old t) (writes : Writes old mid t (slot_changed first)) where
    changed-is : slot_changed first writes.slot
        ≡ record { hash = has.0; entry = Entry.Item (first has.1) }
    changed-is = changed-item (item_at old t) writes.slot has.0 has.1 first writes.was has.2

    here-is : item_at mid t ≡ Some (record { hash = has.0; entry = Entry.Item (first has.1) })
    here-is =
        let within = item-within old.slots t _ has.2 in
        ap (λ (s : Pool (Slot K V P T)). item_at s t) writes.is
        ∙ at_token-with_same old.slots t _ None within.0 within.1
        ∙ ap (λ (s : Slot K V P T). Some s) changed-is

    -- an item that is written is one still
    pub HasItem-written : HasItem mid t
    HasItem-written = (has.0, first has.1, here-is)

    -- and a second write is one of both
    pub Writes-twice : (new : Pool (Slot K V P T)) (second : Item K V → Item K V)
        → Writes mid new t (slot_changed second)
        → Writes old new t (slot_changed (λ item. second (first item)))
    Writes-twice new second again =
        let last = changed-item (item_at mid t) again.slot has.0 (first has.1) second again.was
        here-is in
        let both = changed-item (item_at old t) writes.slot has.0 has.1
        (λ item. second (first item)) writes.was has.2 in
        record {
          slot = writes.slot;
          was = writes.was;
          is = again.is
              ∙ ap (λ (s : Pool (Slot K V P T)). with_item s t
              (slot_changed second again.slot)) writes.is
              ∙ with_item-twice old t (slot_changed first writes.slot)
              (slot_changed second again.slot)
              ∙ ap (with_item old t) (last ∙ sym both);
        }

  -- ---- what else a write makes of the slot

  module _ (pool : Pool (StoredEntry K V P T)) (asides : List Beside) (left t : ℕ)
      (stored : StoredEntry K V P T) (beside : AreBeside pool asides)
      (at : item_at pool t ≡ Some stored) where
    -- an entry that stands for the same slot changes nothing
    pub unwritten : (new : StoredEntry K V P T)
        → ((aside : Beside) → slot_of new aside ≡ slot_of stored aside)
        → joined (with_item pool t new) asides left ≡ joined pool asides left
    unwritten new is =
        let whole = joined pool asides left in
        let write = Writes-entry pool asides left t stored beside at (λ s. s) new is in
        write.is ∙ with_item-same whole t write.slot write.was

    -- the slot of a stored entry with another value has that value
    slot_of-with_value : (value : V) (stored : StoredEntry K V P T) (aside : Beside)
        → slot_of (entry_with_value value stored) aside
        ≡ slot_changed (with_value value) (slot_of stored aside)
    slot_of-with_value value (StoredEntry.Item head body) aside = refl
    slot_of-with_value value (StoredEntry.Loading queue key placeholder) aside = refl
    slot_of-with_value value (StoredEntry.Ghost note) aside = refl

    -- another value of the stored entry is one of the slot
    pub value-written : (value : V)
        → joined (with_item pool t (entry_with_value value stored)) asides left
        ≡ changed_at (slot_changed (with_value value)) t (joined pool asides left)
    value-written value =
        let whole = joined pool asides left in
        let change = slot_changed {P = P} {T = T} (with_value {K = K} value) in
        let write = Writes-entry pool asides left t stored beside at change
        (entry_with_value value stored) (slot_of-with_value value stored) in
        write.is ∙ ap (λ (o : Option (Slot K V P T)). changed_to change t o whole) (sym write.was)

    -- an item that is shown where it is stored is shown in its slot
    module _ {F R : Type 0}
        (calls : Mut F (Bor K × (MutBor V × Unit {0})) (R × (MutBor V × Unit {0})))
        (callback : F) (answer : R) (next : F) where
      shown-in : (entry : StoredEntry K V P T) (aside : Beside) (value : V)
          (new : Pool (Slot K V P T))
          → HoldsOfItem entry (λ k v. Leaves calls callback k v answer next value)
          → item_at (joined pool asides left) t ≡ Some (slot_of entry aside)
          → Writes (joined pool asides left) new t (slot_changed (with_value value))
          → ShowsSlot calls callback (joined pool asides left) t answer next new
      shown-in (StoredEntry.Item head body) aside value new called has writes = record {
        hash = aside.aside.hash;
        item = item_of_body head body aside;
        at = has;
        left = value;
        called = called;
        writes = writes;
      }
      shown-in (StoredEntry.Loading queue key placeholder) aside value new called has writes =
          absurd called
      shown-in (StoredEntry.Ghost note) aside value new called has writes = absurd called

      pub shown-joined : (new : StoredEntry K V P T)
          → ShowsStored calls callback stored answer next new
          → ShowsSlot calls callback (joined pool asides left) t answer next
          (joined (with_item pool t new) asides left)
      shown-joined new shows =
          let aside = at_token asides t no_aside in
          shown-in stored aside shows.left (joined (with_item pool t new) asides left) shows.called
          (slot-joined pool asides left t stored aside beside at refl)
          (Writes-entry pool asides left t stored beside at
          (slot_changed {P = P} {T = T} (with_value {K = K} shows.left)) new
          (λ a. ap (λ (e : StoredEntry K V P T). slot_of e a) shows.rest
          ∙ slot_of-with_value shows.left stored a))

    -- the value of a stored entry is that of its slot
    has-value : (entry : StoredEntry K V P T) (aside : Beside) (value : V)
        → IsStoredValue entry value
        → item_at (joined pool asides left) t ≡ Some (slot_of entry aside)
        → HasValue (joined pool asides left) t value
    has-value (StoredEntry.Item head body) aside value is has =
        (aside.aside.hash, item_of_body head body aside, has, is)
    has-value (StoredEntry.Loading queue key placeholder) aside value is has = absurd is
    has-value (StoredEntry.Ghost note) aside value is has = absurd is

    -- the value of the stored entry is that of the slot
    pub value-joined : (value : V) → IsStoredValue stored value
        → HasValue (joined pool asides left) t value
    value-joined value is =
        let aside = at_token asides t no_aside in
        has-value stored aside value is
        (slot-joined pool asides left t stored aside beside at refl)
