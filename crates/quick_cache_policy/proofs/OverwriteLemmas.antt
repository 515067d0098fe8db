-- A pair over a ghost, over a placeholder and over an item: the lists are the state that the write
-- leads to before room is made, but for the order of what has none, and stay sound.
use Rattle.std.proofs.Common.{◌≡◌, ℕ, ◌+◌, ◌≤◌, Bool, false, List, ◌∷◌, ◌++◌, length, None, refl, sym, ap, subst, ◌∙◌, arith}
use Rattle.std.specs.Cmp.{IsEquivalence}
use Rattle.std.specs.Int.NonZero.{non_zero_u32_get}
use Rattle.std.specs.declared.num.NonZeroU32.{NonZeroU32 as Token}
use Rattle.std.proofs.lemmas.List.{map-append}
use Rattle.quick_cache_model.specs.CacheState.{CacheState, Item, LoadingEntry, SameButOrder, UpToOrder, keys_by, entered as model_entered}
use Rattle.quick_cache_model.specs.declared.queue.Queue.{Queue}
use Rattle.quick_cache_model.specs.Finding.{IsLoadingAt, IsGhostAt, HasNoItem}
use Rattle.quick_cache_model.specs.Hooks.{Rules, HookCall}
use Rattle.quick_cache_model.specs.Eviction.{EvictsToCapacity}
use Rattle.quick_cache_model.specs.Touches.{first_mark}
use Rattle.quick_cache_model.specs.Writes.{Insert, WritesAdmitted, new_item}
use Rattle.quick_cache_model.proofs.Eviction.Keys.{keys_by-none}
use Rattle.quick_cache_model.proofs.OrderLaws.{EvictsToCapacity-reordered, UpToOrder-map, UpToOrder-reordered}
use Rattle.quick_cache_model.proofs.Valid.Edits.{entered-valid, without_ghost-valid, unloaded-valid, keys_by-unloaded, keys_by-taken}
use Rattle.quick_cache_model.proofs.Valid.Orders.{SameButOrder-valid}
use Rattle.std.specs.List.{AllByRecursion}
use Rattle.quick_cache_model.proofs.EachElement.{all-without}
use Rattle.quick_cache_model.specs.Removal.{pair_of}
use Rattle.quick_cache_model.specs.Fates.{residents}
use Rattle.quick_cache_model.specs.Leads.{Tells, TellsResidents, TellsBeside}
use Rattle.quick_cache_store.specs.declared.slots.entry.Entry.{Entry}
use Rattle.quick_cache_store.specs.Lists.{HeldItem, HeldLoading, HeldGhost, Lists, AreApart, StandsIn, Replaces, PutsLast, HasNoKey}
use Rattle.quick_cache_store.specs.Lists.{FindsLoading, entered, without_entry}
use Rattle.quick_cache_store.specs.Views.{hashes_of, loading_entry, loading_entries}
use Rattle.quick_cache_store.proofs.lists.StandingLemmas.{ghost-hash, loading-hash}
use Rattle.quick_cache_policy.specs.declared.contents.Contents.{Contents}
use Rattle.quick_cache_policy.specs.Contents.{AreHashed, IsSound, state_of}
use Rattle.quick_cache_policy.specs.Finding.{AreUnder, EntersAt, at_ghost, at_loading}
use Rattle.quick_cache_policy.proofs.SoundLemmas.{state_of-reordered, AreHashed-reordered}
use Rattle.quick_cache_policy.proofs.FindLemmas.{IsGhostAt-stands, IsLoadingAt-stands, HasNoKey-state, HasNoItem-loading}
use Rattle.quick_cache_policy.proofs.EnterLemmas.{state_with, entered-state, AreHashed-entered, AreHashed-room, entered-count}
use Rattle.quick_cache_policy.proofs.LookupLemmas.{without_ghost, without_loading}
use Rattle.quick_cache_policy.proofs.TellLemmas.{entered-tells}

-- ---- eviction goes on from the actual state

module _ {K V : Type 0} (rules : Rules K V) (mid state new : CacheState K V)
    (calls : List (HookCall K V)) (order : SameButOrder mid state) where
  -- and leads where it leads from the definition's one
  pub evicts-from : UpToOrder (EvictsToCapacity rules 0 state calls) new
      → UpToOrder (EvictsToCapacity rules 0 mid calls) new
  evicts-from up = UpToOrder-reordered (EvictsToCapacity rules 0 mid calls) up.ordered new up.same
      (EvictsToCapacity-reordered rules 0 mid state up.ordered calls order up.holds)

-- ---- an item that was put in place of a ghost or a placeholder

module _ {K V P W A T X : Type 0} (ticket_of : P → ℕ) (contents : Contents K V W A X P)
    (token : ℕ) (item : Item K V) (was : Entry K V P T) (new : Lists K V P)
    (replaces : Replaces contents.lists token false (Entry.Item item) was new)
    (others : Lists K V P) (next room : ℕ)
    (gone : without_entry false token contents.lists
    ≡ record others { next = next; room = room }) where
  -- the item is last, but for the order of what has none
  pub replaced-state : SameButOrder (model_entered item (state_with ticket_of contents others))
      (state_with ticket_of contents new)
  replaced-state =
      let put = subst (λ (l : Lists K V P). PutsLast {T = T} l token replaces.hash
      (Entry.Item item) new) gone replaces.last in
      subst (λ (s : CacheState K V). SameButOrder s (state_with ticket_of contents new))
      (entered-state ticket_of contents
      (record { token = token; hash = replaces.hash; item = item })
      (record others { next = next; room = room }))
      (state_of-reordered ticket_of contents _ new put.put)

  -- one item more stands in the rings, if it stands in one
  pub replaced-count : length new.hot + length new.cold
      ≤ length others.hot + length others.cold + 1
  replaced-count =
      let put = subst (λ (l : Lists K V P). PutsLast {T = T} l token replaces.hash
      (Entry.Item item) new) gone replaces.last in
      let held : HeldItem K V = record { token = token; hash = replaces.hash; item = item } in
      omega (
        arith,
        ap (λ (l : Lists K V P). length l.hot + length l.cold) put.put.same,
        entered-count held (record others { next = next; room = room }),
      )

  -- each key stays under its hash
  pub replaced-hashed : (hash : K → ℕ) → replaces.hash ≡ hash item.key → AreHashed hash others
      → AreHashed hash new
  replaced-hashed hash under hashed =
      let put = subst (λ (l : Lists K V P). PutsLast {T = T} l token replaces.hash
      (Entry.Item item) new) gone replaces.last in
      let held : HeldItem K V = record { token = token; hash = replaces.hash; item = item } in
      AreHashed-reordered hash _ new put.put
      (AreHashed-room hash new.next new.room (entered held
      (record others { next = next; room = room }))
      (AreHashed-entered hash held (record others { next = next; room = room }) under
      (AreHashed-room hash next room others hashed)))

-- An item came in under the key, and leads to the write once room is made.
pub record Entered {K V P W A X : Type 0} (ticket_of : P → ℕ) (contents : Contents K V W A X P)
    (equal : K → K → Bool) (rules : Rules K V) (key : K) (value : V) (new : Lists K V P)
    : Type 0 where
  pub absent : HasNoItem (equal key) (state_of ticket_of contents)
  pub sound : IsSound ticket_of equal rules.hash (record contents { lists = new })
  pub count : length new.hot + length new.cold
      ≤ length contents.lists.hot + length contents.lists.cold + 1
  pub writes : (last : CacheState K V) (calls : List (HookCall K V))
      → UpToOrder (EvictsToCapacity rules 0 (state_with ticket_of contents new) calls) last
      → UpToOrder (WritesAdmitted rules (equal key) key Insert (state_of ticket_of contents) value
      calls None) last
  pub tells : (last : CacheState K V) (calls : List (HookCall K V))
      → TellsResidents (state_with ticket_of contents new) calls last
      → TellsBeside key value (state_of ticket_of contents) calls None last

-- ---- over a ghost

module _ {K V P W A T X : Type 0} (ticket_of : P → ℕ) (contents : Contents K V W A X P)
    (apart : AreApart contents.lists) (equal : K → K → Bool) (laws : IsEquivalence equal)
    (rules : Rules K V) (key : K) (value : V) (token : ℕ)
    (under : AreUnder (equal key) (rules.hash key) contents.lists)
    (none : HasNoKey (equal key) (rules.hash key) contents.lists)
    (stands : StandsIn contents.lists.ghosts (record { token = token; hash = rules.hash key }))
    (item : Item K V) (was : Entry K V P T) (new : Lists K V P)
    (replaces : Replaces contents.lists token false (Entry.Item item) was new) where
  there : IsGhostAt (equal key) (rules.hash key) (state_of ticket_of contents)
      (hashes_of stands.before) (hashes_of stands.after)
  there = IsGhostAt-stands ticket_of (equal key) (rules.hash key) contents under none stands.before
      token stands.after stands.split

  over_ghost-state : SameButOrder (model_entered item (record (state_of ticket_of contents) {
    ghosts = hashes_of stands.before ++ hashes_of stands.after;
  })) (state_with ticket_of contents new)
  over_ghost-state = subst (λ (l : List ℕ). SameButOrder (model_entered item
      (record (state_of ticket_of contents) { ghosts = l })) (state_with ticket_of contents new))
      (map-append (λ (s : HeldGhost). s.hash) stands.before stands.after)
      (replaced-state ticket_of contents token item was new replaces
      (record contents.lists { ghosts = stands.before ++ stands.after }) token
      (contents.lists.room + 1)
      (without_ghost ticket_of contents apart (equal key) (rules.hash key) token stands))

  -- the write over the ghost
  over_ghost-writes : item ≡ new_item rules key value Queue.Hot 0 → (last : CacheState K V)
      (calls : List (HookCall K V))
      → UpToOrder (EvictsToCapacity rules 0 (state_with ticket_of contents new) calls) last
      → UpToOrder (WritesAdmitted rules (equal key) key Insert (state_of ticket_of contents) value
      calls None) last
  over_ghost-writes is last calls evicts =
      UpToOrder-map _ _ last
      (λ state e. WritesAdmitted.inserts_over_ghost (hashes_of stands.before)
      (hashes_of stands.after) calls state refl there
      (subst (λ (i : Item K V). EvictsToCapacity rules 0 (model_entered i
      (record (state_of ticket_of contents) {
        ghosts = hashes_of stands.before ++ hashes_of stands.after;
      })) calls state) is e))
      (evicts-from rules _ (state_with ticket_of contents new) last calls over_ghost-state evicts)

  -- what is told from there is told of the pair too
  over_ghost-tells : pair_of item ≡ (key, value) → (last : CacheState K V)
      (calls : List (HookCall K V))
      → TellsResidents (state_with ticket_of contents new) calls last
      → TellsBeside key value (state_of ticket_of contents) calls None last
  over_ghost-tells pair last calls tells =
      subst (λ (p : K × V). Tells (p ∷ residents (state_of ticket_of contents)) calls
      (residents last)) pair
      (entered-tells item (record (state_of ticket_of contents) {
        ghosts = hashes_of stands.before ++ hashes_of stands.after;
      }) (state_with ticket_of contents new) last calls over_ghost-state tells)

  -- the rings have one item more
  over_ghost-count : length new.hot + length new.cold
      ≤ length contents.lists.hot + length contents.lists.cold + 1
  over_ghost-count = replaced-count ticket_of contents token item was new replaces
      (record contents.lists { ghosts = stands.before ++ stands.after }) token
      (contents.lists.room + 1)
      (without_ghost ticket_of contents apart (equal key) (rules.hash key) token stands)

  -- the lists are sound before room is made
  over_ghost-sound : item.key ≡ key → item.mark ≡ 0
      → IsSound ticket_of equal rules.hash contents
      → IsSound ticket_of equal rules.hash (record contents { lists = new })
  over_ghost-sound same unmarked sound = record {
    valid = SameButOrder-valid equal _ (state_with ticket_of contents new) over_ghost-state
        (entered-valid equal laws item _
        (subst (λ k. keys_by (equal k) (state_of ticket_of contents) ≡ 0) (sym same)
        (keys_by-none (equal key) (state_of ticket_of contents) there.keys))
        (omega (arith, unmarked))
        (without_ghost-valid equal (hashes_of stands.before) (rules.hash key)
        (hashes_of stands.after) (state_of ticket_of contents) there.split sound.valid));
    sized = sound.sized;
    hashed = replaced-hashed ticket_of contents token item was new replaces
        (record contents.lists { ghosts = stands.before ++ stands.after }) token
        (contents.lists.room + 1)
        (without_ghost ticket_of contents apart (equal key) (rules.hash key) token stands)
        rules.hash
        (ghost-hash contents.lists apart token replaces.hash was replaces.taken
        (record { token = token; hash = rules.hash key }) stands refl
        ∙ ap rules.hash (sym same))
        (record {
          hot = sound.hashed.hot;
          cold = sound.hashed.cold;
          still = sound.hashed.still;
          loading = sound.hashed.loading;
        });
  }

  -- so much for the ghost
  over_ghost-enters : IsSound ticket_of equal rules.hash contents
      → item ≡ new_item rules key value Queue.Hot 0
      → Entered ticket_of contents equal rules key value new
  over_ghost-enters sound is = record {
    absent = (HasNoKey-state ticket_of (equal key) (rules.hash key) contents under none).items;
    sound = over_ghost-sound (ap (λ (i : Item K V). i.key) is) (ap (λ (i : Item K V). i.mark) is)
        sound;
    count = over_ghost-count;
    writes = over_ghost-writes is;
    tells = over_ghost-tells (ap pair_of is);
  }

-- ---- over a placeholder

module _ {K V P W A T X : Type 0} (ticket_of : P → ℕ) (contents : Contents K V W A X P)
    (apart : AreApart contents.lists) (equal : K → K → Bool) (laws : IsEquivalence equal)
    (rules : Rules K V) (key : K) (value : V) (token : ℕ)
    (found : FindsLoading (equal key) (rules.hash key) contents.lists token)
    (item : Item K V) (was : Entry K V P T) (new : Lists K V P)
    (replaces : Replaces contents.lists token false (Entry.Item item) was new) where
  waits : IsLoadingAt (equal key) (state_of ticket_of contents)
      (loading_entries ticket_of found.stands.before) (loading_entry ticket_of found.waiting)
      (loading_entries ticket_of found.stands.after)
  waits = IsLoadingAt-stands ticket_of (equal key) (rules.hash key) contents found.stands.before
      found.waiting found.stands.after found.stands.split found.passes

  over_loading-state : SameButOrder (model_entered item (record (state_of ticket_of contents) {
    loading = loading_entries ticket_of found.stands.before
        ++ loading_entries ticket_of found.stands.after;
  })) (state_with ticket_of contents new)
  over_loading-state = subst (λ (l : List (LoadingEntry K)). SameButOrder (model_entered item
      (record (state_of ticket_of contents) { loading = l })) (state_with ticket_of contents new))
      (map-append (loading_entry ticket_of) found.stands.before found.stands.after)
      (replaced-state ticket_of contents token item was new replaces
      (record contents.lists { loading = found.stands.before ++ found.stands.after })
      found.waiting.token (contents.lists.room + 1)
      (without_loading ticket_of contents apart (equal key) (rules.hash key) token found.waiting
      found.stands found.named))

  -- the write over the placeholder
  over_loading-writes : item ≡ new_item rules key value found.waiting.queue
      (first_mark contents.mark_cut)
      → (last : CacheState K V) (calls : List (HookCall K V))
      → UpToOrder (EvictsToCapacity rules 0 (state_with ticket_of contents new) calls) last
      → UpToOrder (WritesAdmitted rules (equal key) key Insert (state_of ticket_of contents) value
      calls None) last
  over_loading-writes is last calls evicts =
      UpToOrder-map _ _ last
      (λ state e. WritesAdmitted.inserts_over_loading
      (loading_entries ticket_of found.stands.before) (loading_entry ticket_of found.waiting)
      (loading_entries ticket_of found.stands.after) calls state refl waits
      (subst (λ (i : Item K V). EvictsToCapacity rules 0 (model_entered i
      (record (state_of ticket_of contents) {
        loading = loading_entries ticket_of found.stands.before
            ++ loading_entries ticket_of found.stands.after;
      })) calls state) is e))
      (evicts-from rules _ (state_with ticket_of contents new) last calls over_loading-state evicts)

  -- what is told from there is told of the pair too
  over_loading-tells : pair_of item ≡ (key, value) → (last : CacheState K V)
      (calls : List (HookCall K V))
      → TellsResidents (state_with ticket_of contents new) calls last
      → TellsBeside key value (state_of ticket_of contents) calls None last
  over_loading-tells pair last calls tells =
      subst (λ (p : K × V). Tells (p ∷ residents (state_of ticket_of contents)) calls
      (residents last)) pair
      (entered-tells item (record (state_of ticket_of contents) {
        loading = loading_entries ticket_of found.stands.before
            ++ loading_entries ticket_of found.stands.after;
      }) (state_with ticket_of contents new) last calls over_loading-state tells)

  -- the rings have one item more
  over_loading-count : length new.hot + length new.cold
      ≤ length contents.lists.hot + length contents.lists.cold + 1
  over_loading-count = replaced-count ticket_of contents token item was new replaces
      (record contents.lists { loading = found.stands.before ++ found.stands.after })
      found.waiting.token (contents.lists.room + 1)
      (without_loading ticket_of contents apart (equal key) (rules.hash key) token found.waiting
      found.stands found.named)

  -- the lists are sound before room is made
  over_loading-sound : item.key ≡ key → item.mark ≡ 1
      → IsSound ticket_of equal rules.hash contents
      → IsSound ticket_of equal rules.hash (record contents { lists = new })
  over_loading-sound same marked sound = record {
    valid = SameButOrder-valid equal _ (state_with ticket_of contents new) over_loading-state
        (entered-valid equal laws item _
        (subst (λ k. keys_by (equal k) (record (state_of ticket_of contents) {
          loading = loading_entries ticket_of found.stands.before
              ++ loading_entries ticket_of found.stands.after;
        }) ≡ 0) (sym same)
        (keys_by-taken equal laws key (state_of ticket_of contents)
        (record (state_of ticket_of contents) {
          loading = loading_entries ticket_of found.stands.before
              ++ loading_entries ticket_of found.stands.after;
        }) found.waiting.key found.passes
        (keys_by-unloaded (equal key) (loading_entries ticket_of found.stands.before)
        (loading_entry ticket_of found.waiting) (loading_entries ticket_of found.stands.after)
        (state_of ticket_of contents) waits.split) sound.valid))
        (omega (arith, marked, sound.sized.some_mark))
        (unloaded-valid equal (loading_entries ticket_of found.stands.before)
        (loading_entry ticket_of found.waiting) (loading_entries ticket_of found.stands.after)
        (state_of ticket_of contents) waits.split sound.valid));
    sized = sound.sized;
    hashed = replaced-hashed ticket_of contents token item was new replaces
        (record contents.lists { loading = found.stands.before ++ found.stands.after })
        found.waiting.token (contents.lists.room + 1)
        (without_loading ticket_of contents apart (equal key) (rules.hash key) token found.waiting
        found.stands found.named)
        rules.hash
        (loading-hash contents.lists apart token replaces.hash was replaces.taken found.waiting
        found.stands found.named ∙ found.hashed ∙ ap rules.hash (sym same))
        (record {
          hot = sound.hashed.hot;
          cold = sound.hashed.cold;
          still = sound.hashed.still;
          loading = all-without (λ (w : HeldLoading K P). w.hash ≡ rules.hash w.key)
              found.stands.before found.waiting found.stands.after
              (subst (λ (l : List (HeldLoading K P)). AllByRecursion
              (λ w. w.hash ≡ rules.hash w.key) l) found.stands.split sound.hashed.loading);
        });
  }

  -- so much for the placeholder
  over_loading-enters : IsSound ticket_of equal rules.hash contents
      → item ≡ new_item rules key value found.waiting.queue 1
      → Entered ticket_of contents equal rules key value new
  over_loading-enters sound is = record {
    absent = HasNoItem-loading (equal key) (state_of ticket_of contents) _ _ _
        (sound.valid.one_entry_a_key key) waits;
    sound = over_loading-sound (ap (λ (i : Item K V). i.key) is)
        (ap (λ (i : Item K V). i.mark) is) sound;
    count = over_loading-count;
    writes = over_loading-writes (is ∙ (λ i. new_item rules key value found.waiting.queue
        (first sound.sized.some_mark i)));
    tells = over_loading-tells (ap pair_of is);
  }
    where
      first : 1 ≤ contents.mark_cut → 1 ≡ first_mark contents.mark_cut
      first some = omega (arith, some)

-- ---- over either

-- an item that came in as a pair does, at a token
pub EntersAt-enters : {K V P W A T X : Type 0} (ticket_of : P → ℕ) (contents : Contents K V W A X P)
    (apart : AreApart contents.lists) (equal : K → K → Bool) (laws : IsEquivalence equal)
    (rules : Rules K V) (key : K) (value : V) (token : Token) (queue : Queue) (mark : ℕ)
    → AreUnder (equal key) (rules.hash key) contents.lists
    → EntersAt (equal key) (rules.hash key) contents.lists token queue mark
    → (item : Item K V) (was : Entry K V P T) (new : Lists K V P)
    → Replaces contents.lists (non_zero_u32_get token) false (Entry.Item item) was new
    → IsSound ticket_of equal rules.hash contents → item ≡ new_item rules key value queue mark
    → Entered ticket_of contents equal rules key value new
EntersAt-enters ticket_of contents apart equal laws rules key value token queue mark under
    (at_ghost found hot none) item was new replaces sound is =
    over_ghost-enters ticket_of contents apart equal laws rules key value (non_zero_u32_get token)
    under found.0 found.1 item was new replaces sound
    (is ∙ (λ i. new_item rules key value (hot i) (none i)))
EntersAt-enters ticket_of contents apart equal laws rules key value token queue mark under
    (at_loading found same one) item was new replaces sound is =
    over_loading-enters ticket_of contents apart equal laws rules key value (non_zero_u32_get token)
    found item was new replaces sound
    (is ∙ (λ i. new_item rules key value (same i) (one i)))
