-- The lists once an entry was taken out.
use Rattle.std.proofs.Common.{◌≡◌, ◌≢◌, ◌⊎◌, ℕ, ◌+◌, ◌==◌, if◌then◌else◌, Bool, true, false, length, Option, Some, None, IsSome, refl, sym}
use Rattle.std.proofs.Common.{ap, ◌∙◌, inl, inr}
use Rattle.quick_cache_model.specs.CacheState.{Place, InHot, InCold, InStill}
use Rattle.quick_cache_store.specs.Pool.{Pool, item_at, next_token, IsOccupied}
use Rattle.quick_cache_index.specs.Index.{Index}
use Rattle.quick_cache_model.specs.declared.queue.Queue.{Queue}
use Rattle.quick_cache_store.specs.Rings.{Ring, Rings, IsLeft, LeavesRingOf}
use Rattle.quick_cache_store.specs.declared.slots.entry.Entry.{Entry}
use Rattle.quick_cache_store.specs.declared.slots.entry.Slot.{Slot}
use Rattle.quick_cache_store.specs.Frames.{IsRemoved}
use Rattle.quick_cache_store.specs.Lists.{HeldItem, HeldLoading, HeldGhost, items_at, StandsIn, HasEntry, IsEntry, left_by, without_entry}
use Rattle.quick_cache_store.specs.ListSlots.{Stand, AmongHot, AmongCold, AmongStill, AmongLoading, AmongGhosts, ring_stand, stand_of}
use Rattle.quick_cache_store.specs.ListSlots.{weight_at, item_of, still_of, loading_of, ghost_of}
use Rattle.quick_cache_store.specs.Sound.{gather, upto, lists_of, room_of, IsRingOf, IsStanding}
use Rattle.quick_cache_store.proofs.lists.GatherLemmas.{gather-from}
use Rattle.quick_cache_store.proofs.lists.FindLemmas.{held_still}
use Rattle.quick_cache_store.proofs.lists.StandLemmas.{HasItem-from, StandsIn-loading, StandsIn-ghosts}
use Rattle.quick_cache_store.proofs.lists.SoundLemmas.{out_of_ring, vacant-stand, IsRingOf-left}
use Rattle.quick_cache_store.proofs.lists.RemoveLemmas.{IsRingOf-removed, view-dropped, view-other, view-left}

-- no item stands among the ghosts
pub not_ghosts : (weightless : Bool) (queue : Queue)
    → (if weightless then AmongStill else ring_stand queue) ≢ AmongGhosts
not_ghosts true queue e = cc
not_ghosts false Queue.Hot e = cc
not_ghosts false Queue.Cold e = cc

module _ {K V P T : Type 0} where
  pub named_item : (u : ℕ) (o : Option (Slot K V P T)) (held : HeldItem K V)
      → item_of u o ≡ Some held → held.token ≡ u
  named_item u None held is = absurd (cc)
  named_item u (Some slot) held is = by_entry slot.hash slot.entry is
    where
      by_entry : (hash : ℕ) (entry : Entry K V P T)
          → item_of u (Some (record { hash = hash; entry = entry })) ≡ Some held → held.token ≡ u
      by_entry hash (Entry.Item item) e =
          let same : record { token = u; hash = hash; item = item } ≡ held =
          cc in ap (λ (y : HeldItem K V). y.token) (sym same)
      by_entry hash (Entry.Loading awaited) e = absurd (cc)
      by_entry hash Entry.Ghost e = absurd (cc)

  pub named_still : (u : ℕ) (o : Option (Slot K V P T)) (held : HeldItem K V)
      → still_of u o ≡ Some held → held.token ≡ u
  named_still u o held is = named_item u o held (held_still (item_of u o) held is)

  pub named_loading : (u : ℕ) (o : Option (Slot K V P T)) (waiting : HeldLoading K P)
      → loading_of u o ≡ Some waiting → waiting.token ≡ u
  named_loading u None waiting is = absurd (cc)
  named_loading u (Some slot) waiting is = by_entry slot.hash slot.entry is
    where
      by_entry : (hash : ℕ) (entry : Entry K V P T)
          → loading_of u (Some (record { hash = hash; entry = entry })) ≡ Some waiting
          → waiting.token ≡ u
      by_entry hash (Entry.Item item) e = absurd (cc)
      by_entry hash (Entry.Loading awaited) e =
          let same : record {
            token = u;
            hash = hash;
            key = awaited.key;
            queue = awaited.queue;
            placeholder = awaited.placeholder;
          }
          ≡ waiting = cc in ap (λ (y : HeldLoading K P). y.token) (sym same)
      by_entry hash Entry.Ghost e = absurd (cc)

  pub named_ghost : (u : ℕ) (o : Option (Slot K V P T)) (shade : HeldGhost)
      → ghost_of u o ≡ Some shade → shade.token ≡ u
  named_ghost u None shade is = absurd (cc)
  named_ghost u (Some slot) shade is = by_entry slot.hash slot.entry is
    where
      by_entry : (hash : ℕ) (entry : Entry K V P T)
          → ghost_of u (Some (record { hash = hash; entry = entry })) ≡ Some shade → shade.token ≡ u
      by_entry hash (Entry.Item item) e = absurd (cc)
      by_entry hash (Entry.Loading awaited) e = absurd (cc)
      by_entry hash Entry.Ghost e = let same : record { token = u; hash = hash } ≡ shade =
          cc in ap (λ (y : HeldGhost). y.token) (sym same)

  shown_some : {Y : Type 0} (shows : ℕ → Option (Slot K V P T) → Option Y)
      → ((u : ℕ) → shows u None ≡ None) → (u : ℕ) (o : Option (Slot K V P T)) (y : Y)
      → shows u o ≡ Some y → IsSome o
  shown_some shows nothing u None y is = let e = nothing u in absurd (cc)
  shown_some shows nothing u (Some x) y is = refl

  -- an item of a ring, and a ghost
  pub is_held : (t : ℕ) (o : Option (Slot K V P T)) (s : Stand) → s ≢ AmongLoading → s ≢ AmongGhosts
      → stand_of o ≡ Some s → (held : HeldItem K V) × (item_of t o ≡ Some held)
  is_held t None s off off' is = absurd (cc)
  is_held t (Some slot) s off off' is = by_entry slot.hash slot.entry is
    where
      by_entry : (hash : ℕ) (entry : Entry K V P T)
          → stand_of (Some (record { hash = hash; entry = entry })) ≡ Some s → (held : HeldItem K V)
          × (item_of t (Some (record { hash = hash; entry = entry })) ≡ Some held)
      by_entry hash (Entry.Item item) e = (record { token = t; hash = hash; item = item }, refl)
      by_entry hash (Entry.Loading awaited) e = absurd (off (cc))
      by_entry hash Entry.Ghost e = absurd (off' (cc))

  pub is_ghost_entry : (t : ℕ) (o : Option (Slot K V P T)) → stand_of o ≡ Some AmongGhosts
      → (shade : HeldGhost) × (ghost_of t o ≡ Some shade)
  is_ghost_entry t None is = absurd (cc)
  is_ghost_entry t (Some slot) is = by_entry slot.hash slot.entry is
    where
      by_entry : (hash : ℕ) (entry : Entry K V P T)
          → stand_of (Some (record { hash = hash; entry = entry })) ≡ Some AmongGhosts
          → (shade : HeldGhost) × (ghost_of t (Some (record { hash = hash; entry = entry }))
          ≡ Some shade)
      by_entry hash (Entry.Item item) e = absurd (not_ghosts (item.weight == 0) item.queue (cc))
      by_entry hash (Entry.Loading awaited) e = absurd (cc)
      by_entry hash Entry.Ghost e = (record { token = t; hash = hash }, refl)

  module _ (slab : Pool (Slot K V P T)) (index : Index) (rings : Rings) where
    pub occupied_by_entry : (t : ℕ) → HasEntry (lists_of slab index rings) t
        → IsOccupied slab t
    occupied_by_entry t has = elim has [
      | inl item ↦ by_item item.0 item.1.place item.1.stands item.2
      | inr rest ↦ elim rest [
        | inl loading ↦
            let at = gather-from (λ u. loading_of u (item_at slab u))
            (upto (length slab.slots)) loading.0 loading.1 in
            occupied at.0 (sym (named_loading at.0 (item_at slab at.0) loading.0 at.2) ∙ loading.2)
            (shown_some loading_of (λ u. refl) at.0 (item_at slab at.0) loading.0 at.2)
        | inr ghost ↦
            let at = gather-from (λ u. ghost_of u (item_at slab u))
            rings.ghosts.tokens ghost.0 ghost.1 in
            occupied at.0 (sym (named_ghost at.0 (item_at slab at.0) ghost.0 at.2) ∙ ghost.2)
            (shown_some ghost_of (λ u. refl) at.0 (item_at slab at.0) ghost.0 at.2)
      ]
    ]
      where
        occupied : (u : ℕ) → u ≡ t → IsOccupied slab u → IsOccupied slab t
        occupied u same there = rw same at there

        by_item : (held : HeldItem K V) (place : Place)
            → StandsIn (items_at place (lists_of slab index rings)) held → held.token ≡ t
            → IsOccupied slab t
        by_item held InHot there e =
            let at = gather-from (λ u. item_of u (item_at slab u))
            rings.hot.tokens held there in
            occupied at.0 (sym (named_item at.0 (item_at slab at.0) held at.2) ∙ e)
            (shown_some item_of (λ u. refl) at.0 (item_at slab at.0) held at.2)
        by_item held InCold there e =
            let at = gather-from (λ u. item_of u (item_at slab u))
            rings.cold.tokens held there in
            occupied at.0 (sym (named_item at.0 (item_at slab at.0) held at.2) ∙ e)
            (shown_some item_of (λ u. refl) at.0 (item_at slab at.0) held at.2)
        by_item held InStill there e =
            let at = gather-from (λ u. still_of u (item_at slab u))
            (upto (length slab.slots)) held there in
            occupied at.0 (sym (named_still at.0 (item_at slab at.0) held at.2) ∙ e)
            (shown_some still_of (λ u. refl) at.0 (item_at slab at.0) held at.2)

    pub IsEntry-from : (sound : IsStanding slab rings) (t : ℕ) (slot : Slot K V P T)
        → item_at slab t ≡ Some slot → IsEntry
        (lists_of slab index rings) t slot.hash slot.entry
    IsEntry-from sound t slot at = by_entry slot.hash slot.entry at
      where
        by_entry : (hash : ℕ) (entry : Entry K V P T)
            → item_at slab t ≡ Some (record { hash = hash; entry = entry })
            → IsEntry (lists_of slab index rings) t hash entry
        by_entry hash (Entry.Item item) is =
            HasItem-from slab index rings sound t hash item is
        by_entry hash (Entry.Loading awaited) is =
            StandsIn-loading slab index rings sound t _ _ is refl
        by_entry hash Entry.Ghost is = StandsIn-ghosts slab index rings sound t hash is

  -- ---- an entry left its list, and its ring, if it stood in one

  module _ (old new : Pool (Slot K V P T)) (told tnew : Index) (t : ℕ) (restarts : Bool)
      (rings left : Rings) (w : ℕ) (standing : IsStanding old rings)
      (removed : IsRemoved old new t) (weighs : w ≡ weight_at (item_at old t)) where
    -- the token left the ring, or never was in it
    abbrev RingGoes : (ring after : Ring) → Stand → Type 0
    RingGoes ring after r =
        ((stand_of (item_at old t) ≡ Some r) × IsLeft ring after t restarts w)
        ⊎ ((stand_of (item_at old t) ≢ Some r) × (after ≡ ring))

    differs : (s r : Stand) → stand_of (item_at old t) ≡ Some s → s ≢ r
        → stand_of (item_at old t) ≢ Some r
    differs s r is off same = off (some-same s r (sym is ∙ same))
      where
        some-same : (a b : Stand) → Some a ≡ Some b → a ≡ b
        some-same a b e = cc

    stays : (ring after : Ring) (s r : Stand) → stand_of (item_at old t) ≡ Some s → s ≢ r
        → after ≡ ring → RingGoes ring after r
    stays ring after s r is off same = inr (differs s r is off, same)

    record RingsGo : Type 0 where
      hot : RingGoes rings.hot left.hot AmongHot
      cold : RingGoes rings.cold left.cold AmongCold
      ghosts : RingGoes rings.ghosts left.ghosts AmongGhosts
      capacity : left.capacity ≡ rings.capacity

    rings_go : (s : Stand) → stand_of (item_at old t) ≡ Some s
        → LeavesRingOf rings left t restarts w s → RingsGo
    rings_go AmongHot is leaves = record {
      hot = inl (is, leaves.0);
      cold = stays rings.cold left.cold AmongHot AmongCold is (λ e. cc)
          (ap (λ (r : Rings). r.cold) leaves.1);
      ghosts = stays rings.ghosts left.ghosts AmongHot AmongGhosts is (λ e. cc)
          (ap (λ (r : Rings). r.ghosts) leaves.1);
      capacity = ap (λ (r : Rings). r.capacity) leaves.1;
    }
    rings_go AmongCold is leaves = record {
      hot = stays rings.hot left.hot AmongCold AmongHot is (λ e. cc)
          (ap (λ (r : Rings). r.hot) leaves.1);
      cold = inl (is, leaves.0);
      ghosts = stays rings.ghosts left.ghosts AmongCold AmongGhosts is (λ e. cc)
          (ap (λ (r : Rings). r.ghosts) leaves.1);
      capacity = ap (λ (r : Rings). r.capacity) leaves.1;
    }
    rings_go AmongGhosts is leaves = record {
      hot = stays rings.hot left.hot AmongGhosts AmongHot is (λ e. cc)
          (ap (λ (r : Rings). r.hot) leaves.1);
      cold = stays rings.cold left.cold AmongGhosts AmongCold is (λ e. cc)
          (ap (λ (r : Rings). r.cold) leaves.1);
      ghosts = inl (is, leaves.0);
      capacity = ap (λ (r : Rings). r.capacity) leaves.1;
    }
    rings_go AmongStill is leaves = record {
      hot = stays rings.hot left.hot AmongStill AmongHot is (λ e. cc)
          (ap (λ (r : Rings). r.hot) leaves);
      cold = stays rings.cold left.cold AmongStill AmongCold is (λ e. cc)
          (ap (λ (r : Rings). r.cold) leaves);
      ghosts = stays rings.ghosts left.ghosts AmongStill AmongGhosts is (λ e. cc)
          (ap (λ (r : Rings). r.ghosts) leaves);
      capacity = ap (λ (r : Rings). r.capacity) leaves;
    }
    rings_go AmongLoading is leaves = record {
      hot = stays rings.hot left.hot AmongLoading AmongHot is (λ e. cc)
          (ap (λ (r : Rings). r.hot) leaves);
      cold = stays rings.cold left.cold AmongLoading AmongCold is (λ e. cc)
          (ap (λ (r : Rings). r.cold) leaves);
      ghosts = stays rings.ghosts left.ghosts AmongLoading AmongGhosts is (λ e. cc)
          (ap (λ (r : Rings). r.ghosts) leaves);
      capacity = ap (λ (r : Rings). r.capacity) leaves;
    }

    IsRingOf-gone : (ring after : Ring) (r : Stand) → RingGoes ring after r → IsRingOf old ring r
        → IsRingOf new after r
    IsRingOf-gone ring after r goes is = elim goes [
      | inl leaves ↦ IsRingOf-left old new t removed.others ring after r restarts w
          (vacant-stand new t r removed.here) weighs is leaves.1
      | inr stayed ↦ rw stayed.1 (IsRingOf-removed old new t removed ring r is stayed.0)
    ]

    held-gone : (ring after : Ring) (r : Stand) → r ≢ AmongLoading → r ≢ AmongGhosts
        → RingGoes ring after r → IsRingOf old ring r
        → gather (λ u. item_of u (item_at new u)) after.tokens
        ≡ left_by restarts (λ h. h.token) t (gather (λ u. item_of u (item_at old u)) ring.tokens)
    held-gone ring after r off off' goes is = elim goes [
      | inl leaves ↦
          let held = is_held t (item_at old t) r off off' leaves.0 in
          view-left old new t removed item_of (λ u. refl) (λ h. h.token) named_item ring after
          restarts w held.0 held.1 (is.once t) leaves.1
      | inr stayed ↦ rw stayed.1 (view-other old new t removed item_of (λ u. refl) (λ h. h.token)
          named_item restarts ring.tokens (out_of_ring old ring r t is stayed.0))
    ]

    shade-gone : (ring after : Ring) → RingGoes ring after AmongGhosts
        → IsRingOf old ring AmongGhosts
        → gather (λ u. ghost_of u (item_at new u)) after.tokens
        ≡ left_by restarts (λ h. h.token) t (gather (λ u. ghost_of u (item_at old u)) ring.tokens)
    shade-gone ring after goes is = elim goes [
      | inl leaves ↦
          let shade = is_ghost_entry t (item_at old t) leaves.0 in
          view-left old new t removed ghost_of (λ u. refl) (λ h. h.token) named_ghost ring after
          restarts w shade.0 shade.1 (is.once t) leaves.1
      | inr stayed ↦ rw stayed.1 (view-other old new t removed ghost_of (λ u. refl) (λ h. h.token)
          named_ghost restarts ring.tokens (out_of_ring old ring AmongGhosts t is stayed.0))
    ]

    module _ (s : Stand) (stands : stand_of (item_at old t) ≡ Some s)
        (leaves : LeavesRingOf rings left t restarts w s) where
      pub capacity-taken : left.capacity ≡ rings.capacity
      capacity-taken = (rings_go s stands leaves).capacity

      pub IsStanding-taken : IsStanding new left
      IsStanding-taken =
          let go = rings_go s stands leaves in
          record {
            hot_ring = IsRingOf-gone rings.hot left.hot AmongHot go.hot standing.hot_ring;
            cold_ring = IsRingOf-gone rings.cold left.cold AmongCold go.cold standing.cold_ring;
            ghost_ring = IsRingOf-gone rings.ghosts left.ghosts AmongGhosts go.ghosts
                standing.ghost_ring;
          }

      pub lists-taken : room_of new tnew left ≡ room_of old told rings + 1
          → lists_of new tnew left ≡ without_entry restarts t (lists_of old told rings)
      lists-taken room =
          let go = rings_go s stands leaves in
          let hot_is = held-gone rings.hot left.hot AmongHot (λ e. cc) (λ e. cc) go.hot
          standing.hot_ring in
          let cold_is = held-gone rings.cold left.cold AmongCold (λ e. cc) (λ e. cc) go.cold
          standing.cold_ring in
          let ghosts_is = shade-gone rings.ghosts left.ghosts go.ghosts standing.ghost_ring in
          let slots_same : upto (length new.slots) ≡ upto (length old.slots) =
          ap upto removed.long in
          let still_is = view-dropped old new t removed still_of (λ u. refl) (λ h. h.token)
          named_still _ _ slots_same in
          let loading_is = view-dropped old new t removed loading_of (λ u. refl) (λ w. w.token)
          named_loading _ _ slots_same in
          let next_is : next_token new ≡ t = rw removed.free refl in
          λ i. record {
            hot = hot_is i;
            cold = cold_is i;
            still = still_is i;
            loading = loading_is i;
            ghosts = ghosts_is i;
            next = next_is i;
            room = room i;
          }
