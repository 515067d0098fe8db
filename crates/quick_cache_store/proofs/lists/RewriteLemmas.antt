-- An item stands in for another one under its token: in its place, or moved by its weight.
use Rattle.std.proofs.Common.{◌≡◌, ◌≢◌, ℕ, ◌+◌, ◌<◌, ◌==◌, if◌then◌else◌, Bool, true, false, not, List, [], ◌∷◌, ◌++◌, length, Option, Some}
use Rattle.std.proofs.Common.{None, refl, sym, ap, subst, ◌∙◌, true≢false}
use Rattle.std.proofs.Math.Bool.{beq}
use Rattle.std.proofs.lemmas.List.Sorted.{IsPermutation-refl}
use Rattle.quick_cache_model.specs.CacheState.{Item, Place, InHot, InCold, InStill, place_of_item, ring_place}
use Rattle.quick_cache_model.specs.declared.queue.Queue.{Queue}
use Rattle.quick_cache_store.specs.Lists.{HeldItem, Lists, StandsIn, items_at, with_items, entered, AreApart, without_entry, with_change}
use Rattle.quick_cache_store.specs.Lists.{SameButOrder, PutsItem, Replaces, Requeues, IsEntry, IsItemOf, HasItemOfQueue, with_weight}
use Rattle.quick_cache_store.specs.Lists.{requeued, held_rewritten, Rewrites, Reweighs}
use Rattle.quick_cache_store.specs.Pool.{Pool, item_at}
use Rattle.quick_cache_index.specs.Index.{Index}
use Rattle.quick_cache_store.specs.declared.slots.entry.Awaited.{Awaited}
use Rattle.quick_cache_store.specs.declared.slots.entry.Entry.{Entry}
use Rattle.quick_cache_store.specs.declared.slots.entry.Slot.{Slot}
use Rattle.quick_cache_store.specs.Rings.{Rings, CanReweigh, reweighed}
use Rattle.quick_cache_store.specs.ListSlots.{Stand, stand_of, stand_of_item, item_of, weight_at, loading_of, ghost_of}
use Rattle.quick_cache_store.specs.Sound.{upto, lists_of, IsStanding, IsSound}
use Rattle.quick_cache_store.proofs.lists.ApartLemmas.{apart_by}
use Rattle.quick_cache_store.proofs.lists.CountLemmas.{PutsItem-from}
use Rattle.quick_cache_store.proofs.lists.GatherLemmas.{gather-from}
use Rattle.quick_cache_store.proofs.lists.ItemLemmas.{item_at-held}
use Rattle.quick_cache_store.proofs.lists.ChangeLemmas.{written, IsSound-reweighed, lists-reweighed}
use Rattle.quick_cache_store.proofs.lists.LeaveLemmas.{can_reweigh}
use Rattle.quick_cache_store.proofs.lists.PutLemmas.{with_items-loading}
use Rattle.quick_cache_store.proofs.lists.StandLemmas.{StandsIn-item}
use Rattle.quick_cache_store.proofs.lists.TakeLemmas.{named_loading, named_ghost}
use Rattle.quick_cache_store.proofs.lists.CallerLemmas.{without-hot, without-cold, without-still, change-hot, change-cold, change-still}

-- the items of that place weigh nothing
abbrev weightless_at : Place → Bool
weightless_at InHot = false
weightless_at InCold = false
weightless_at InStill = true

weightless-place : (p : Place) (b : Bool) (q : Queue) → p ≡ (if b then InStill else ring_place q)
    → b ≡ weightless_at p
weightless-place p true q is = sym (ap weightless_at is)
weightless-place p false Queue.Hot is = sym (ap weightless_at is)
weightless-place p false Queue.Cold is = sym (ap weightless_at is)

other_than : (a b : Bool) → a ≢ b → b ≡ true → a ≡ false
other_than true b differs is = absurd (differs (sym is))
other_than false b differs is = refl

other_than_false : (a b : Bool) → a ≢ b → b ≡ false → a ≡ true
other_than_false true b differs is = refl
other_than_false false b differs is = absurd (differs (sym is))

-- what an item leaves behind: its ring begins behind it
abbrev left_around : {X : Type 0} → Place → (before after : List X) → List X
left_around InHot before after = after ++ before
left_around InCold before after = after ++ before
left_around InStill before after = before ++ after

module _ {K V P : Type 0} where
  SameButOrder-same : (lists new : Lists K V P) → new ≡ lists → SameButOrder lists new
  SameButOrder-same lists new is = subst (λ (l : Lists K V P). SameButOrder lists l) (sym is)
      (record {
        still = IsPermutation-refl lists.still;
        loading = IsPermutation-refl lists.loading;
        same = refl;
      })

  with_items-next : (p : Place) (xs : List (HeldItem K V)) (lists : Lists K V P)
      → (with_items p xs lists).next ≡ lists.next
  with_items-next InHot xs lists = refl
  with_items-next InCold xs lists = refl
  with_items-next InStill xs lists = refl

  with_items-room : (p : Place) (xs : List (HeldItem K V)) (lists : Lists K V P)
      → (with_items p xs lists).room ≡ lists.room
  with_items-room InHot xs lists = refl
  with_items-room InCold xs lists = refl
  with_items-room InStill xs lists = refl

  -- the next token and the room do not decide where an item is put
  put-numbers : (p : Place) (held : HeldItem K V) (lists left : Lists K V P) (next room n r : ℕ)
      → left ≡ record lists { next = n; room = r } → next ≡ lists.next → room ≡ lists.room
      → record (with_items p (items_at p left ++ held ∷ []) left) { next = next; room = room }
      ≡ with_items p (items_at p lists ++ held ∷ []) lists
  put-numbers InHot held lists left next room n r is next_is room_is = rw is (λ i. record lists {
    hot = lists.hot ++ held ∷ [];
    next = next_is i;
    room = room_is i;
  })
  put-numbers InCold held lists left next room n r is next_is room_is = rw is (λ i. record lists {
    cold = lists.cold ++ held ∷ [];
    next = next_is i;
    room = room_is i;
  })
  put-numbers InStill held lists left next room n r is next_is room_is = rw is (λ i. record lists {
    still = lists.still ++ held ∷ [];
    next = next_is i;
    room = room_is i;
  })

  -- where both or neither weigh nothing
  held_rewritten-kept : (p : Place) (before after : List (HeldItem K V)) (held : HeldItem K V)
      (lists : Lists K V P) → (held.item.weight == 0) ≡ weightless_at p
      → held_rewritten p before held after lists ≡ with_items p (before ++ held ∷ after) lists
  held_rewritten-kept InHot before after held lists is = rw is refl
  held_rewritten-kept InCold before after held lists is = rw is refl
  held_rewritten-kept InStill before after held lists is = rw is refl

  -- where one of them weighs nothing
  held_rewritten-moved : (p : Place) (before after : List (HeldItem K V)) (held : HeldItem K V)
      (lists : Lists K V P) → (held.item.weight == 0) ≢ weightless_at p
      → held_rewritten p before held after lists
      ≡ entered held (with_items p (left_around p before after) lists)
  held_rewritten-moved InHot before after held lists differs =
      rw (other_than_false (held.item.weight == 0) false differs refl) refl
  held_rewritten-moved InCold before after held lists differs =
      rw (other_than_false (held.item.weight == 0) false differs refl) refl
  held_rewritten-moved InStill before after held lists differs =
      rw (other_than (held.item.weight == 0) true differs refl) refl

  module _ (lists : Lists K V P) (apart : AreApart lists) where
    -- an item that is changed at its place
    with_change-at : (p : Place) (change : Item K V → Item K V) (before after : List (HeldItem K V))
        (held : HeldItem K V) → items_at p lists ≡ before ++ held ∷ after
        → with_change held.token change lists
        ≡ with_items p (before ++ record held { item = change held.item } ∷ after) lists
    with_change-at InHot = change-hot lists apart
    with_change-at InCold = change-cold lists apart
    with_change-at InStill = change-still lists apart

    -- an item that leaves its place, whose ring begins behind it
    without_entry-at : (p : Place) (before after : List (HeldItem K V)) (held : HeldItem K V)
        → items_at p lists ≡ before ++ held ∷ after
        → without_entry true held.token lists
        ≡ record (with_items p (left_around p before after) lists) {
          next = held.token;
          room = lists.room + 1;
        }
    without_entry-at InHot = without-hot lists apart true
    without_entry-at InCold = without-cold lists apart true
    without_entry-at InStill = without-still lists apart true

    module _ (t hash : ℕ) (was item : Item K V)
        (stands : StandsIn (items_at (place_of_item was) lists)
        (record { token = t; hash = hash; item = was })) (new : Lists K V P) where
      abbrev held_with : Item K V → HeldItem K V
      held_with x = record { token = t; hash = hash; item = x }

      was_at : (was.weight == 0) ≡ weightless_at (place_of_item was)
      was_at = weightless-place (place_of_item was) (was.weight == 0) was.queue refl

      pub Rewrites-kept : (item.weight == 0) ≡ (was.weight == 0)
          → new ≡ with_change t (λ _. item) lists → Rewrites lists t item was new
      Rewrites-kept same is =
          let p = place_of_item was in
          let kept : new ≡ with_items p (stands.before ++ held_with item ∷ stands.after) lists = is
          ∙ with_change-at p (λ _. item) stands.before stands.after (held_with was) stands.split in
          let exact : new ≡ held_rewritten p stands.before (held_with item) stands.after lists = kept
          ∙ sym (held_rewritten-kept p stands.before stands.after (held_with item) lists
          (same ∙ was_at)) in
          record {
            hash = hash;
            place = p;
            before = stands.before;
            after = stands.after;
            placed = refl;
            split = stands.split;
            rewritten = SameButOrder-same _ new exact;
            in_place = λ _. kept;
            in_ring = λ _. exact;
            loading_stays = ap (λ (l : Lists K V P). l.loading) is;
          }

      pub Rewrites-moved : (item.weight == 0) ≢ (was.weight == 0)
          → PutsItem (without_entry true t lists) t hash item new → new.room ≡ lists.room
          → new.next ≡ lists.next → Rewrites lists t item was new
      Rewrites-moved differs puts room next =
          let p = place_of_item was in
          let left = with_items p (left_around p stands.before stands.after) lists in
          let without = without_entry-at p stands.before stands.after (held_with was) stands.split in
          let numbers = put-numbers (place_of_item item) (held_with item) left
          (without_entry true t lists) new.next new.room t (lists.room + 1) without
          (next ∙ sym (with_items-next p _ lists)) (room ∙ sym (with_items-room p _ lists)) in
          let moved = held_rewritten-moved p stands.before stands.after (held_with item) lists
          (λ e. differs (e ∙ sym was_at)) in
          record {
            hash = hash;
            place = p;
            before = stands.before;
            after = stands.after;
            placed = refl;
            split = stands.split;
            rewritten = subst (λ (l : Lists K V P). SameButOrder l new) (numbers ∙ sym moved) puts.put;
            in_place = λ same. absurd (differs same);
            in_ring = λ heavy. puts.in_ring heavy ∙ numbers ∙ sym moved;
            loading_stays = puts.loading_stays ∙ ap (λ (l : Lists K V P). l.loading) without
                ∙ with_items-loading p _ lists;
          }

differs_by : (a b : Bool) → not (beq a b) ≡ true → b ≢ a
differs_by true true is same = true≢false (sym is)
differs_by true false is same = true≢false (sym same)
differs_by false true is same = true≢false same
differs_by false false is same = true≢false (sym is)

same_by : (a b : Bool) → not (beq a b) ≡ false → b ≡ a
same_by true true is = refl
same_by true false is = absurd (true≢false is)
same_by false true is = absurd (true≢false is)
same_by false false is = refl

none_of : {X : Type 0} (o : Option X) {x : X} → o ≡ None → o ≡ Some x → ⊥
none_of o is is' = cc

-- ---- told of the slots

module _ {K V P T : Type 0} where
  same_item : (o : Option (Slot K V P T)) (h h' : ℕ) (item other : Item K V)
      → o ≡ Some (record { hash = h; entry = Entry.Item item })
      → o ≡ Some (record { hash = h'; entry = Entry.Item other }) → item ≡ other
  same_item o h h' item other is is' =
      let both = sym (ap (item_of 0) is) ∙ ap (item_of 0) is' in
      let same : record { token = 0; hash = h; item = item }
      ≡ record { token = 0; hash = h'; item = other } = cc in
      ap (λ (y : HeldItem K V). y.item) same

  same_weight : (o : Option (Slot K V P T)) (h h' : ℕ) (item other : Item K V)
      → o ≡ Some (record { hash = h; entry = Entry.Item item })
      → o ≡ Some (record { hash = h'; entry = Entry.Item other }) → item.weight ≡ other.weight
  same_weight o h h' item other is is' = sym (ap weight_at is) ∙ ap weight_at is'

  module _ (slab : Pool (Slot K V P T)) (index : Index) (rings : Rings) (t : ℕ)
      (seen : Item K V) (has : IsItemOf (lists_of slab index rings) t seen) where
    pub item_at-token : item_at slab t ≡ Some (record { hash = has.0; entry = Entry.Item seen })
    item_at-token = item_at-held slab index rings
        (record { token = t; hash = has.0; item = seen }) has.1

    -- no placeholder and no ghost has the token
    pub no_placeholder : (hash : ℕ) (awaited : Awaited K P) → IsEntry {T = T}
        (lists_of slab index rings) t hash (Entry.Loading awaited) → ⊥
    no_placeholder hash awaited stands =
        let found = gather-from (λ u. loading_of u (item_at slab u)) (upto (length slab.slots))
        _ stands in
        none_of (loading_of t (item_at slab t)) (ap (loading_of t) item_at-token)
        (ap (λ u. loading_of u (item_at slab u))
        (named_loading found.0 (item_at slab found.0) _ found.2) ∙ found.2)

    pub no_ghost : (hash : ℕ)
        → IsEntry {T = T} (lists_of slab index rings) t hash Entry.Ghost → ⊥
    no_ghost hash stands =
        let found = gather-from (λ u. ghost_of u (item_at slab u)) rings.ghosts.tokens
        _ stands in
        none_of (ghost_of t (item_at slab t)) (ap (ghost_of t) item_at-token)
        (ap (λ u. ghost_of u (item_at slab u))
        (named_ghost found.0 (item_at slab found.0) _ found.2) ∙ found.2)

  -- ---- it is moved by its weight

  module _ (slab : Pool (Slot K V P T)) (index : Index) (rings : Rings)
      (standing : IsStanding slab rings) (t : ℕ)
      (seen : Item K V) (has : IsItemOf (lists_of slab index rings) t seen) where
    abbrev lists : Lists K V P
    lists = lists_of slab index rings

    seen_at : item_at slab t ≡ Some (record { hash = has.0; entry = Entry.Item seen })
    seen_at = item_at-token slab index rings t seen has

    module _ (new : Lists K V P) (v w : ℕ) (v_is : v ≡ seen.weight) where
      pub Rewrites-replaced : (item was : Item K V)
          → Replaces {T = T} lists t true (Entry.Item item) (Entry.Item was) new
          → w ≡ item.weight → not (beq (v == 0) (w == 0)) ≡ true → Rewrites lists t item was new
      Rewrites-replaced item was replaces w_is differs =
          let at = item_at-held slab index rings
          (record { token = t; hash = replaces.hash; item = was }) replaces.taken in
          let weighs = v_is ∙ same_weight _ has.0 replaces.hash seen was seen_at at in
          Rewrites-moved lists (apart_by slab index rings standing) t
          replaces.hash was item
          (StandsIn-item slab index rings standing t replaces.hash was at) new
          (rw (← w_is, ← weighs) (differs_by (v == 0) (w == 0) differs))
          (PutsItem-from {T = T} _ new t replaces.hash item replaces.last) replaces.room
          replaces.next

      pub Reweighs-requeued : (queue : Queue) (mark : ℕ) → queue ≡ seen.queue → mark ≡ seen.mark
          → Requeues lists t true (requeued queue mark w) new
          → not (beq (v == 0) (w == 0)) ≡ true → Reweighs lists t w new
      Reweighs-requeued queue mark queue_is mark_is requeues differs =
          let was = requeues.item in
          let at = item_at-held slab index rings
          (record { token = t; hash = requeues.hash; item = was }) requeues.taken in
          let same : seen ≡ was = same_item (item_at slab t) has.0 requeues.hash seen was
          seen_at at in
          let made : requeued queue mark w was ≡ with_weight w was =
          rw (queue_is, mark_is) (ap (λ (i : Item K V). requeued i.queue i.mark w was) same) in (
            was,
            Rewrites-moved lists (apart_by slab index rings standing) t
                requeues.hash was (with_weight w was)
                (StandsIn-item slab index rings standing t requeues.hash was at) new
                (rw (← ap (λ (i : Item K V). i.weight) same, ← v_is)
                (differs_by (v == 0) (w == 0) differs))
                (subst (λ (i : Item K V). PutsItem (without_entry true t lists) t requeues.hash i new) made
                requeues.last) requeues.room requeues.next,
          )

  -- ---- it keeps its place

  pub was_seen : (o : Option (Slot K V P T)) (slot : Slot K V P T) (hash : ℕ) (seen was : Item K V)
      → o ≡ Some (record { hash = hash; entry = Entry.Item seen }) → o ≡ Some slot
      → slot.entry ≡ Entry.Item was → seen ≡ was
  was_seen o slot hash seen was at is old =
      let same : slot ≡ record { hash = hash; entry = Entry.Item seen } = cc in cc

  module _ (slab : Pool (Slot K V P T)) (index : Index) (rings : Rings) (loading : ℕ)
      (sound : IsSound slab index rings loading) (t : ℕ)
      (seen : Item K V)
      (has : IsItemOf (lists_of slab index rings) t seen) where
    at : item_at slab t ≡ Some (record { hash = has.0; entry = Entry.Item seen })
    at = item_at-token slab index rings t seen has

    pub queue_seen : (queue : Queue)
        → HasItemOfQueue (lists_of slab index rings) t queue
        → queue ≡ seen.queue
    queue_seen queue of =
        let found = item_at-held slab index rings
        (record { token = t; hash = of.1.0; item = of.0 }) of.1.1 in
        sym of.2 ∙ ap (λ (i : Item K V). i.queue)
        (same_item (item_at slab t) of.1.0 has.0 of.0 seen found at)

    module _ (v w : ℕ) (s : Stand) (v_is : v ≡ seen.weight) (s_is : s ≡ stand_of_item seen)
        (light : w < 18446744073709551616) where
      stands : stand_of (item_at slab t) ≡ Some s
      stands = ap stand_of at ∙ ap (λ (r : Stand). Some r) (sym s_is)

      pub can_reweigh-seen : CanReweigh rings v w s
      can_reweigh-seen = subst (λ (u : ℕ). CanReweigh rings u w s) (ap weight_at at ∙ sym v_is)
          (can_reweigh slab index rings sound.standing sound.keyed t w light s stands)

      module _ (item : Item K V) (after : Rings) (reweighs : after ≡ reweighed v w s rings)
          (w_is : w ≡ item.weight) (queue : item.queue ≡ seen.queue)
          (same : not (beq (v == 0) (w == 0)) ≡ false) where
        heavy : (item.weight == 0) ≡ (seen.weight == 0)
        heavy = rw (← w_is, ← v_is) (same_by (v == 0) (w == 0) same)

        after_is : after ≡ reweighed seen.weight item.weight s rings
        after_is = rw (← w_is, ← v_is) reweighs

        pub IsSound-written : IsSound (written has.0 item t slab) index after loading
        IsSound-written = rw after_is (IsSound-reweighed slab t has.0 seen (λ _. item) heavy queue
            at (rw (← w_is) light) index rings loading s stands sound)

        pub Rewrites-written : Rewrites (lists_of slab index rings) t item seen
            (lists_of (written has.0 item t slab) index after)
        Rewrites-written = Rewrites-kept (lists_of slab index rings)
            (apart_by slab index rings sound.standing) t has.0
            seen item (StandsIn-item slab index rings sound.standing t has.0 seen at) _ heavy
            (ap (lists_of (written has.0 item t slab) index) after_is
            ∙ lists-reweighed slab t has.0 seen (λ _. item) heavy queue at index rings s)
