-- What the lists are once the first item of a ring left it: it stays without weight, or a ghost
-- stands for it, or it is put among the hot ones.
use Rattle.std.proofs.Common.{◌≡◌, ℕ, ◌+◌, ◌-◌, ◌<◌, ◌≤◌, Bool, false, if◌then◌else◌, List, [], ◌∷◌, ◌++◌, length, drop, refl, sym, ap}
use Rattle.std.proofs.Common.{subst, ◌∙◌, arith}
use Rattle.std.proofs.lemmas.Bool.{ne_eqb}
use Rattle.std.proofs.lemmas.List.{map-append, length-map, length-append}
use Rattle.quick_cache_model.specs.declared.queue.Queue.{Queue}
use Rattle.quick_cache_model.specs.CacheState.{Item, Place, InStill, ring_place}
use Rattle.quick_cache_model.specs.Eviction.{newest}
use Rattle.quick_cache_store.specs.declared.slots.entry.Entry.{Entry}
use Rattle.quick_cache_store.specs.Lists.{HeldItem, HeldGhost, Lists, HasItem, AreApart, Replaces, PutsLast, SameButOrder, items_at}
use Rattle.quick_cache_store.specs.Lists.{with_items, entered, without_entry, Requeues, requeued}
use Rattle.quick_cache_store.specs.Views.{hashes_of}
use Rattle.quick_cache_store.proofs.lists.OneEntryLemmas.{first-item, without-first, last_ghost-hash, without-last_ghost}

-- the hashes of all but the oldest ghost
pub hashes_of-drop : (n : ℕ) (ghosts rest : List HeldGhost) (shade : HeldGhost)
    → ghosts ≡ shade ∷ rest → n ≡ 1 → hashes_of rest ≡ drop n (hashes_of ghosts)
hashes_of-drop n ghosts rest shade split one =
    sym (ap (λ (l : List HeldGhost). drop n (hashes_of l)) split
    ∙ ap (λ (m : ℕ). drop m (hashes_of (shade ∷ rest))) one)

-- ---- the first of a ring

module _ {K V P : Type 0} (lists : Lists K V P) (apart : AreApart lists) where
  -- the item that is found under the token of the first is the first
  pub ring-first : (queue : Queue) (held : HeldItem K V) (rest : List (HeldItem K V)) (t hash : ℕ)
      (item : Item K V) → items_at (ring_place queue) lists ≡ held ∷ rest → held.token ≡ t
      → HasItem lists (record { token = t; hash = hash; item = item })
      → items_at (ring_place queue) lists ≡ record { token = t; hash = hash; item = item } ∷ rest
  ring-first queue held rest t hash item split is has =
      split ∙ sym (ap (λ (h : HeldItem K V). h ∷ rest)
      (first-item lists apart held rest queue (record { token = t; hash = hash; item = item }) split
      has (sym is)))

module _ {K V P T : Type 0} where
  -- an item that lost its weight, put last once it left its ring
  pub PutsLast-stays : (mid ring new : Lists K V P) (next room t hash : ℕ) (item kept : Item K V)
      (left : V) → mid ≡ record ring { next = next; room = room }
      → kept ≡ record item { value = left; weight = 0 }
      → PutsLast {T = T} mid t hash (Entry.Item kept) new
      → SameButOrder (record (entered (record {
        token = t;
        hash = hash;
        item = record item { value = left; weight = 0 };
      }) ring) { next = new.next; room = new.room }) new
  PutsLast-stays mid ring new next room t hash item kept left left_ring is puts =
      (subst (λ (l : Lists K V P). PutsLast {T = T} l t hash
      (Entry.Item (record item { value = left; weight = 0 })) new) left_ring
      (subst (λ (i : Item K V). PutsLast {T = T} mid t hash (Entry.Item i) new) is puts)).put

-- ---- the first cold item, replaced by a ghost

module _ {K V P T : Type 0} (lists : Lists K V P) (apart : AreApart lists) where
  -- the lists once it left a ghost
  pub Replaces-ghost : (held : HeldItem K V) (rest : List (HeldItem K V)) (t : ℕ)
      (was : Entry K V P T) (new : Lists K V P) (replaced : Replaces lists t false Entry.Ghost was
      new) → lists.cold ≡ held ∷ rest → held.token ≡ t
      → new ≡ record lists {
        cold = rest;
        ghosts = lists.ghosts ++ record { token = t; hash = replaced.hash } ∷ [];
      }
  Replaces-ghost held rest t was new replaced split is =
      replaced.last.in_ring refl
      ∙ ap (λ (l : Lists K V P). record l {
        ghosts = l.ghosts ++ record { token = t; hash = replaced.hash } ∷ [];
        next = new.next;
        room = new.room;
      }) (without-first lists apart held rest Queue.Cold t split is)
      ∙ (λ i. record lists {
        cold = rest;
        ghosts = lists.ghosts ++ record { token = t; hash = replaced.hash } ∷ [];
        next = replaced.next i;
        room = replaced.room i;
      })

module _ {K V P T : Type 0} (lists mid : Lists K V P) (apart : AreApart mid) where
  -- the item comes back in the ghost's place, and is put last where it weighs nothing any more
  pub Replaces-stays : (rest : List (HeldItem K V)) (t hash : ℕ) (item kept : Item K V) (left : V)
      (was : Entry K V P T) (new : Lists K V P)
      → mid ≡ record lists {
        cold = rest;
        ghosts = lists.ghosts ++ record { token = t; hash = hash } ∷ [];
      }
      → kept ≡ record item { value = left; weight = 0 }
      → Replaces {T = T} mid t false (Entry.Item kept) was new
      → SameButOrder (record (entered (record {
        token = t;
        hash = hash;
        item = record item { value = left; weight = 0 };
      }) (record lists { cold = rest })) { next = new.next; room = new.room }) new
  Replaces-stays rest t hash item kept left was new is stays replaced =
      let split = ap (λ (l : Lists K V P). l.ghosts) is in
      let out = without-last_ghost mid apart lists.ghosts t hash split
      ∙ ap (λ (l : Lists K V P). record l {
        ghosts = lists.ghosts;
        next = t;
        room = mid.room + 1;
      }) is in
      subst (λ (n : ℕ). SameButOrder (record (entered (record {
        token = t;
        hash = n;
        item = record item { value = left; weight = 0 };
      }) (record lists { cold = rest })) { next = new.next; room = new.room }) new)
      (last_ghost-hash mid apart lists.ghosts t hash replaced.hash was split replaced.taken)
      (PutsLast-stays {T = T} (without_entry false t mid) (record lists { cold = rest }) new t
      (mid.room + 1) t replaced.hash item kept left out stays replaced.last)

-- the hashes with one ghost more
pub hashes_of-last : (old new : List HeldGhost) (t hash h : ℕ)
    → new ≡ old ++ record { token = t; hash = hash } ∷ [] → hash ≡ h
    → hashes_of new ≡ hashes_of old ++ h ∷ []
hashes_of-last old new t hash h split is =
    ap hashes_of split
    ∙ map-append (λ (g : HeldGhost). g.hash) old (record { token = t; hash = hash } ∷ [])
    ∙ ap (λ (n : ℕ). hashes_of old ++ n ∷ []) is

-- what is left of ghosts above their limit is the newest of their hashes
pub newest-hashes : (limit : ℕ) (ghosts : List HeldGhost) (hashes : List ℕ)
    → hashes_of ghosts ≡ hashes
    → drop (length ghosts - limit) (hashes_of ghosts) ≡ newest limit hashes
newest-hashes limit ghosts hashes is =
    ap (λ (n : ℕ). drop (n - limit) (hashes_of ghosts))
    (sym (length-map ghosts (λ (g : HeldGhost). g.hash)))
    ∙ ap (λ (l : List ℕ). newest limit l) is

-- with one ghost more they are one above their limit at most
pub ghosts-one_more : (limit : ℕ) (old new : List HeldGhost) (last : HeldGhost)
    → new ≡ old ++ last ∷ [] → length (hashes_of old) ≤ limit → length new ≤ limit + 1
ghosts-one_more limit old new last split within =
    omega (
      arith,
      within,
      length-map old (λ (g : HeldGhost). g.hash),
      ap length split,
      length-append old (last ∷ []),
    )

-- ---- the first cold item, put last among the hot ones

module _ {K V P : Type 0} where
  -- an item that weighs something and is hot enters the hot ring
  pub entered-hot : (held : HeldItem K V) (lists : Lists K V P) → held.item.queue ≡ Queue.Hot
      → 0 < held.item.weight → entered held lists ≡ record lists { hot = lists.hot ++ held ∷ [] }
  entered-hot held lists hot weighs =
      ap (λ (p : Place). with_items p (items_at p lists ++ held ∷ []) lists)
      (ap (λ (b : Bool). if b then InStill else ring_place held.item.queue)
      (ne_eqb held.item.weight 0 (λ e. omega (arith, e, weighs)))
      ∙ ap ring_place hot)

  -- the lists once it was put there, with a mark less
  pub Requeues-promotes : (lists new : Lists K V P) (apart : AreApart lists) (held : HeldItem K V)
      (rest : List (HeldItem K V)) (t mark weight : ℕ) → lists.cold ≡ held ∷ rest → held.token ≡ t
      → 0 < held.item.weight → weight ≡ held.item.weight → mark ≡ held.item.mark - 1
      → Requeues lists t false (requeued Queue.Hot mark weight) new
      → new ≡ record lists {
        cold = rest;
        hot = lists.hot ++ record held {
          item = record held.item { mark = held.item.mark - 1; queue = Queue.Hot };
        } ∷ [];
      }
  Requeues-promotes lists new apart held rest t mark weight split is weighs weight_is mark_is
      requeues =
      let found = first-item lists apart held rest Queue.Cold
      (record { token = t; hash = requeues.hash; item = requeues.item }) split requeues.taken
      (sym is)
      in
      let item : requeued Queue.Hot mark weight requeues.item
      ≡ record held.item { mark = held.item.mark - 1; queue = Queue.Hot } =
      λ i. record (found i).item { queue = Queue.Hot; mark = mark_is i; weight = weight_is i } in
      let put : new ≡ record (entered (record held {
        item = record held.item { mark = held.item.mark - 1; queue = Queue.Hot };
      }) (record lists { cold = rest; next = t; room = lists.room + 1 })) {
        next = new.next;
        room = new.room;
      } =
      requeues.last.in_ring (omega (arith, weighs, weight_is))
      ∙ (λ i. record (entered (record {
        token = (found i).token;
        hash = (found i).hash;
        item = item i;
      }) (without-first lists apart held rest Queue.Cold t split is i)) {
        next = new.next;
        room = new.room;
      }) in
      put
      ∙ ap (λ (l : Lists K V P). record l { next = new.next; room = new.room })
      (entered-hot (record held {
        item = record held.item { mark = held.item.mark - 1; queue = Queue.Hot };
      }) (record lists { cold = rest; next = t; room = lists.room + 1 }) refl weighs)
      ∙ (λ i. record lists {
        cold = rest;
        hot = lists.hot ++ record held {
          item = record held.item { mark = held.item.mark - 1; queue = Queue.Hot };
        } ∷ [];
        next = requeues.next i;
        room = requeues.room i;
      })
