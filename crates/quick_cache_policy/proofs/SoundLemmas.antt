-- What the leaving of a victim makes of the state, and what keeps it sound.
use Rattle.std.proofs.Common.{◌≡◌, ℕ, ◌+◌, ◌-◌, ◌<◌, ◌≤◌, Bool, List, [], ◌∷◌, ◌++◌, length, refl, sym, ap, subst, ◌∙◌, arith}
use Rattle.std.specs.List.{AllByRecursion}
use Rattle.std.proofs.lemmas.List.{map-append, length-map}
use Rattle.std.proofs.lemmas.List.Sorted.{IsPermutation-map}
use Rattle.quick_cache_model.specs.declared.queue.Queue.{Queue}
use Rattle.quick_cache_model.specs.CacheState.{CacheState, Item, IsValid, ring_place, with_items, items_at, entered, SameButOrder}
use Rattle.quick_cache_model.specs.CacheState.{IsRingItem}
use Rattle.quick_cache_model.proofs.KeyCounts.{keys, keys-cons, keys-append}
use Rattle.quick_cache_model.specs.Hooks.{Rules, HookCall, BeforeEvict, EvictHot, EvictCold}
use Rattle.quick_cache_model.specs.Eviction.{EvictsVictim, newest}
use Rattle.quick_cache_model.proofs.EachElement.{all-permutation, all-push}
use Rattle.quick_cache_model.proofs.OrderLaws.{UpToOrder-exact}
use Rattle.quick_cache_model.proofs.Valid.Places.{keys_by-without, IsInPlace-marked}
use Rattle.quick_cache_model.proofs.Valid.States.{EvictsVictim-valid, IsValid-in_place, IsValid-items}
use Rattle.quick_cache_model.proofs.Valid.Edits.{without-valid}
use Rattle.quick_cache_model.proofs.Valid.Orders.{SameButOrder-valid}
use Rattle.quick_cache_store.specs.Lists.{HeldItem, HeldLoading, HeldGhost, Lists, items_at as held_at, with_items as with_held}
use Rattle.quick_cache_store.specs.Lists.{entered as held_entered, SameButOrder as HeldSame}
use Rattle.quick_cache_store.specs.Views.{items_of, hashes_of, loading_entry}
use Rattle.quick_cache_policy.specs.declared.contents.Contents.{Contents}
use Rattle.quick_cache_policy.specs.Contents.{AreHashed, IsSound, state_of, ring_count}
use Rattle.quick_cache_policy.specs.Advances.{FirstIsEvicted, FirstIsPromoted}

-- ---- keys under their hashes

module _ {K V P : Type 0} (hash : K → ℕ) where
  -- without the first item of a ring, and with another next token and room
  pub AreHashed-rest : (queue : Queue) (held : HeldItem K V) (rest : List (HeldItem K V))
      (next room : ℕ) (lists : Lists K V P) → held_at (ring_place queue) lists ≡ held ∷ rest
      → AreHashed hash lists
      → AreHashed hash (record (with_held (ring_place queue) rest lists)
      { next = next; room = room })
  AreHashed-rest Queue.Hot held rest next room lists split hashed = record {
    hot = (subst (λ (l : List (HeldItem K V)). AllByRecursion (λ h. h.hash ≡ hash h.item.key) l)
        split hashed.hot).1;
    cold = hashed.cold;
    still = hashed.still;
    loading = hashed.loading;
  }
  AreHashed-rest Queue.Cold held rest next room lists split hashed = record {
    hot = hashed.hot;
    cold = (subst (λ (l : List (HeldItem K V)). AllByRecursion (λ h. h.hash ≡ hash h.item.key) l)
        split hashed.cold).1;
    still = hashed.still;
    loading = hashed.loading;
  }

  -- with other ghosts
  pub AreHashed-ghosts : (ghosts : List HeldGhost) (lists : Lists K V P) → AreHashed hash lists
      → AreHashed hash (record lists { ghosts = ghosts })
  AreHashed-ghosts ghosts lists hashed = record {
    hot = hashed.hot;
    cold = hashed.cold;
    still = hashed.still;
    loading = hashed.loading;
  }

  -- the first item of a ring
  pub AreHashed-first : (queue : Queue) (held : HeldItem K V) (rest : List (HeldItem K V))
      (lists : Lists K V P) → held_at (ring_place queue) lists ≡ held ∷ rest
      → AreHashed hash lists → held.hash ≡ hash held.item.key
  AreHashed-first Queue.Hot held rest lists split hashed =
      (subst (λ (l : List (HeldItem K V)). AllByRecursion (λ h. h.hash ≡ hash h.item.key) l)
      split hashed.hot).0
  AreHashed-first Queue.Cold held rest lists split hashed =
      (subst (λ (l : List (HeldItem K V)). AllByRecursion (λ h. h.hash ≡ hash h.item.key) l)
      split hashed.cold).0

  -- with an item that weighs nothing put last
  pub AreHashed-still : (held : HeldItem K V) (next room : ℕ) (lists : Lists K V P)
      → held.hash ≡ hash held.item.key → AreHashed hash lists
      → AreHashed hash (record lists { still = lists.still ++ held ∷ []; next = next; room = room })
  AreHashed-still held next room lists is hashed = record {
    hot = hashed.hot;
    cold = hashed.cold;
    still = all-push (λ (h : HeldItem K V). h.hash ≡ hash h.item.key) lists.still held hashed.still
        is;
    loading = hashed.loading;
  }

  -- in another order of what has none
  pub AreHashed-reordered : (old new : Lists K V P) → HeldSame old new → AreHashed hash old
      → AreHashed hash new
  AreHashed-reordered old new order hashed =
      subst (λ (l : Lists K V P). AreHashed hash l) (sym order.same)
      (record {
        hot = hashed.hot;
        cold = hashed.cold;
        still = all-permutation (λ (h : HeldItem K V). h.hash ≡ hash h.item.key) old.still new.still
            order.still hashed.still;
        loading = all-permutation (λ (w : HeldLoading K P). w.hash ≡ hash w.key) old.loading
            new.loading order.loading hashed.loading;
      })

  -- and where the first of a ring lost its weight and was put last
  pub AreHashed-stays : (queue : Queue) (held : HeldItem K V) (rest : List (HeldItem K V))
      (lists new : Lists K V P) (next room t : ℕ) (left : V)
      → held_at (ring_place queue) lists ≡ held ∷ rest → AreHashed hash lists
      → HeldSame (record (held_entered (record {
        token = t;
        hash = held.hash;
        item = record held.item { value = left; weight = 0 };
      }) (with_held (ring_place queue) rest lists)) { next = next; room = room }) new
      → AreHashed hash new
  AreHashed-stays queue held rest lists new next room t left split hashed order =
      AreHashed-reordered _ new order
      (AreHashed-still (record {
        token = t;
        hash = held.hash;
        item = record held.item { value = left; weight = 0 };
      }) next room (record (with_held (ring_place queue) rest lists) { next = next; room = room })
      (AreHashed-first queue held rest lists split hashed)
      (AreHashed-rest queue held rest next room lists split hashed))

-- ---- a victim, told of states

module _ {K V : Type 0} (rules : Rules K V) (equal : K → K → Bool) where
  -- from a valid state the first of a ring leads to a valid one
  pub FirstIsEvicted-valid : (queue : Queue) (old new : CacheState K V)
      (calls : List (HookCall K V)) → FirstIsEvicted rules queue old calls new
      → IsValid equal old → IsValid equal new
  FirstIsEvicted-valid queue old new calls first valid =
      SameButOrder-valid equal first.evicts.ordered new first.evicts.same
      (EvictsVictim-valid equal rules queue
      (with_items (ring_place queue) first.rest old) first.evicts.ordered first.item calls
      first.evicts.holds (cut queue first.rest first.item first.stands)
      (λ k. let was = valid.one_entry_a_key k in
      omega (
        arith,
        was,
        keys_by-without (equal k) (ring_place queue) [] first.item first.rest old first.stands,
      ))
      (without-valid equal (ring_place queue) [] first.item first.rest old first.stands valid))
    where
      cut : (queue : Queue) (rest : List (Item K V)) (item : Item K V)
          → items_at (ring_place queue) old ≡ item ∷ rest
          → item.mark ≤ (with_items (ring_place queue) rest old).mark_cut
      cut Queue.Hot rest item stands =
          IsInPlace-marked (ring_place Queue.Hot) [] item rest old stands
          (IsValid-in_place equal old valid)
      cut Queue.Cold rest item stands =
          IsInPlace-marked (ring_place Queue.Cold) [] item rest old stands
          (IsValid-in_place equal old valid)

module _ {K V : Type 0} (rules : Rules K V) where
  -- the fate of a victim changes no ring
  pub EvictsVictim-rings : (queue : Queue) (old new : CacheState K V) (item : Item K V)
      (calls : List (HookCall K V)) → EvictsVictim rules queue old item calls new
      → (new.hot ≡ old.hot) × (new.cold ≡ old.cold)
  EvictsVictim-rings queue old _ item _ (EvictsVictim.stays left light) = (refl, refl)
  EvictsVictim-rings Queue.Hot old _ item _ (EvictsVictim.leaves left heavy) = (refl, refl)
  EvictsVictim-rings Queue.Cold old _ item _ (EvictsVictim.leaves left heavy) = (refl, refl)

  -- the ring that a victim leaves has one item fewer
  pub FirstIsEvicted-falls : (queue : Queue) (old new : CacheState K V)
      (calls : List (HookCall K V)) → FirstIsEvicted rules queue old calls new
      → length (items_at (ring_place queue) new) + 1 ≡ length (items_at (ring_place queue) old)
  FirstIsEvicted-falls Queue.Hot old new calls first =
      omega (
        arith,
        ap (λ (s : CacheState K V). length s.hot) first.evicts.same.same,
        ap length (EvictsVictim-rings Queue.Hot _ _ first.item calls first.evicts.holds).0,
        ap length first.stands,
      )
  FirstIsEvicted-falls Queue.Cold old new calls first =
      omega (
        arith,
        ap (λ (s : CacheState K V). length s.cold) first.evicts.same.same,
        ap length (EvictsVictim-rings Queue.Cold _ _ first.item calls first.evicts.holds).1,
        ap length first.stands,
      )

  -- and the other ring stays
  pub FirstIsEvicted-cold_stays : (old new : CacheState K V) (calls : List (HookCall K V))
      → FirstIsEvicted rules Queue.Hot old calls new → new.cold ≡ old.cold
  FirstIsEvicted-cold_stays old new calls first =
      ap (λ (s : CacheState K V). s.cold) first.evicts.same.same
      ∙ (EvictsVictim-rings Queue.Hot _ _ first.item calls first.evicts.holds).1

  -- that of a cold victim is the hot one
  pub FirstIsEvicted-hot_stays : (old new : CacheState K V) (calls : List (HookCall K V))
      → FirstIsEvicted rules Queue.Cold old calls new → new.hot ≡ old.hot
  FirstIsEvicted-hot_stays old new calls first =
      ap (λ (s : CacheState K V). s.hot) first.evicts.same.same
      ∙ (EvictsVictim-rings Queue.Cold _ _ first.item calls first.evicts.holds).0

module _ {K V : Type 0} (equal : K → K → Bool) where
  -- from a valid state the promotion of the first cold item leads to a valid one
  pub FirstIsPromoted-valid : (old new : CacheState K V) → FirstIsPromoted old new
      → IsValid equal old → IsValid equal new
  FirstIsPromoted-valid old new first valid =
      let item = first.item in
      let hot : Item K V = record item { mark = item.mark - 1; queue = Queue.Hot } in
      let cold = subst (λ (l : List (Item K V)). AllByRecursion (IsRingItem old.mark_cut Queue.Cold)
      l)
      first.stands valid.in_cold in
      subst (λ (s : CacheState K V). IsValid equal s) (sym first.promoted)
      (IsValid-items equal old (record old { cold = first.rest; hot = old.hot ++ hot ∷ [] }) refl
      valid
      (λ k. let was = valid.one_entry_a_key k in
      omega (
        arith,
        was,
        ap (keys (equal k)) first.stands,
        keys-cons (equal k) item first.rest,
        keys-append (equal k) old.hot (hot ∷ []),
        keys-cons (equal k) hot [],
      ))
      (record {
        in_hot = all-push (IsRingItem old.mark_cut Queue.Hot) old.hot hot valid.in_hot (record {
          weighs = cold.0.weighs;
          of_queue = refl;
          marked = omega (arith, cold.0.marked);
        });
        in_cold = cold.1;
        in_still = valid.in_still;
      }))

-- ---- a victim, told of lists

module _ {K V P W A T : Type 0} (ticket_of : P → ℕ) (contents : Contents K V W A T P) where
  -- lists that differ in the order of what has none are states that do
  pub state_of-reordered : (old new : Lists K V P) → HeldSame old new
      → SameButOrder (state_of ticket_of (record contents { lists = old }))
      (state_of ticket_of (record contents { lists = new }))
  state_of-reordered old new order = record {
    still = IsPermutation-map (λ (h : HeldItem K V). h.item) old.still new.still order.still;
    loading = IsPermutation-map (loading_entry ticket_of) old.loading new.loading order.loading;
    same = ap (λ (l : Lists K V P). state_of ticket_of (record contents { lists = l })) order.same;
  }

  module _ (rules : Rules K V) (held : HeldItem K V) (rest : List (HeldItem K V)) where
    -- a victim whose value weighs nothing any more is put among the weightless
    pub FirstIsEvicted-stays : (queue : Queue) (t hash next room : ℕ) (left : V)
        (new : Lists K V P) → held_at (ring_place queue) contents.lists ≡ held ∷ rest
        → rules.weight held.item.key left ≡ 0
        → HeldSame (record (held_entered (record {
          token = t;
          hash = hash;
          item = record held.item { value = left; weight = 0 };
        }) (with_held (ring_place queue) rest contents.lists)) { next = next; room = room }) new
        → FirstIsEvicted rules queue (state_of ticket_of contents)
        (BeforeEvict held.item.key held.item.value left ∷ [])
        (state_of ticket_of (record contents { lists = new }))
    FirstIsEvicted-stays Queue.Hot t hash next room left new split light order = record {
      item = held.item;
      rest = items_of rest;
      stands = ap items_of split;
      evicts = record {
        ordered = entered (record held.item { value = left; weight = 0 })
            (with_items (ring_place Queue.Hot) (items_of rest) (state_of ticket_of contents));
        holds = EvictsVictim.stays left light;
        same = subst (λ (l : List (Item K V)). SameButOrder
            (record (with_items (ring_place Queue.Hot) (items_of rest)
            (state_of ticket_of contents))
            { still = l }) (state_of ticket_of (record contents { lists = new })))
            (map-append (λ (h : HeldItem K V). h.item) contents.lists.still _)
            (state_of-reordered _ new order);
      };
    }
    FirstIsEvicted-stays Queue.Cold t hash next room left new split light order = record {
      item = held.item;
      rest = items_of rest;
      stands = ap items_of split;
      evicts = record {
        ordered = entered (record held.item { value = left; weight = 0 })
            (with_items (ring_place Queue.Cold) (items_of rest) (state_of ticket_of contents));
        holds = EvictsVictim.stays left light;
        same = subst (λ (l : List (Item K V)). SameButOrder
            (record (with_items (ring_place Queue.Cold) (items_of rest)
            (state_of ticket_of contents))
            { still = l }) (state_of ticket_of (record contents { lists = new })))
            (map-append (λ (h : HeldItem K V). h.item) contents.lists.still _)
            (state_of-reordered _ new order);
      };
    }

    -- a hot victim leaves
    pub FirstIsEvicted-hot : (next room : ℕ) (left : V) (new : Lists K V P)
        → contents.lists.hot ≡ held ∷ rest → 0 < rules.weight held.item.key left
        → new ≡ record contents.lists { hot = rest; next = next; room = room }
        → FirstIsEvicted rules Queue.Hot (state_of ticket_of contents)
        (BeforeEvict held.item.key held.item.value left ∷ EvictHot held.item.key left ∷ [])
        (state_of ticket_of (record contents { lists = new }))
    FirstIsEvicted-hot next room left new split heavy is = record {
      item = held.item;
      rest = items_of rest;
      stands = ap items_of split;
      evicts = UpToOrder-exact _ _
          (subst (λ (l : Lists K V P). EvictsVictim rules Queue.Hot
          (with_items (ring_place Queue.Hot) (items_of rest) (state_of ticket_of contents))
          held.item
          (BeforeEvict held.item.key held.item.value left ∷ EvictHot held.item.key left ∷ [])
          (state_of ticket_of (record contents { lists = l }))) (sym is)
          (EvictsVictim.leaves left heavy));
    }

    -- a cold victim leaves, and its hash is the newest ghost
    pub FirstIsEvicted-cold : (ghosts : List HeldGhost) (next room : ℕ) (left : V)
        (new : Lists K V P) → contents.lists.cold ≡ held ∷ rest
        → 0 < rules.weight held.item.key left
        → new ≡ record contents.lists {
          cold = rest;
          ghosts = ghosts;
          next = next;
          room = room;
        }
        → hashes_of ghosts ≡ newest contents.ghost_limit
        (hashes_of contents.lists.ghosts ++ rules.hash held.item.key ∷ [])
        → FirstIsEvicted rules Queue.Cold (state_of ticket_of contents)
        (BeforeEvict held.item.key held.item.value left ∷ EvictCold held.item.key left ∷ [])
        (state_of ticket_of (record contents { lists = new }))
    FirstIsEvicted-cold ghosts next room left new split heavy is newer = record {
      item = held.item;
      rest = items_of rest;
      stands = ap items_of split;
      evicts = UpToOrder-exact _ _
          (subst (λ (s : CacheState K V). EvictsVictim rules Queue.Cold
          (with_items (ring_place Queue.Cold) (items_of rest) (state_of ticket_of contents))
          held.item
          (BeforeEvict held.item.key held.item.value left ∷ EvictCold held.item.key left ∷ []) s)
          (sym (ap (λ (l : Lists K V P). state_of ticket_of (record contents { lists = l })) is
          ∙ ap (λ (g : List ℕ). record
          (with_items (ring_place Queue.Cold) (items_of rest) (state_of ticket_of contents))
          { ghosts = g }) newer))
          (EvictsVictim.leaves left heavy));
    }

  -- once some ghosts went from the lists without a cold item
  pub without-ghosts : (mid : Lists K V P) (rest : List (HeldItem K V)) (ghosts : List HeldGhost)
      (new : Contents K V W A T P) → mid ≡ record contents.lists { cold = rest; ghosts = ghosts }
      → new ≡ record contents {
        lists = record mid {
          ghosts = new.lists.ghosts;
          next = new.lists.next;
          room = new.lists.room;
        };
      }
      → new ≡ record contents {
        lists = record contents.lists {
          cold = rest;
          ghosts = new.lists.ghosts;
          next = new.lists.next;
          room = new.lists.room;
        };
      }
  without-ghosts mid rest ghosts new is same =
      same ∙ ap (λ (l : Lists K V P). record contents {
        lists = record l {
          ghosts = new.lists.ghosts;
          next = new.lists.next;
          room = new.lists.room;
        };
      }) is

  -- what is sound stays so where the first of a ring leaves, and its key is under its hash
  pub IsSound-evicted : (rules : Rules K V) (equal : K → K → Bool) (hash : K → ℕ) (queue : Queue)
      (calls : List (HookCall K V)) (new : Lists K V P)
      → FirstIsEvicted rules queue (state_of ticket_of contents) calls
      (state_of ticket_of (record contents { lists = new })) → IsSound ticket_of equal hash contents
      → AreHashed hash new → IsSound ticket_of equal hash (record contents { lists = new })
  IsSound-evicted rules equal hash queue calls new first sound hashed = record {
    valid = FirstIsEvicted-valid rules equal queue _ _ calls first sound.valid;
    sized = sound.sized;
    hashed = hashed;
  }

  module _ (rules : Rules K V) where
    -- the ring that a victim leaves has one item fewer
    pub ring_count-falls : (queue : Queue) (calls : List (HookCall K V)) (new : Lists K V P)
        → FirstIsEvicted rules queue (state_of ticket_of contents) calls
        (state_of ticket_of (record contents { lists = new }))
        → ring_count queue (record contents { lists = new }) + 1 ≡ ring_count queue contents
    ring_count-falls Queue.Hot calls new first =
        omega (
          arith,
          FirstIsEvicted-falls rules Queue.Hot _ _ calls first,
          length-map new.hot (λ (h : HeldItem K V). h.item),
          length-map contents.lists.hot (λ (h : HeldItem K V). h.item),
        )
    ring_count-falls Queue.Cold calls new first =
        omega (
          arith,
          FirstIsEvicted-falls rules Queue.Cold _ _ calls first,
          length-map new.cold (λ (h : HeldItem K V). h.item),
          length-map contents.lists.cold (λ (h : HeldItem K V). h.item),
        )

    -- and the other ring has as many
    pub cold_count-stays : (calls : List (HookCall K V)) (new : Lists K V P)
        → FirstIsEvicted rules Queue.Hot (state_of ticket_of contents) calls
        (state_of ticket_of (record contents { lists = new }))
        → length new.cold ≡ length contents.lists.cold
    cold_count-stays calls new first =
        omega (
          arith,
          ap length (FirstIsEvicted-cold_stays rules _ _ calls first),
          length-map new.cold (λ (h : HeldItem K V). h.item),
          length-map contents.lists.cold (λ (h : HeldItem K V). h.item),
        )

    -- that of a cold victim is the hot one
    pub hot_count-stays : (calls : List (HookCall K V)) (new : Lists K V P)
        → FirstIsEvicted rules Queue.Cold (state_of ticket_of contents) calls
        (state_of ticket_of (record contents { lists = new }))
        → length new.hot ≡ length contents.lists.hot
    hot_count-stays calls new first =
        omega (
          arith,
          ap length (FirstIsEvicted-hot_stays rules _ _ calls first),
          length-map new.hot (λ (h : HeldItem K V). h.item),
          length-map contents.lists.hot (λ (h : HeldItem K V). h.item),
        )

  module _ (held : HeldItem K V) (rest : List (HeldItem K V)) where
    -- the first cold item is promoted
    pub FirstIsPromoted-from : (new : Lists K V P) → contents.lists.cold ≡ held ∷ rest
        → new ≡ record contents.lists {
          cold = rest;
          hot = contents.lists.hot ++ record held {
            item = record held.item { mark = held.item.mark - 1; queue = Queue.Hot };
          } ∷ [];
        }
        → FirstIsPromoted (state_of ticket_of contents)
        (state_of ticket_of (record contents { lists = new }))
    FirstIsPromoted-from new split is = record {
      item = held.item;
      rest = items_of rest;
      stands = ap items_of split;
      promoted = ap (λ (l : Lists K V P). state_of ticket_of (record contents { lists = l })) is
          ∙ ap (λ (l : List (Item K V)). record (state_of ticket_of contents) {
            cold = items_of rest;
            hot = l;
          }) (map-append (λ (h : HeldItem K V). h.item) contents.lists.hot _);
    }

    -- it stays under its hash
    pub IsSound-promoted : (equal : K → K → Bool) (hash : K → ℕ) (new : Lists K V P)
        → contents.lists.cold ≡ held ∷ rest
        → new ≡ record contents.lists {
          cold = rest;
          hot = contents.lists.hot ++ record held {
            item = record held.item { mark = held.item.mark - 1; queue = Queue.Hot };
          } ∷ [];
        }
        → IsSound ticket_of equal hash contents
        → IsSound ticket_of equal hash (record contents { lists = new })
    IsSound-promoted equal hash new split is sound =
        let cold = subst
        (λ (l : List (HeldItem K V)). AllByRecursion (λ h. h.hash ≡ hash h.item.key) l) split
        sound.hashed.cold in
        record {
          valid = FirstIsPromoted-valid equal _ _ (FirstIsPromoted-from new split is) sound.valid;
          sized = sound.sized;
          hashed = subst (λ (l : Lists K V P). AreHashed hash l) (sym is) (record {
            hot = all-push (λ (h : HeldItem K V). h.hash ≡ hash h.item.key) contents.lists.hot _
                sound.hashed.hot cold.0;
            cold = cold.1;
            still = sound.hashed.still;
            loading = sound.hashed.loading;
          });
        }

    -- the first item of the cold ring weighs something
    pub first_cold-weighs : (equal : K → K → Bool) (hash : K → ℕ)
        → contents.lists.cold ≡ held ∷ rest → IsSound ticket_of equal hash contents
        → 0 < held.item.weight
    first_cold-weighs equal hash split sound =
        (subst (λ (l : List (Item K V)). AllByRecursion (IsRingItem contents.mark_cut Queue.Cold) l)
        (ap items_of split) sound.valid.in_cold).0.weighs
