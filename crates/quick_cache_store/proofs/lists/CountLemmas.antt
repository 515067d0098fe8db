-- How many entries there are, once one came or went.
use Rattle.std.proofs.Common.{◌≡◌, ℕ, ◌+◌, ◌<◌, ◌≤◌, ◌==◌, if◌then◌else◌, Bool, true, false, List, [], ◌∷◌, ◌++◌, map, length, refl, ap}
use Rattle.std.proofs.Common.{◌∙◌, inl, inr, arith}
use Rattle.std.proofs.lemmas.Bool.Decides.{nat_tests}
use Rattle.std.proofs.lemmas.Bool.{cases_eq, eq-eqb, ne_eqb}
use Rattle.std.proofs.lemmas.List.{length-append, length-map, map-append}
use Rattle.std.proofs.lemmas.List.Sorted.{length_permutation}
use Rattle.quick_cache_model.specs.CacheState.{Item, Place, InHot, InCold, InStill, place_of_item}
use Rattle.quick_cache_model.specs.declared.queue.Queue.{Queue}
use Rattle.quick_cache_store.specs.Pool.{times}
use Rattle.quick_cache_store.proofs.pool.TokenCounts.{times-here, times-other, times-append}
use Rattle.quick_cache_store.specs.declared.slots.entry.Entry.{Entry}
use Rattle.quick_cache_store.specs.declared.slots.entry.Slot.{Slot}
use Rattle.quick_cache_store.specs.Lists.{HeldItem, Lists, StandsIn, items_at, with_items, SameButOrder, PutsLast, PutsItem, HasEntry}
use Rattle.quick_cache_store.specs.Lists.{IsEntry, AreApart, dropped, ahead_of, behind, left_by, without_entry, entries_of, entry_count}
use Rattle.quick_cache_store.specs.Lists.{changed_held, with_change}
use Rattle.quick_cache_store.specs.ListSlots.{AmongStill, ring_stand, stand_in, loading_in}

module _ {Y : Type 0} (name : Y → ℕ) (t : ℕ) where
  pub length-dropped : (xs : List Y)
      → length (dropped name t xs) + times t (map name xs) ≡ length xs
  length-dropped [] = refl
  length-dropped (x ∷ xs) = elim (cases_eq (name x) t) [
    | inl same ↦ rw (eq-eqb (name x) t same) (omega (arith, length-dropped xs))
    | inr other ↦ rw (ne_eqb (name x) t other) (omega (arith, length-dropped xs))
  ]

  length-cut : (xs : List Y) → times t (map name xs) ≤ 1
      → length (behind name t xs) + length (ahead_of name t xs) + times t (map name xs) ≡ length xs
  length-cut [] few = refl
  length-cut (x ∷ xs) few = elim (cases_eq (name x) t) [
    | inl same ↦
        let once : times t (map name xs) ≡ 0 =
        omega (
          arith,
          few,
          ap (times t) (ap (λ (n : ℕ). n ∷ map name xs) same),
          times-here t
              (map name xs),
        ) in
        rw (eq-eqb (name x) t same) (omega (arith, once))
    | inr other ↦
        let fewer : times t (map name xs) ≤ 1 =
        omega (arith, few, times-other t (name x) (map name xs) other) in
        rw (ne_eqb (name x) t other) (omega (arith, length-cut xs fewer))
  ]

  pub length-left_by : (restarts : Bool) (xs : List Y) → times t (map name xs) ≤ 1
      → length (left_by restarts name t xs) + times t (map name xs) ≡ length xs
  length-left_by false xs few = length-dropped xs
  length-left_by true xs few =
      omega (arith, length-append (behind name t xs) (ahead_of name t xs), length-cut xs few)

  pub times-stands : (xs : List Y) (x : Y) → StandsIn xs x → name x ≡ t → 0 < times t (map name xs)
  times-stands xs x stands is =
      let all = times-append t (map name stands.before) (map name (x ∷ stands.after)) in
      let here = ap (times t) (ap (λ (n : ℕ). n ∷ map name stands.after) is) in
      omega (
        arith,
        ap (times t) (ap (map name) stands.split
            ∙ map-append name stands.before (x ∷ stands.after)),
        all,
        here,
        times-here t
            (map name stands.after),
      )

in_ring-heavy : (weight : ℕ) → 0 < weight → (if weight == 0 then false else true) ≡ true
in_ring-heavy weight heavy = grind (arith, nat_tests, heavy)

-- an item is no placeholder
pub loading_in-item : (b : Bool) (q : Queue)
    → loading_in (if b then AmongStill else ring_stand q) ≡ 0
loading_in-item true q = refl
loading_in-item false Queue.Hot = refl
loading_in-item false Queue.Cold = refl

module _ {K V P : Type 0} where
  -- ---- one came

  pub record IsMore (old new : Lists K V P) (loading : ℕ) : Type 0 where
    pub all : entry_count new ≡ entry_count old + 1
    pub waiting : length new.loading ≡ length old.loading + loading

  counts : (old new : Lists K V P) → SameButOrder old new → (entry_count new ≡ entry_count old)
      × (length new.loading ≡ length old.loading)
  counts old new same =
      let hot = ap (λ (l : Lists K V P). length l.hot) same.same in
      let cold = ap (λ (l : Lists K V P). length l.cold) same.same in
      let ghosts = ap (λ (l : Lists K V P). length l.ghosts) same.same in
      let loading = length_permutation old.loading new.loading same.loading in (
        omega (arith, hot, cold, ghosts, loading, length_permutation old.still new.still same.still),
        loading,
      )

module _ {K V P T : Type 0} where
  pub IsMore-put : (old new : Lists K V P) (token hash : ℕ) (entry : Entry K V P T)
      → PutsLast old token hash entry new → IsMore old new (loading_in (stand_in entry))
  IsMore-put old new token hash (Entry.Item item) puts = by_place (place_of_item item) puts.put
    where
      held : HeldItem K V
      held = record { token = token; hash = hash; item = item }

      by_place : (p : Place) → SameButOrder
          (record (with_items p (items_at p old ++ held ∷ []) old)
          { next = new.next; room = new.room }) new
          → IsMore old new (loading_in (stand_in {K = K} {V = V} {P = P} {T = T}
          (Entry.Item item)))
      by_place InHot same =
          let both = counts _ new same in
          record {
            all = omega (arith, both.0, length-append old.hot (held ∷ []));
            waiting = omega (arith, both.1, loading_in-item (item.weight == 0) item.queue);
          }
      by_place InCold same =
          let both = counts _ new same in
          record {
            all = omega (arith, both.0, length-append old.cold (held ∷ []));
            waiting = omega (arith, both.1, loading_in-item (item.weight == 0) item.queue);
          }
      by_place InStill same =
          let both = counts _ new same in
          record {
            all = omega (arith, both.0, length-append old.still (held ∷ []));
            waiting = omega (arith, both.1, loading_in-item (item.weight == 0) item.queue);
          }
  IsMore-put old new token hash (Entry.Loading awaited) puts =
      let both = counts _ new puts.put in
      let more = length-append old.loading
      (record {
        token = token;
        hash = hash;
        key = awaited.key;
        queue = awaited.queue;
        placeholder = awaited.placeholder;
      } ∷ []) in
      record { all = omega (arith, both.0, more); waiting = omega (arith, both.1, more) }
  IsMore-put old new token hash Entry.Ghost puts =
      let both = counts _ new puts.put in
      let more = length-append old.ghosts (record { token = token; hash = hash } ∷ []) in
      record { all = omega (arith, both.0, more); waiting = omega (arith, both.1) }

module _ {K V P : Type 0} where
  -- ---- one went

  pub record IsLess (old new : Lists K V P) (loading : ℕ) : Type 0 where
    pub all : entry_count new + 1 ≡ entry_count old
    pub waiting : length new.loading + loading ≡ length old.loading

  pub has_entry_once : (lists : Lists K V P) (t : ℕ) → AreApart lists → HasEntry lists t
      → entries_of t lists ≡ 1
  has_entry_once lists t apart has = elim has [
    | inl item ↦ by_place item.0 item.1.place item.1.stands item.2
    | inr rest ↦ elim rest [
      | inl loading ↦ omega (
        arith,
        apart t,
        times-stands
            (λ w. w.token) t lists.loading loading.0 loading.1 loading.2,
      )
      | inr shade ↦ omega (
        arith,
        apart t,
        times-stands
            (λ h. h.token) t lists.ghosts shade.0 shade.1 shade.2,
      )
    ]
  ]
    where
      by_place : (held : HeldItem K V) (p : Place) → StandsIn (items_at p lists) held
          → held.token ≡ t → entries_of t lists ≡ 1
      by_place held InHot stands is =
          omega (arith, apart t, times-stands (λ h. h.token) t lists.hot held stands is)
      by_place held InCold stands is =
          omega (arith, apart t, times-stands (λ h. h.token) t lists.cold held stands is)
      by_place held InStill stands is =
          omega (arith, apart t, times-stands (λ h. h.token) t lists.still held stands is)

  pub entry_count-without : (restarts : Bool) (t : ℕ) (lists : Lists K V P) → AreApart lists
      → entry_count (without_entry restarts t lists) + entries_of t lists ≡ entry_count lists
  entry_count-without restarts t lists apart =
      let once = apart t in
      omega (
        arith,
        length-left_by (λ h. h.token) t restarts lists.hot (omega (arith, once)),
        length-left_by (λ h. h.token) t restarts lists.cold (omega (arith, once)),
        length-dropped (λ h. h.token) t lists.still,
        length-dropped (λ w. w.token) t lists.loading,
        length-left_by (λ h. h.token) t restarts lists.ghosts (omega (arith, once)),
      )

module _ {K V P T : Type 0} where
  pub has_entry : (lists : Lists K V P) (t hash : ℕ) (entry : Entry K V P T)
      → IsEntry lists t hash entry → HasEntry lists t
  has_entry lists t hash (Entry.Item item) is =
      inl (record { token = t; hash = hash; item = item }, is, refl)
  has_entry lists t hash (Entry.Loading awaited) is = inr (inl (_, is, refl))
  has_entry lists t hash Entry.Ghost is = inr (inr (_, is, refl))

  -- an entry's token is among the placeholders where it is one
  pub times-loading : (lists : Lists K V P) (t hash : ℕ) (entry : Entry K V P T) → AreApart lists
      → IsEntry lists t hash entry → times t (map (λ w. w.token) lists.loading)
      ≡ loading_in (stand_in entry)
  times-loading lists t hash (Entry.Item item) apart is = by_place is.place is.stands
    where
      held : HeldItem K V
      held = record { token = t; hash = hash; item = item }

      by_place : (p : Place) → StandsIn (items_at p lists) held
          → times t (map (λ w. w.token) lists.loading)
          ≡ loading_in (stand_in {K = K} {V = V} {P = P} {T = T} (Entry.Item item))
      by_place InHot stands = omega (
        arith,
        apart t,
        times-stands
            (λ h. h.token) t lists.hot held stands refl,
        loading_in-item
            (item.weight == 0) item.queue,
      )
      by_place InCold stands = omega (
        arith,
        apart t,
        times-stands (λ h. h.token) t lists.cold held stands refl,
        loading_in-item (item.weight == 0) item.queue,
      )
      by_place InStill stands = omega (
        arith,
        apart t,
        times-stands (λ h. h.token) t lists.still held stands refl,
        loading_in-item (item.weight == 0) item.queue,
      )
  times-loading lists t hash (Entry.Loading awaited) apart is =
      omega (arith, apart t, times-stands (λ w. w.token) t lists.loading _ is refl)
  times-loading lists t hash Entry.Ghost apart is =
      omega (arith, apart t, times-stands (λ h. h.token) t lists.ghosts _ is refl)

  pub IsLess-without : (lists : Lists K V P) (t hash : ℕ) (entry : Entry K V P T) (restarts : Bool)
      → AreApart lists → IsEntry lists t hash entry
      → IsLess lists (without_entry restarts t lists) (loading_in (stand_in entry))
  IsLess-without lists t hash entry restarts apart is = record {
    all = omega (
      arith,
      entry_count-without restarts t lists apart,
      has_entry_once lists t apart
          (has_entry lists t hash entry is),
    );
    waiting = omega (
      arith,
      length-dropped
          (λ w. w.token) t lists.loading,
      times-loading lists t hash entry apart is,
    );
  }

module _ {K V P : Type 0} where
  pub entry_count-change : (t : ℕ) (change : Item K V → Item K V) (lists : Lists K V P)
      → entry_count (with_change t change lists) ≡ entry_count lists
  entry_count-change t change lists =
      omega (
        arith,
        length-map lists.hot (changed_held t change),
        length-map lists.cold
            (changed_held t change),
        length-map lists.still (changed_held t change),
      )

module _ {K V P T : Type 0} where
  pub loading_in-slot : (slot : Slot K V P T) (hash : ℕ) (item : Item K V)
      → slot ≡ record { hash = hash; entry = Entry.Item item }
      → loading_in (stand_in slot.entry) ≡ 0
  loading_in-slot slot hash item is =
      ap (λ (s : Slot K V P T). loading_in (stand_in s.entry)) is
      ∙ loading_in-item (item.weight == 0) item.queue

  pub PutsItem-from : (old new : Lists K V P) (token hash : ℕ) (item : Item K V)
      → PutsLast {T = T} old token hash (Entry.Item item) new → PutsItem old token hash item new
  PutsItem-from old new token hash item last = record {
    put = last.put;
    in_ring = λ heavy. last.in_ring (in_ring-heavy item.weight heavy);
    loading_stays = last.loading_stays refl;
  }
