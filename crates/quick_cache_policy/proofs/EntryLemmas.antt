-- Entry calls: what becomes of an item whose value was written, once it is acted on.
use Rattle.std.proofs.Common.{◌≡◌, ℕ, ◌<◌, ◌≤◌, ◌==◌, Bool, true, false, if◌then◌else◌, List, [], ◌∷◌, ◌++◌, refl, sym, ap, subst, ◌∙◌}
use Rattle.std.proofs.Common.{arith}
use Rattle.std.proofs.lemmas.List.{append-nil}
use Rattle.quick_cache_model.specs.declared.refusal.Refusal.{Refusal}
use Rattle.quick_cache_model.specs.CacheState.{CacheState, Item, Place, InHot, InCold, InStill, UpToOrder, items_at, with_items}
use Rattle.quick_cache_model.specs.CacheState.{place_of_item, entered, rewritten, keys_by}
use Rattle.quick_cache_model.specs.Entries.{EntryChoice, Retain, Remove, ReplaceWithGuard, EntryOutcome, Kept, Removed, Replaced, Refused}
use Rattle.quick_cache_model.specs.Entries.{ActsOnEntry}
use Rattle.quick_cache_model.specs.Finding.{IsItemAt}
use Rattle.quick_cache_model.specs.Hooks.{Rules}
use Rattle.quick_cache_model.specs.Lookups.{looked_up, after_hit}
use Rattle.quick_cache_model.specs.Placeholders.{with_placeholder}
use Rattle.quick_cache_model.specs.Refusals.{IsProvided, MayRefuse, last_ticket, needs_of_replacement}
use Rattle.quick_cache_model.specs.Removal.{weighed, reweighed}
use Rattle.quick_cache_model.proofs.KeyCounts.{keys, keys-cons, keys-passes}
use Rattle.quick_cache_model.proofs.LookupLaws.{at_least, at_most}
use Rattle.quick_cache_model.proofs.OrderLaws.{UpToOrder-map}
use Rattle.quick_cache_store.specs.Lists.{with_value}
use Rattle.quick_cache_store.specs.Views.{joined_around}
use Rattle.quick_cache_policy.specs.Entering.{ActsOnWritten, CountsHit}
use Rattle.quick_cache_policy.specs.References.{ReweighsUnder}

-- where an item stands
pub record Spot (K V : Type 0) : Type 0 where
  pub place : Place
  pub before : List (Item K V)
  pub item : Item K V
  pub after : List (Item K V)

module _ {K V : Type 0} (test : K → Bool) where
  -- a list is split in one way around an item whose key passes, if no two keys do
  one_split : (before : List (Item K V)) (v : Item K V) (after front : List (Item K V))
      (w : Item K V) (back : List (Item K V))
      → before ++ v ∷ after ≡ front ++ w ∷ back → test v.key ≡ true → test w.key ≡ true
      → keys test (before ++ v ∷ after) ≤ 1 → (before ≡ front) × (v ≡ w) × (after ≡ back)
  one_split [] v after [] w back same p q single =
      let head : v ≡ w = cc in
      let tail : after ≡ back = cc in
      (refl, head, tail)
  one_split [] v after (y ∷ front) w back same p q single =
      let tail : after ≡ front ++ w ∷ back = cc in
      absurd (omega (
        arith,
        single,
        keys-passes test [] v after p,
        keys-passes test front w back q,
        ap (keys test) tail,
      ))
  one_split (x ∷ before) v after [] w back same p q single =
      let head : x ≡ w = cc in
      absurd (omega (
        arith,
        single,
        keys-passes test [] x (before ++ v ∷ after) (ap (λ (i : Item K V). test i.key) head ∙ q),
        keys-passes test before v after p,
      ))
  one_split (x ∷ before) v after (y ∷ front) w back same p q single =
      let head : x ≡ y = cc in
      let tail : before ++ v ∷ after ≡ front ++ w ∷ back = cc in
      let rest = one_split before v after front w back tail p q
      (omega (arith, single, keys-cons test x (before ++ v ∷ after))) in
      ((λ i. head i ∷ rest.0 i), rest.1, rest.2)

  module _ (state : CacheState K V) (single : keys_by test state ≤ 1) where
    abbrev spot : Place → List (Item K V) → Item K V → List (Item K V) → Spot K V
    spot place before item after =
        record { place = place; before = before; item = item; after = after }

    at_place : (place : Place) (before : List (Item K V)) (v : Item K V)
        (after front : List (Item K V)) (w : Item K V) (back : List (Item K V))
        → IsItemAt test state place before v after → IsItemAt test state place front w back
        → spot place before v after ≡ spot place front w back
    at_place place before v after front w back a b =
        let is = one_split before v after front w back (sym a.split ∙ b.split) a.passes b.passes
        (subst (λ xs. keys test xs ≤ 1) a.split (at_most test state single place)) in
        λ i. record { place = place; before = is.0 i; item = is.1 i; after = is.2 i }

    -- such an item stands at one spot
    pub one_spot : (place : Place) (before : List (Item K V)) (v : Item K V)
        (after : List (Item K V)) (other : Place) (front : List (Item K V)) (w : Item K V)
        (back : List (Item K V))
        → IsItemAt test state place before v after → IsItemAt test state other front w back
        → spot place before v after ≡ spot other front w back
    one_spot InHot before v after InHot front w back a b =
        at_place InHot before v after front w back a b
    one_spot InCold before v after InCold front w back a b =
        at_place InCold before v after front w back a b
    one_spot InStill before v after InStill front w back a b =
        at_place InStill before v after front w back a b
    one_spot InHot before v after InCold front w back a b = absurd (omega (
      arith,
      single,
      at_least test state single InHot before v after a,
      at_least test state single InCold front w back b,
    ))
    one_spot InHot before v after InStill front w back a b = absurd (omega (
      arith,
      single,
      at_least test state single InHot before v after a,
      at_least test state single InStill front w back b,
    ))
    one_spot InCold before v after InHot front w back a b = absurd (omega (
      arith,
      single,
      at_least test state single InCold before v after a,
      at_least test state single InHot front w back b,
    ))
    one_spot InCold before v after InStill front w back a b = absurd (omega (
      arith,
      single,
      at_least test state single InCold before v after a,
      at_least test state single InStill front w back b,
    ))
    one_spot InStill before v after InHot front w back a b = absurd (omega (
      arith,
      single,
      at_least test state single InStill before v after a,
      at_least test state single InHot front w back b,
    ))
    one_spot InStill before v after InCold front w back a b = absurd (omega (
      arith,
      single,
      at_least test state single InStill before v after a,
      at_least test state single InCold front w back b,
    ))

-- ---- a state with other items at a place

module _ {K V : Type 0} where
  -- it is the other but for these items
  record IsOver (place : Place) (state base : CacheState K V) : Type 0 where
    over : (before : List (Item K V)) (y : Item K V) (after : List (Item K V))
        → rewritten place before y after state ≡ rewritten place before y after base
    cut : state.mark_cut ≡ base.mark_cut
    ticket : state.next_ticket ≡ base.next_ticket

  over-items : (place : Place) (items : List (Item K V)) (base : CacheState K V)
      → IsOver place (with_items place items base) base
  over-items InHot items base =
      record { over = λ before y after. refl; cut = refl; ticket = refl }
  over-items InCold items base =
      record { over = λ before y after. refl; cut = refl; ticket = refl }
  over-items InStill items base =
      record { over = λ before y after. refl; cut = refl; ticket = refl }

  -- these are its items there
  items-there : (place : Place) (items : List (Item K V)) (base : CacheState K V)
      → items_at place (with_items place items base) ≡ items
  items-there InHot items base = refl
  items-there InCold items base = refl
  items-there InStill items base = refl

  -- and the last of them can be taken back
  taken_back : (place : Place) (y : Item K V) (state : CacheState K V)
      → with_items place (items_at place state ++ [])
      (with_items place (items_at place state ++ y ∷ []) state)
      ≡ state
  taken_back InHot y state =
      ap (λ (l : List (Item K V)). record state { hot = l }) (append-nil state.hot)
  taken_back InCold y state =
      ap (λ (l : List (Item K V)). record state { cold = l }) (append-nil state.cold)
  taken_back InStill y state =
      ap (λ (l : List (Item K V)). record state { still = l }) (append-nil state.still)

  -- a hit that is counted before an item is written over another, or behind
  entered-hit : (y : Item K V) (state : CacheState K V)
      → entered y (after_hit state) ≡ after_hit (entered y state)
  entered-hit y state = go (place_of_item y)
    where
      go : (place : Place)
          → with_items place (items_at place (after_hit state) ++ y ∷ []) (after_hit state)
          ≡ after_hit (with_items place (items_at place state ++ y ∷ []) state)
      go InHot = refl
      go InCold = refl
      go InStill = refl

  rewritten-hit : (place : Place) (before : List (Item K V)) (y : Item K V)
      (after : List (Item K V)) (state : CacheState K V)
      → rewritten place before y after (after_hit state)
      ≡ after_hit (rewritten place before y after state)
  rewritten-hit InStill before y after state = go (y.weight == 0)
    where
      go : (b : Bool)
          → (if b then with_items InStill (before ++ y ∷ after) (after_hit state)
          else entered y (with_items InStill (before ++ after) (after_hit state)))
          ≡ after_hit (if b then with_items InStill (before ++ y ∷ after) state
          else entered y (with_items InStill (before ++ after) state))
      go true = refl
      go false = entered-hit y (with_items InStill (before ++ after) state)
  rewritten-hit InHot before y after state = go (y.weight == 0)
    where
      go : (b : Bool)
          → (if b then entered y (with_items InHot (after ++ before) (after_hit state))
          else with_items InHot (before ++ y ∷ after) (after_hit state))
          ≡ after_hit (if b then entered y (with_items InHot (after ++ before) state)
          else with_items InHot (before ++ y ∷ after) state)
      go true = entered-hit y (with_items InHot (after ++ before) state)
      go false = refl
  rewritten-hit InCold before y after state = go (y.weight == 0)
    where
      go : (b : Bool)
          → (if b then entered y (with_items InCold (after ++ before) (after_hit state))
          else with_items InCold (before ++ y ∷ after) (after_hit state))
          ≡ after_hit (if b then entered y (with_items InCold (after ++ before) state)
          else with_items InCold (before ++ y ∷ after) state)
      go true = entered-hit y (with_items InCold (after ++ before) state)
      go false = refl

-- ---- why none is replaced

module _ {K V : Type 0} (state base : CacheState K V) (same : state.next_ticket ≡ base.next_ticket)
  where
    provided-same : IsProvided needs_of_replacement state → IsProvided needs_of_replacement base
    provided-same provided = record {
      ticket = λ _. subst (λ (n : ℕ). n < last_ticket) same (provided.ticket tt);
      slot = λ none. absurd none;
    }

    refused-same : (refusal : Refusal) → MayRefuse needs_of_replacement state refusal
        → MayRefuse needs_of_replacement base refusal
    refused-same _ (MayRefuse.tickets_spent needs spent) =
        MayRefuse.tickets_spent tt (subst (λ (n : ℕ). last_ticket ≤ n) same spent)
    refused-same _ (MayRefuse.slots_full has needs full) = absurd needs
    refused-same _ (MayRefuse.memory_refused provided needs) =
        MayRefuse.memory_refused (provided-same provided) tt

-- ---- an item whose value was written

module _ {K V : Type 0} (rules : Rules K V) (stands_for : K → Bool) (base : CacheState K V)
    (place : Place) (before : List (Item K V)) (item : Item K V) (after : List (Item K V))
    (left : V) (at : IsItemAt stands_for base place before item after) where
  -- the state with the value
  abbrev pub shown_state : CacheState K V
  shown_state = with_items place (before ++ with_value left item ∷ after) base

  module _ (single : keys_by stands_for shown_state ≤ 1) where
    at_now : IsItemAt stands_for shown_state place before (with_value left item) after
    at_now = record {
      split = items-there place (before ++ with_value left item ∷ after) base;
      passes = at.passes;
    }

    is_over : IsOver place shown_state base
    is_over = over-items place (before ++ with_value left item ∷ after) base

    -- the state once the item of a spot was weighed
    abbrev weighed_at : Spot K V → CacheState K V
    weighed_at s = reweighed rules s.place s.before s.item s.after s.item.value shown_state

    weighs : weighed_at (record { place = place; before = before; item = with_value left item; after = after })
        ≡ reweighed rules place before item after left base
    weighs = is_over.over before (weighed rules item left) after

    -- what was done to the written item was done to the item, with the value that was left
    pub shown-acts : (other : Item K V) (choice : EntryChoice) (outcome : EntryOutcome)
        (new : CacheState K V)
        → ActsOnEntry rules stands_for shown_state other other.value choice outcome new
        → ActsOnEntry rules stands_for base item left choice outcome new
    shown-acts other _ _ _ (ActsOnEntry.kept p b a there) =
        subst (λ (s : Spot K V). ActsOnEntry rules stands_for base item left Retain Kept
        (after_hit (reweighed rules s.place s.before (looked_up shown_state.mark_cut s.item) s.after
        s.item.value shown_state)))
        (one_spot stands_for shown_state single place before (with_value left item) after p b other
        a at_now there)
        (subst (λ (s : CacheState K V). ActsOnEntry rules stands_for base item left Retain Kept
        (after_hit s))
        (sym (ap (λ (n : ℕ). reweighed rules place before (looked_up n (with_value left item)) after
        left shown_state) is_over.cut
        ∙ is_over.over before (weighed rules (looked_up base.mark_cut item) left) after))
        (ActsOnEntry.kept place before after at))
    shown-acts other _ _ _ (ActsOnEntry.removed p b a now front back there again) =
        subst (λ (s : Spot K V). IsItemAt stands_for (weighed_at s) now front
        (weighed rules s.item s.item.value) back
        → ActsOnEntry rules stands_for base item left Remove Removed
        (with_items now (front ++ back) (weighed_at s)))
        (one_spot stands_for shown_state single place before (with_value left item) after p b other
        a at_now there)
        (subst (λ (m : CacheState K V). IsItemAt stands_for m now front (weighed rules item left)
        back → ActsOnEntry rules stands_for base item left Remove Removed
        (with_items now (front ++ back) m)) (sym weighs)
        (λ stands. ActsOnEntry.removed place before after now front back at stands))
        again
    shown-acts other _ _ _ (ActsOnEntry.replaced p b a now front back there again provided) =
        subst (λ (s : Spot K V). IsItemAt stands_for (weighed_at s) now front
        (weighed rules s.item s.item.value) back
        → ActsOnEntry rules stands_for base item left ReplaceWithGuard Replaced
        (with_placeholder s.item.key s.item.queue
        (with_items now (front ++ back) (weighed_at s))))
        (one_spot stands_for shown_state single place before (with_value left item) after p b other
        a at_now there)
        (subst (λ (m : CacheState K V). IsItemAt stands_for m now front (weighed rules item left)
        back → ActsOnEntry rules stands_for base item left ReplaceWithGuard Replaced
        (with_placeholder item.key item.queue (with_items now (front ++ back) m))) (sym weighs)
        (λ stands. ActsOnEntry.replaced place before after now front back at stands
        (provided-same shown_state base is_over.ticket provided)))
        again
    shown-acts other _ _ _ (ActsOnEntry.refused p b a refusal there may) =
        subst (λ (s : Spot K V). ActsOnEntry rules stands_for base item left ReplaceWithGuard
        (Refused refusal) (weighed_at s))
        (one_spot stands_for shown_state single place before (with_value left item) after p b other
        a at_now there)
        (subst (λ (m : CacheState K V). ActsOnEntry rules stands_for base item left ReplaceWithGuard
        (Refused refusal) m) (sym weighs)
        (ActsOnEntry.refused place before after refusal at
        (refused-same shown_state base is_over.ticket refusal may)))

    -- the written item is the one that was acted on
    pub shown-item : (other : Item K V) (choice : EntryChoice) (outcome : EntryOutcome)
        (new : CacheState K V)
        → ActsOnEntry rules stands_for shown_state other other.value choice outcome new
        → other ≡ with_value left item
    shown-item other _ _ _ (ActsOnEntry.kept p b a there) = sym (ap (λ (s : Spot K V). s.item)
        (one_spot stands_for shown_state single place before (with_value left item) after p b other
        a at_now there))
    shown-item other _ _ _ (ActsOnEntry.removed p b a now front back there again) =
        sym (ap (λ (s : Spot K V). s.item)
        (one_spot stands_for shown_state single place before (with_value left item) after p b other
        a at_now there))
    shown-item other _ _ _ (ActsOnEntry.replaced p b a now front back there again provided) =
        sym (ap (λ (s : Spot K V). s.item)
        (one_spot stands_for shown_state single place before (with_value left item) after p b other
        a at_now there))
    shown-item other _ _ _ (ActsOnEntry.refused p b a refusal there may) =
        sym (ap (λ (s : Spot K V). s.item)
        (one_spot stands_for shown_state single place before (with_value left item) after p b other
        a at_now there))

  -- so it is in each state with the value
  pub written-acts : (state : CacheState K V) → state ≡ shown_state
      → keys_by stands_for state ≤ 1 → (choice : EntryChoice) (outcome : EntryOutcome)
      (other : Item K V) (new : CacheState K V)
      → UpToOrder (ActsOnEntry rules stands_for state other other.value choice outcome) new
      → UpToOrder (ActsOnEntry rules stands_for base item left choice outcome) new
  written-acts state is single choice outcome other new =
      subst (λ (s : CacheState K V). keys_by stands_for s ≤ 1
      → UpToOrder (ActsOnEntry rules stands_for s other other.value choice outcome) new
      → UpToOrder (ActsOnEntry rules stands_for base item left choice outcome) new) (sym is)
      (λ one. UpToOrder-map
      (λ s. ActsOnEntry rules stands_for shown_state other other.value choice outcome s)
      (λ s. ActsOnEntry rules stands_for base item left choice outcome s) new
      (λ s acts. shown-acts one other choice outcome s acts))
      single

  pub written-item : (state : CacheState K V) → state ≡ shown_state
      → keys_by stands_for state ≤ 1 → (choice : EntryChoice) (outcome : EntryOutcome)
      (other : Item K V) (new : CacheState K V)
      → UpToOrder (ActsOnEntry rules stands_for state other other.value choice outcome) new
      → other ≡ with_value left item
  written-item state is single choice outcome other new =
      subst (λ (s : CacheState K V). keys_by stands_for s ≤ 1
      → UpToOrder (ActsOnEntry rules stands_for s other other.value choice outcome) new
      → other ≡ with_value left item) (sym is)
      (λ one up. shown-item one other choice outcome up.ordered up.holds)
      single

-- ---- an item that stays

module _ {K V : Type 0} (rules : Rules K V) (stands_for : K → Bool) (old mid new : CacheState K V)
  where
    -- it was looked up and then weighed
    pub kept-acts : CountsHit stands_for old mid → keys_by stands_for mid ≤ 1
        → ReweighsUnder stands_for rules mid new
        → ActsOnWritten rules stands_for old Retain Kept new
    kept-acts counts single weighs =
        let item = counts.item in
        let looked = looked_up old.mark_cut item in
        let hit = after_hit old in
        let items = counts.before ++ looked ∷ counts.after in
        let at : IsItemAt stands_for mid counts.place counts.before looked counts.after = record {
          split = ap (items_at counts.place) counts.rest ∙ items-there counts.place items hit;
          passes = counts.at.passes;
        } in
        let one = one_spot stands_for mid single counts.place counts.before looked counts.after
        weighs.place weighs.before weighs.item weighs.after at weighs.at in
        let over = over-items counts.place items hit in
        let is : reweighed rules counts.place counts.before looked counts.after item.value mid
        ≡ after_hit (reweighed rules counts.place counts.before looked counts.after item.value old) =
        ap (λ (s : CacheState K V). reweighed rules counts.place counts.before looked counts.after
        item.value s) counts.rest
        ∙ over.over counts.before (weighed rules looked item.value) counts.after
        ∙ rewritten-hit counts.place counts.before (weighed rules looked item.value) counts.after old
        in record {
          item = item;
          step = UpToOrder-map
              (λ s. s ≡ reweighed rules weighs.place weighs.before weighs.item weighs.after
              weighs.item.value mid)
              (λ s. ActsOnEntry rules stands_for old item item.value Retain Kept s) new
              (λ s same. subst (λ (s : CacheState K V). ActsOnEntry rules stands_for old item
              item.value Retain Kept s) (sym same)
              (subst (λ (s : Spot K V). ActsOnEntry rules stands_for old item item.value Retain Kept
              (reweighed rules s.place s.before s.item s.after s.item.value mid)) one
              (subst (λ (s : CacheState K V). ActsOnEntry rules stands_for old item item.value Retain
              Kept s) (sym is)
              (ActsOnEntry.kept counts.place counts.before counts.after counts.at))))
              weighs.weighs;
        }

    -- it was to be replaced, and was only weighed
    pub refused-acts : ReweighsUnder stands_for rules old new → (refusal : Refusal)
        → MayRefuse needs_of_replacement old refusal
        → ActsOnWritten rules stands_for old ReplaceWithGuard (Refused refusal) new
    refused-acts weighs refusal may = record {
      item = weighs.item;
      step = UpToOrder-map
          (λ s. s ≡ reweighed rules weighs.place weighs.before weighs.item weighs.after
          weighs.item.value old)
          (λ s. ActsOnEntry rules stands_for old weighs.item weighs.item.value ReplaceWithGuard
          (Refused refusal) s) new
          (λ s same. subst (λ (s : CacheState K V). ActsOnEntry rules stands_for old weighs.item
          weighs.item.value ReplaceWithGuard (Refused refusal) s) (sym same)
          (ActsOnEntry.refused weighs.place weighs.before weighs.after refusal weighs.at may))
          weighs.weighs;
    }

-- ---- an item that goes

-- the item stands in the state, and without it that is left
pub record Goes {K V : Type 0} (stands_for : K → Bool) (state : CacheState K V) (item : Item K V)
    (rest : CacheState K V) : Type 0 where
  pub place : Place
  pub before : List (Item K V)
  pub after : List (Item K V)
  pub at : IsItemAt stands_for state place before item after
  pub left : with_items place (before ++ after) state ≡ rest

module _ {K V : Type 0} where
  -- what an item leaves that stood between these two: its ring, begun behind it where it restarts
  abbrev pub left_from : Place → Bool → (before after : List (Item K V)) → CacheState K V
      → CacheState K V
  left_from InStill restarts before after state = with_items InStill (before ++ after) state
  left_from InHot restarts before after state =
      with_items InHot (joined_around restarts before after) state
  left_from InCold restarts before after state =
      with_items InCold (joined_around restarts before after) state

  module _ (stands_for : K → Bool) where
    goes-entered : (item : Item K V) (state : CacheState K V) → stands_for item.key ≡ true
        → Goes stands_for (entered item state) item state
    goes-entered item state passes = record {
      place = place_of_item item;
      before = items_at (place_of_item item) state;
      after = [];
      at = record {
        split = items-there (place_of_item item) (items_at (place_of_item item) state ++ item ∷ [])
            state;
        passes = passes;
      };
      left = taken_back (place_of_item item) item state;
    }

    goes-from : (place : Place) (before : List (Item K V)) (item : Item K V)
        (after : List (Item K V)) (state : CacheState K V) → stands_for item.key ≡ true
        → Goes stands_for (with_items place (before ++ item ∷ after) state) item
        (with_items place (before ++ after) state)
    goes-from InHot before item after state passes = record {
      place = InHot;
      before = before;
      after = after;
      at = record { split = refl; passes = passes };
      left = refl;
    }
    goes-from InCold before item after state passes = record {
      place = InCold;
      before = before;
      after = after;
      at = record { split = refl; passes = passes };
      left = refl;
    }
    goes-from InStill before item after state passes = record {
      place = InStill;
      before = before;
      after = after;
      at = record { split = refl; passes = passes };
      left = refl;
    }

    -- an item that was written over another goes
    pub goes-rewritten : (place : Place) (before : List (Item K V)) (item : Item K V)
        (after : List (Item K V)) (state : CacheState K V) → stands_for item.key ≡ true
        → Goes stands_for (rewritten place before item after state) item
        (left_from place (item.weight == 0) before after state)
    goes-rewritten InStill before item after state passes = go (item.weight == 0)
      where
        go : (b : Bool) → Goes stands_for
            (if b then with_items InStill (before ++ item ∷ after) state
            else entered item (with_items InStill (before ++ after) state)) item
            (with_items InStill (before ++ after) state)
        go true = goes-from InStill before item after state passes
        go false = goes-entered item (with_items InStill (before ++ after) state) passes
    goes-rewritten InHot before item after state passes = go (item.weight == 0)
      where
        go : (b : Bool) → Goes stands_for
            (if b then entered item (with_items InHot (after ++ before) state)
            else with_items InHot (before ++ item ∷ after) state) item
            (with_items InHot (joined_around b before after) state)
        go true = goes-entered item (with_items InHot (after ++ before) state) passes
        go false = goes-from InHot before item after state passes
    goes-rewritten InCold before item after state passes = go (item.weight == 0)
      where
        go : (b : Bool) → Goes stands_for
            (if b then entered item (with_items InCold (after ++ before) state)
            else with_items InCold (before ++ item ∷ after) state) item
            (with_items InCold (joined_around b before after) state)
        go true = goes-entered item (with_items InCold (after ++ before) state) passes
        go false = goes-from InCold before item after state passes

module _ {K V : Type 0} (rules : Rules K V) (stands_for : K → Bool) (old : CacheState K V)
    (place : Place) (before : List (Item K V)) (item : Item K V) (after : List (Item K V))
    (at : IsItemAt stands_for old place before item after) where
  -- what it leaves, once it was weighed
  abbrev pub left_of : CacheState K V
  left_of = left_from place (rules.weight item.key item.value == 0) before after old

  goes : Goes stands_for (reweighed rules place before item after item.value old)
      (weighed rules item item.value) left_of
  goes = goes-rewritten stands_for place before (weighed rules item item.value) after old at.passes

  -- it was removed
  pub removed-acts : ActsOnEntry rules stands_for old item item.value Remove Removed left_of
  removed-acts = subst (λ (s : CacheState K V). ActsOnEntry rules stands_for old item item.value
      Remove Removed s) goes.left
      (ActsOnEntry.removed place before after goes.place goes.before goes.after at goes.at)

  -- or replaced
  pub replaced-acts : IsProvided needs_of_replacement old
      → ActsOnEntry rules stands_for old item item.value ReplaceWithGuard Replaced
      (with_placeholder item.key item.queue left_of)
  replaced-acts provided = subst (λ (s : CacheState K V). ActsOnEntry rules stands_for old item
      item.value ReplaceWithGuard Replaced (with_placeholder item.key item.queue s)) goes.left
      (ActsOnEntry.replaced place before after goes.place goes.before goes.after at goes.at
      provided)
