-- Values that are written where they stand, and items that are weighed anew.
use Rattle.std.proofs.Common.{◌≡◌, ℕ, ◌<◌, ◌≤◌, Bool, true, false, cond, Option, Some, None, MatchOption, List, [], ◌∷◌, ◌++◌, map, refl}
use Rattle.std.proofs.Common.{sym, ap, subst, ◌∙◌, arith}
use Rattle.std.specs.Prelude.{IfNone, IfSome, IsSome}
use Rattle.std.specs.Cmp.{IsEquivalence}
use Rattle.std.specs.List.{AllByRecursion, count_by}
use Rattle.std.proofs.lemmas.List.{map-append}
use Rattle.std.proofs.lemmas.List.Sorted.{sum_by-IsPermutation}
use Rattle.quick_cache_model.specs.CacheState.{CacheState, Item, LoadingEntry, Place, InHot, InCold, InStill, SameButOrder, IsValid}
use Rattle.quick_cache_model.specs.CacheState.{keys_by, rewritten, items_at as model_items_at, with_items as model_with_items}
use Rattle.quick_cache_model.specs.Finding.{IsItemAt, HasNoItem}
use Rattle.quick_cache_model.specs.Hooks.{Rules}
use Rattle.quick_cache_model.proofs.KeyCounts.{one_if, one, keys, keys-split, keys-none, keys_by-fewer, none-from_keys}
use Rattle.quick_cache_model.proofs.OrderLaws.{SameButOrder-keys}
use Rattle.quick_cache_model.proofs.Valid.Edits.{instead-valid}
use Rattle.quick_cache_model.proofs.Valid.Places.{keys_by-rewritten, rewritten-same, IsInPlace-marked}
use Rattle.quick_cache_model.proofs.Valid.States.{IsValid-in_place}
use Rattle.quick_cache_store.specs.Lists.{HeldItem, Lists, AreApart, HasItem, FindsItem, IsItemOf, Rewrites, Reweighs, with_items}
use Rattle.quick_cache_store.specs.Lists.{with_change, with_value, with_weight}
use Rattle.quick_cache_store.specs.Views.{items_of}
use Rattle.quick_cache_store.proofs.lists.StandingLemmas.{found-same}
use Rattle.quick_cache_policy.specs.declared.contents.Contents.{Contents}
use Rattle.quick_cache_policy.specs.Contents.{AreHashed, IsSound, state_of}
use Rattle.quick_cache_policy.specs.References.{count_under, valued, with_value_under, ReweighsUnder}
use Rattle.quick_cache_policy.proofs.EnterLemmas.{state_with, with_items-state, AreHashed-instead, held-under}
use Rattle.quick_cache_policy.proofs.FindLemmas.{IsItemAt-stands}
use Rattle.quick_cache_policy.proofs.LookupLemmas.{change-at}
use Rattle.quick_cache_policy.proofs.RewriteLemmas.{over_item-sound, over_item-state}

-- what cannot be nothing is something
pub IsSome-from : {X : Type 0} (none : Type 0) (some : X → Type 0) (answer : Option X)
    → MatchOption answer none some → ¬ none → IsSome answer
IsSome-from none some None is never = absurd (never is)
IsSome-from none some (Some x) is never = refl

-- what is said of each answer is said where there is none
pub IfNone-from : {X : Type 0} (none also : Type 0) (some : X → Type 0) (answer : Option X)
    → (none → also) → MatchOption answer none some → IfNone answer also
IfNone-from none also some None to is = to is
IfNone-from none also some (Some x) to is = tt

-- and of the one that there is
pub IfSome-from : {X : Type 0} (none : Type 0) (some also : X → Type 0) (answer : Option X)
    → ((x : X) → some x → also x) → MatchOption answer none some → IfSome answer also
IfSome-from none some also None to is = tt
IfSome-from none some also (Some x) to is = to x is

module _ {K V : Type 0} (stands_for : K → Bool) where
  -- ---- how many items a query stands for

  -- an order of what has none counts nothing
  pub count_under-reordered : (old new : CacheState K V) → SameButOrder old new
      → count_under stands_for new ≡ count_under stands_for old
  count_under-reordered old new order = omega (
    arith,
    SameButOrder-keys stands_for old new order,
    sum_by-IsPermutation (λ (entry : LoadingEntry K). cond (stands_for entry.key) 1 0)
        old.loading new.loading order.loading,
  )

  -- an item that is written over one of its key is counted as that was
  pub count_under-rewritten : (place : Place) (before : List (Item K V)) (item new : Item K V)
      (after : List (Item K V)) (state : CacheState K V)
      → model_items_at place state ≡ before ++ item ∷ after → new.key ≡ item.key
      → count_under stands_for (rewritten place before new after state)
      ≡ count_under stands_for state
  count_under-rewritten place before item new after state split same = omega (
    arith,
    keys_by-rewritten stands_for place before item new after state split,
    ap (λ (s : CacheState K V). count_by (λ entry. stands_for entry.key) s.loading)
        (rewritten-same place before new after state),
    ap (one stands_for) same,
  )

  -- nothing is counted where no item is
  pub count_under-none : (state : CacheState K V) → HasNoItem stands_for state
      → count_under stands_for state ≡ 0
  count_under-none state none = omega (
    arith,
    keys-none stands_for state.hot none.hot,
    keys-none stands_for state.cold none.cold,
    keys-none stands_for state.still none.still,
  )

  -- an item that there is is counted
  pub count_under-some : (place : Place) (before : List (Item K V)) (item : Item K V)
      (after : List (Item K V)) (state : CacheState K V)
      → IsItemAt stands_for state place before item after → 0 < count_under stands_for state
  count_under-some InHot before item after state at = omega (
    arith,
    ap (keys stands_for) at.split,
    keys-split stands_for before item after,
    ap one_if at.passes,
  )
  count_under-some InCold before item after state at = omega (
    arith,
    ap (keys stands_for) at.split,
    keys-split stands_for before item after,
    ap one_if at.passes,
  )
  count_under-some InStill before item after state at = omega (
    arith,
    ap (keys stands_for) at.split,
    keys-split stands_for before item after,
    ap one_if at.passes,
  )

  -- a query stands for one key at most, where its keys are equal and no two keys of a state are
  pub keys_by-query : (equal : K → K → Bool)
      → ((first second : K) → stands_for first ≡ true → stands_for second ≡ true
      → equal first second ≡ true) → (state : CacheState K V) → IsValid equal state → (key : K)
      → stands_for key ≡ true → keys_by stands_for state ≤ 1
  keys_by-query equal same state valid key passes = omega (
    arith,
    keys_by-fewer stands_for (equal key) (λ k also. same key k passes also) state,
    valid.one_entry_a_key key,
  )

  -- ---- a value that is written

  module _ (value : V) where
    -- items of other keys stay
    valued-none : (items : List (Item K V))
        → AllByRecursion (λ item. stands_for item.key ≡ false) items
        → map (valued stands_for value) items ≡ items
    valued-none [] fail = refl
    valued-none (x ∷ xs) fail = rw (fail.0) (ap (λ l. x ∷ l) (valued-none xs fail.1))

    -- one item has the key
    valued-split : (before : List (Item K V)) (item : Item K V) (after : List (Item K V))
        → stands_for item.key ≡ true → keys stands_for (before ++ item ∷ after) ≤ 1
        → map (valued stands_for value) (before ++ item ∷ after)
        ≡ before ++ with_value value item ∷ after
    valued-split before item after passes single =
        let split = keys-split stands_for before item after in
        let here = ap one_if passes in
        map-append (valued stands_for value) before (item ∷ after)
        ∙ (λ i. valued-none before
        (none-from_keys stands_for before (omega (arith, single, split, here))) i
        ++ this passes i ∷ valued-none after
        (none-from_keys stands_for after (omega (arith, single, split, here))) i)
      where
        this : stands_for item.key ≡ true → valued stands_for value item ≡ with_value value item
        this e = rw e refl

    -- the others stand where they stood
    valued-other : (items : List (Item K V)) → keys stands_for items ≡ 0
        → map (valued stands_for value) items ≡ items
    valued-other items none = valued-none items (none-from_keys stands_for items none)

    -- the state with the value
    pub with_value_under-at : (place : Place) (before : List (Item K V)) (item : Item K V)
        (after : List (Item K V)) (state : CacheState K V)
        → IsItemAt stands_for state place before item after → keys_by stands_for state ≤ 1
        → with_value_under stands_for value state
        ≡ model_with_items place (before ++ with_value value item ∷ after) state
    with_value_under-at InHot before item after state at single =
        let split = ap (keys stands_for) at.split in
        let hot = ap (map (valued stands_for value)) at.split
        ∙ valued-split before item after at.passes (omega (arith, single, split)) in
        let cold = valued-other state.cold
        (omega (arith, single, split, keys-split stands_for before item after, ap one_if at.passes)) in
        let still = valued-other state.still
        (omega (arith, single, split, keys-split stands_for before item after, ap one_if at.passes)) in
        λ i. record state { hot = hot i; cold = cold i; still = still i }
    with_value_under-at InCold before item after state at single =
        let split = ap (keys stands_for) at.split in
        let cold = ap (map (valued stands_for value)) at.split
        ∙ valued-split before item after at.passes (omega (arith, single, split)) in
        let hot = valued-other state.hot
        (omega (arith, single, split, keys-split stands_for before item after, ap one_if at.passes)) in
        let still = valued-other state.still
        (omega (arith, single, split, keys-split stands_for before item after, ap one_if at.passes)) in
        λ i. record state { hot = hot i; cold = cold i; still = still i }
    with_value_under-at InStill before item after state at single =
        let split = ap (keys stands_for) at.split in
        let still = ap (map (valued stands_for value)) at.split
        ∙ valued-split before item after at.passes (omega (arith, single, split)) in
        let hot = valued-other state.hot
        (omega (arith, single, split, keys-split stands_for before item after, ap one_if at.passes)) in
        let cold = valued-other state.cold
        (omega (arith, single, split, keys-split stands_for before item after, ap one_if at.passes)) in
        λ i. record state { hot = hot i; cold = cold i; still = still i }

module _ {K V P W A T : Type 0} (ticket_of : P → ℕ) (contents : Contents K V W A T P)
    (apart : AreApart contents.lists) (token : ℕ) (stands_for : K → Bool) (hash : ℕ)
    (found : FindsItem stands_for hash contents.lists token) where
  -- the item that was found
  abbrev held : HeldItem K V
  held = record { token = token; hash = hash; item = found.item }

  -- it stands in the state
  pub found-there : IsItemAt stands_for (state_of ticket_of contents) found.stands.place
      (items_of found.stands.stands.before) found.item (items_of found.stands.stands.after)
  found-there = IsItemAt-stands ticket_of stands_for hash contents found.stands.place
      found.stands.stands.before held found.stands.stands.after found.stands.stands.split
      found.passes

  module _ (value : V) where
    -- the contents once its value was written
    abbrev written : Contents K V W A T P
    written = record contents { lists = with_change token (with_value value) contents.lists }

    pub changed : with_change token (with_value value) contents.lists
        ≡ with_items found.stands.place (found.stands.stands.before
        ++ record held { item = with_value value found.item } ∷ found.stands.stands.after)
        contents.lists
    changed = change-at contents.lists apart (with_value value) found.stands.place
        found.stands.stands.before found.stands.stands.after held found.stands.stands.split

    pub in_place : state_of ticket_of written
        ≡ model_with_items found.stands.place (items_of found.stands.stands.before
        ++ with_value value found.item ∷ items_of found.stands.stands.after)
        (state_of ticket_of contents)
    in_place = ap (state_with ticket_of contents) changed
        ∙ with_items-state ticket_of contents found.stands.place _ contents.lists
        ∙ ap (λ (l : List (Item K V)). model_with_items found.stands.place l
        (state_of ticket_of contents))
        (map-append (λ (h : HeldItem K V). h.item) found.stands.stands.before _)

    -- the state has the value under the query
    pub written-state : keys_by stands_for (state_of ticket_of contents) ≤ 1
        → state_of ticket_of written
        ≡ with_value_under stands_for value (state_of ticket_of contents)
    written-state single = in_place ∙ sym (with_value_under-at stands_for value
        found.stands.place (items_of found.stands.stands.before) found.item
        (items_of found.stands.stands.after) (state_of ticket_of contents) found-there single)

    -- what was sound is
    pub written-sound : (equal : K → K → Bool) (hashed : K → ℕ)
        → IsSound ticket_of equal hashed contents → IsSound ticket_of equal hashed written
    written-sound equal hashed sound = record {
      valid = subst (λ (s : CacheState K V). IsValid equal s) (sym in_place)
          (instead-valid equal found.stands.place (items_of found.stands.stands.before) found.item
          (with_value value found.item) (items_of found.stands.stands.after)
          (state_of ticket_of contents) found-there.split refl refl refl
          (IsInPlace-marked found.stands.place (items_of found.stands.stands.before) found.item
          (items_of found.stands.stands.after) (state_of ticket_of contents) found-there.split
          (IsValid-in_place equal (state_of ticket_of contents) sound.valid)) sound.valid);
      sized = sound.sized;
      hashed = subst (λ (l : Lists K V P). AreHashed hashed l) (sym changed)
          (AreHashed-instead hashed found.stands.place found.stands.stands.before held
          (record held { item = with_value value found.item }) found.stands.stands.after
          contents.lists found.stands.stands.split sound.hashed
          (held-under hashed found.stands.place found.stands.stands.before held
          found.stands.stands.after contents.lists found.stands.stands.split sound.hashed));
    }

  -- the value of the item of that token is the one under the query
  pub found-value : (item : Item K V) → IsItemOf contents.lists token item → item ≡ found.item
  found-value item is = ap (λ (h : HeldItem K V). h.item)
      (found-same contents.lists apart token held
      (record { token = token; hash = is.0; item = item }) found.stands is.1 refl refl)

  -- ---- an item that is weighed anew

  module _ (equal : K → K → Bool) (laws : IsEquivalence equal) (rules : Rules K V)
      (sound : IsSound ticket_of equal rules.hash contents) (new : Lists K V P) (weight : ℕ)
      (weight_is : weight ≡ rules.weight found.item.key found.item.value)
      (reweighs : Reweighs contents.lists token weight new) where
    -- the item that was weighed
    abbrev was : Item K V
    was = reweighs.0

    abbrev rewrites : Rewrites contents.lists token (with_weight weight was) was new
    rewrites = reweighs.1

    abbrev held_was : HeldItem K V
    held_was = record { token = token; hash = rewrites.hash; item = was }

    has : HasItem contents.lists held_was
    has = record {
      place = rewrites.place;
      stands = record {
        before = rewrites.before;
        after = rewrites.after;
        split = rewrites.split;
      };
    }

    same : was ≡ found.item
    same = found-value was (rewrites.hash, has)

    -- it is found by its own key
    own : FindsItem (equal was.key) (rules.hash was.key) contents.lists token
    own = record {
      item = was;
      stands = subst (λ h. HasItem contents.lists
          (record { token = token; hash = h; item = was }))
          (held-under rules.hash rewrites.place rewrites.before held_was rewrites.after
          contents.lists rewrites.split sound.hashed) has;
      passes = laws.refl was.key;
    }

    at : IsItemAt stands_for (state_of ticket_of contents) rewrites.place
        (items_of rewrites.before) was (items_of rewrites.after)
    at = IsItemAt-stands ticket_of stands_for hash contents rewrites.place rewrites.before held_was
        rewrites.after rewrites.split
        (subst (λ (i : Item K V). stands_for i.key ≡ true) (sym same) found.passes)

    order : SameButOrder (rewritten rewrites.place (items_of rewrites.before)
        (with_weight weight was) (items_of rewrites.after) (state_of ticket_of contents))
        (state_with ticket_of contents new)
    order = over_item-state ticket_of contents apart equal rules was.key token own
        (with_weight weight was) was new rewrites

    -- it was weighed under the query
    pub reweighed-under : ReweighsUnder stands_for rules (state_of ticket_of contents)
        (state_with ticket_of contents new)
    reweighed-under = record {
      place = rewrites.place;
      before = items_of rewrites.before;
      item = was;
      after = items_of rewrites.after;
      at = at;
      weighs = record {
        ordered = rewritten rewrites.place (items_of rewrites.before)
            (with_weight weight was) (items_of rewrites.after) (state_of ticket_of contents);
        holds = ap (λ (n : ℕ). rewritten rewrites.place (items_of rewrites.before)
            (record was { weight = n }) (items_of rewrites.after) (state_of ticket_of contents))
            (weight_is ∙ ap (λ (i : Item K V). rules.weight i.key i.value) (sym same));
        same = order;
      };
    }

    -- it is still there
    pub reweighed-there : 0 < count_under stands_for (state_with ticket_of contents new)
    reweighed-there = omega (
      arith,
      count_under-reordered stands_for _ (state_with ticket_of contents new) order,
      count_under-rewritten stands_for rewrites.place (items_of rewrites.before) was
          (with_weight weight was) (items_of rewrites.after) (state_of ticket_of contents) at.split
          refl,
      count_under-some stands_for rewrites.place (items_of rewrites.before) was
          (items_of rewrites.after) (state_of ticket_of contents) at,
    )

    -- and what was sound is
    pub reweighed-sound : IsSound ticket_of equal rules.hash (record contents { lists = new })
    reweighed-sound = over_item-sound ticket_of contents apart equal rules was.key token own
        (with_weight weight was) was new rewrites laws refl refl
        (IsInPlace-marked rewrites.place (items_of rewrites.before) was (items_of rewrites.after)
        (state_of ticket_of contents) at.split
        (IsValid-in_place equal (state_of ticket_of contents) sound.valid)) sound
