-- What a caller knows that wrote a value under a query.
use Rattle.std.proofs.Common.{◌≡◌, ◌≤◌, Bool, true, false, if◌then◌else◌, List, [], ◌++◌, ◌∷◌, map, refl, ap, subst, sym, ◌∙◌, arith}
use Rattle.std.specs.List.{AllByRecursion}
use Rattle.quick_cache_model.specs.References.{WritesItem}
use Rattle.quick_cache_model.specs.CacheState.{CacheState, Item, Place, InHot, InCold, InStill, UpToOrder, items_at, with_items, keys_by}
use Rattle.quick_cache_model.specs.CacheState.{rewritten}
use Rattle.quick_cache_model.specs.Hooks.{Rules}
use Rattle.quick_cache_model.specs.Removal.{weighed, reweighed}
use Rattle.quick_cache_model.proofs.KeyCounts.{one_if, keys, keys-split, none-from_keys}
use Rattle.quick_cache_policy.specs.References.{valued, with_value_under, ReweighsUnder}

-- a list that another one was mapped to, and one of its places
record MapSplit {X Y : Type 0} (f : X → Y) (xs : List X) (before : List Y) (y : Y) (after : List Y)
    : Type 0 where
  pub front : List X
  pub x : X
  pub back : List X
  pub split : xs ≡ front ++ x ∷ back
  pub before_is : before ≡ map f front
  pub here : y ≡ f x
  pub after_is : after ≡ map f back

map-split : {X Y : Type 0} (f : X → Y) (xs : List X) (before : List Y) (y : Y) (after : List Y)
    → map f xs ≡ before ++ y ∷ after → MapSplit f xs before y after
map-split f [] [] y after e = absurd (cc)
map-split f [] (b ∷ before) y after e = absurd (cc)
map-split f (x ∷ xs) [] y after e =
    let here : f x ≡ y = cc in
    let rest : map f xs ≡ after = cc in
    record {
      front = [];
      x = x;
      back = xs;
      split = refl;
      before_is = refl;
      here = sym here;
      after_is = sym rest;
    }
map-split f (x ∷ xs) (b ∷ before) y after e =
    let here : f x ≡ b = cc in
    let rest : map f xs ≡ before ++ y ∷ after = cc in
    let s = map-split f xs before y after rest in
    record {
      front = x ∷ s.front;
      x = s.x;
      back = s.back;
      split = ap (λ l. x ∷ l) s.split;
      before_is = λ i. sym here i ∷ s.before_is i;
      here = s.here;
      after_is = s.after_is;
    }

module _ {K V : Type 0} (rules : Rules K V) (stands_for : K → Bool) (value : V) where
  -- items of other keys have their values
  valued-out : (items : List (Item K V))
      → AllByRecursion (λ item. stands_for item.key ≡ false) items
      → map (valued stands_for value) items ≡ items
  valued-out [] fail = refl
  valued-out (x ∷ xs) fail = rw (fail.0) (ap (λ l. x ∷ l) (valued-out xs fail.1))

  -- an item of a key has the value
  valued-key : (item : Item K V) → (valued stands_for value item).key ≡ item.key
  valued-key item = go (stands_for item.key)
    where
      go : (b : Bool) → (if b then record item { value = value } else item).key ≡ item.key
      go true = refl
      go false = refl

  valued-in : (item : Item K V) → stands_for item.key ≡ true
      → valued stands_for value item ≡ record item { value = value }
  valued-in item passes = rw passes refl

  items_at-valued : (place : Place) (state : CacheState K V)
      → items_at place (with_value_under stands_for value state)
      ≡ map (valued stands_for value) (items_at place state)
  items_at-valued InHot state = refl
  items_at-valued InCold state = refl
  items_at-valued InStill state = refl

  at_place : (place : Place) (state : CacheState K V) → keys_by stands_for state ≤ 1
      → keys stands_for (items_at place state) ≤ 1
  at_place InHot state single = omega (arith, single)
  at_place InCold state single = omega (arith, single)
  at_place InStill state single = omega (arith, single)

  elsewhere : (place : Place) (state : CacheState K V) → keys_by stands_for state ≤ 1
      → keys stands_for (items_at place state) ≡ 1
      → with_value_under stands_for value state
      ≡ with_items place (map (valued stands_for value) (items_at place state)) state
  elsewhere InHot state single here =
      let cold = valued-out state.cold
      (none-from_keys stands_for state.cold (omega (arith, single, here))) in
      let still = valued-out state.still
      (none-from_keys stands_for state.still (omega (arith, single, here))) in
      λ i. record (with_value_under stands_for value state) { cold = cold i; still = still i }
  elsewhere InCold state single here =
      let hot = valued-out state.hot
      (none-from_keys stands_for state.hot (omega (arith, single, here))) in
      let still = valued-out state.still
      (none-from_keys stands_for state.still (omega (arith, single, here))) in
      λ i. record (with_value_under stands_for value state) { hot = hot i; still = still i }
  elsewhere InStill state single here =
      let hot = valued-out state.hot
      (none-from_keys stands_for state.hot (omega (arith, single, here))) in
      let cold = valued-out state.cold
      (none-from_keys stands_for state.cold (omega (arith, single, here))) in
      λ i. record (with_value_under stands_for value state) { hot = hot i; cold = cold i }

  -- what stood at the place does not matter
  rewritten-over : (place : Place) (items before : List (Item K V)) (item : Item K V)
      (after : List (Item K V)) (state : CacheState K V)
      → rewritten place before item after (with_items place items state)
      ≡ rewritten place before item after state
  rewritten-over InHot items before item after state = refl
  rewritten-over InCold items before item after state = refl
  rewritten-over InStill items before item after state = refl

  -- a value that was written, and its item weighed
  pub written : (mid new : CacheState K V) → keys_by stands_for mid ≤ 1
      → ReweighsUnder stands_for rules (with_value_under stands_for value mid) new
      → UpToOrder (WritesItem rules stands_for mid value true) new
  written mid new single r =
      let s = map-split (valued stands_for value) (items_at r.place mid) r.before r.item r.after
      (sym (items_at-valued r.place mid) ∙ r.at.split) in
      let passes : stands_for s.x.key ≡ true =
      ap stands_for (sym (valued-key s.x)) ∙ ap (λ (i : Item K V). stands_for i.key) (sym s.here)
      ∙ r.at.passes in
      let most = at_place r.place mid single in
      let count = ap (keys stands_for) s.split ∙ keys-split stands_for s.front s.x s.back in
      let one = ap one_if passes in
      let front = s.before_is
      ∙ valued-out s.front (none-from_keys stands_for s.front (omega (arith, most, count, one))) in
      let back = s.after_is
      ∙ valued-out s.back (none-from_keys stands_for s.back (omega (arith, most, count, one))) in
      let item = s.here ∙ valued-in s.x passes in
      let state = elsewhere r.place mid single (omega (arith, most, count, one)) in
      record {
        ordered = r.weighs.ordered;
        holds = subst (λ (t : CacheState K V). WritesItem rules stands_for mid value true t)
            (sym (r.weighs.holds
            ∙ (λ i. reweighed rules r.place (front i) (item i) (back i) (item i).value (state i))
            ∙ rewritten-over r.place _ s.front (weighed rules s.x value) s.back mid))
            (WritesItem.written r.place s.front s.x s.back
            (record { split = s.split; passes = passes }));
        same = r.weighs.same;
      }
