-- What the lists are as a state, once an entry went, an item came or one stands in for another; and
-- that each key stays under its hash.
use Rattle.std.proofs.Common.{length, length-append, ◌≤◌, arith, ◌≡◌, ℕ, ◌+◌, ◌==◌, Bool, true, false, if◌then◌else◌, List, [], ◌∷◌, ◌++◌}
use Rattle.std.proofs.Common.{refl, ap, subst, ◌∙◌}
use Rattle.std.specs.List.{AllByRecursion}
use Rattle.std.proofs.lemmas.List.{map-append}
use Rattle.quick_cache_model.specs.CacheState.{CacheState, Item, Place, InHot, InCold, InStill, place_of_item, items_at as model_items_at}
use Rattle.quick_cache_model.specs.CacheState.{with_items as model_with_items, entered as model_entered, rewritten}
use Rattle.quick_cache_model.proofs.EachElement.{all-push, all-without, all-instead, all-restarted, all-middle}
use Rattle.quick_cache_store.specs.Lists.{HeldItem, Lists, Rewrites, items_at, with_items, entered, held_rewritten}
use Rattle.quick_cache_store.specs.Views.{items_of}
use Rattle.quick_cache_store.proofs.lists.CallerLemmas.{items_of-split}
use Rattle.quick_cache_policy.specs.declared.contents.Contents.{Contents}
use Rattle.quick_cache_policy.specs.Contents.{AreHashed, state_of}

-- ---- the state

module _ {K V P W A T : Type 0} (ticket_of : P → ℕ) (contents : Contents K V W A T P) where
  -- the state with these lists
  abbrev pub state_with : Lists K V P → CacheState K V
  state_with lists = state_of ticket_of (record contents { lists = lists })

  -- the items of a place
  pub items_at-state : (place : Place) (lists : Lists K V P)
      → model_items_at place (state_with lists) ≡ items_of (items_at place lists)
  items_at-state InHot lists = refl
  items_at-state InCold lists = refl
  items_at-state InStill lists = refl

  -- other items at a place
  pub with_items-state : (place : Place) (items : List (HeldItem K V)) (lists : Lists K V P)
      → state_with (with_items place items lists)
      ≡ model_with_items place (items_of items) (state_with lists)
  with_items-state InHot items lists = refl
  with_items-state InCold items lists = refl
  with_items-state InStill items lists = refl

  -- an item that was put last
  pub entered-state : (held : HeldItem K V) (lists : Lists K V P)
      → state_with (entered held lists) ≡ model_entered held.item (state_with lists)
  entered-state held lists = go (place_of_item held.item)
    where
      go : (place : Place)
          → state_with (with_items place (items_at place lists ++ held ∷ []) lists)
          ≡ model_with_items place (model_items_at place (state_with lists) ++ held.item ∷ [])
          (state_with lists)
      go InHot = ap (λ (l : List (Item K V)). record (state_with lists) { hot = l })
          (map-append (λ (h : HeldItem K V). h.item) lists.hot (held ∷ []))
      go InCold = ap (λ (l : List (Item K V)). record (state_with lists) { cold = l })
          (map-append (λ (h : HeldItem K V). h.item) lists.cold (held ∷ []))
      go InStill = ap (λ (l : List (Item K V)). record (state_with lists) { still = l })
          (map-append (λ (h : HeldItem K V). h.item) lists.still (held ∷ []))

  -- an item between two lists of a place
  with_split : (place : Place) (before : List (HeldItem K V)) (held : HeldItem K V)
      (after : List (HeldItem K V)) (lists : Lists K V P)
      → state_with (with_items place (before ++ held ∷ after) lists)
      ≡ model_with_items place (items_of before ++ held.item ∷ items_of after) (state_with lists)
  with_split place before held after lists =
      with_items-state place (before ++ held ∷ after) lists
      ∙ ap (λ (l : List (Item K V)). model_with_items place l (state_with lists))
      (items_of-split before after held)

  -- an item that is put last, once another left its place
  then_entered : (place : Place) (front back : List (HeldItem K V)) (held : HeldItem K V)
      (lists : Lists K V P)
      → state_with (entered held (with_items place (front ++ back) lists))
      ≡ model_entered held.item
      (model_with_items place (items_of front ++ items_of back) (state_with lists))
  then_entered place front back held lists =
      entered-state held (with_items place (front ++ back) lists)
      ∙ ap (λ (s : CacheState K V). model_entered held.item s)
      (with_items-state place (front ++ back) lists
      ∙ ap (λ (l : List (Item K V)). model_with_items place l (state_with lists))
      (map-append (λ (h : HeldItem K V). h.item) front back))

  -- an item that stands in for another
  pub rewritten-state : (place : Place) (before : List (HeldItem K V)) (held : HeldItem K V)
      (after : List (HeldItem K V)) (lists : Lists K V P)
      → state_with (held_rewritten place before held after lists)
      ≡ rewritten place (items_of before) held.item (items_of after) (state_with lists)
  rewritten-state InStill before held after lists = go (held.item.weight == 0)
    where
      go : (b : Bool) → state_with (if b then with_items InStill (before ++ held ∷ after) lists
          else entered held (with_items InStill (before ++ after) lists))
          ≡ (if b then model_with_items InStill (items_of before ++ held.item ∷ items_of after)
          (state_with lists)
          else model_entered held.item
          (model_with_items InStill (items_of before ++ items_of after) (state_with lists)))
      go true = with_split InStill before held after lists
      go false = then_entered InStill before after held lists
  rewritten-state InHot before held after lists = go (held.item.weight == 0)
    where
      go : (b : Bool) → state_with (if b then entered held (with_items InHot (after ++ before) lists)
          else with_items InHot (before ++ held ∷ after) lists)
          ≡ (if b then model_entered held.item
          (model_with_items InHot (items_of after ++ items_of before) (state_with lists))
          else model_with_items InHot (items_of before ++ held.item ∷ items_of after)
          (state_with lists))
      go true = then_entered InHot after before held lists
      go false = with_split InHot before held after lists
  rewritten-state InCold before held after lists = go (held.item.weight == 0)
    where
      go : (b : Bool) → state_with (if b then entered held (with_items InCold (after ++ before) lists)
          else with_items InCold (before ++ held ∷ after) lists)
          ≡ (if b then model_entered held.item
          (model_with_items InCold (items_of after ++ items_of before) (state_with lists))
          else model_with_items InCold (items_of before ++ held.item ∷ items_of after)
          (state_with lists))
      go true = then_entered InCold after before held lists
      go false = with_split InCold before held after lists

  -- a place split around an item
  pub split-state : (place : Place) (before : List (HeldItem K V)) (held : HeldItem K V)
      (after : List (HeldItem K V)) (lists : Lists K V P)
      → items_at place lists ≡ before ++ held ∷ after
      → model_items_at place (state_with lists) ≡ items_of before ++ held.item ∷ items_of after
  split-state place before held after lists split =
      items_at-state place lists ∙ ap items_of split ∙ items_of-split before after held

-- ---- how many items the rings have

-- one that is put last is one more at most
pub entered-count : {K V P : Type 0} (held : HeldItem K V) (lists : Lists K V P)
    → length (entered held lists).hot + length (entered held lists).cold
    ≤ length lists.hot + length lists.cold + 1
entered-count held lists = go (place_of_item held.item)
  where
    go : (place : Place)
        → length (with_items place (items_at place lists ++ held ∷ []) lists).hot
        + length (with_items place (items_at place lists ++ held ∷ []) lists).cold
        ≤ length lists.hot + length lists.cold + 1
    go InHot = omega (arith, length-append lists.hot (held ∷ []))
    go InCold = omega (arith, length-append lists.cold (held ∷ []))
    go InStill = omega arith

-- ---- room

module _ {K V P : Type 0} where
  -- items take no room
  with_items-room : (place : Place) (items : List (HeldItem K V)) (lists : Lists K V P)
      → (with_items place items lists).room ≡ lists.room
  with_items-room InHot items lists = refl
  with_items-room InCold items lists = refl
  with_items-room InStill items lists = refl

  -- nor does one that stands in for another
  rewritten-room : (place : Place) (before : List (HeldItem K V)) (held : HeldItem K V)
      (after : List (HeldItem K V)) (lists : Lists K V P)
      → (held_rewritten place before held after lists).room ≡ lists.room
  rewritten-room InStill before held after lists = go (held.item.weight == 0)
    where
      go : (b : Bool) → (if b then with_items InStill (before ++ held ∷ after) lists
          else entered held (with_items InStill (before ++ after) lists)).room ≡ lists.room
      go true = refl
      go false = with_items-room (place_of_item held.item) _
          (with_items InStill (before ++ after) lists)
  rewritten-room InHot before held after lists = go (held.item.weight == 0)
    where
      go : (b : Bool) → (if b then entered held (with_items InHot (after ++ before) lists)
          else with_items InHot (before ++ held ∷ after) lists).room ≡ lists.room
      go true = with_items-room (place_of_item held.item) _
          (with_items InHot (after ++ before) lists)
      go false = refl
  rewritten-room InCold before held after lists = go (held.item.weight == 0)
    where
      go : (b : Bool) → (if b then entered held (with_items InCold (after ++ before) lists)
          else with_items InCold (before ++ held ∷ after) lists).room ≡ lists.room
      go true = with_items-room (place_of_item held.item) _
          (with_items InCold (after ++ before) lists)
      go false = refl

  pub Rewrites-room : (old new : Lists K V P) (token : ℕ) (item was : Item K V)
      → Rewrites old token item was new → new.room ≡ old.room
  Rewrites-room old new token item was r = ap (λ (l : Lists K V P). l.room) r.rewritten.same
      ∙ rewritten-room r.place r.before _ r.after old

-- ---- keys under their hashes

-- an item is under its hash
abbrev pub IsUnder : {K V : Type 0} (hash : K → ℕ) → HeldItem K V → Type 0
IsUnder hash held = held.hash ≡ hash held.item.key

module _ {K V P : Type 0} (hash : K → ℕ) where
  -- those of a place
  pub AreHashed-at : (place : Place) (lists : Lists K V P) → AreHashed hash lists
      → AllByRecursion (IsUnder hash) (items_at place lists)
  AreHashed-at InHot lists hashed = hashed.hot
  AreHashed-at InCold lists hashed = hashed.cold
  AreHashed-at InStill lists hashed = hashed.still

  -- others at a place
  pub AreHashed-with : (place : Place) (items : List (HeldItem K V)) (lists : Lists K V P)
      → AllByRecursion (IsUnder hash) items → AreHashed hash lists
      → AreHashed hash (with_items place items lists)
  AreHashed-with InHot items lists under hashed = record {
    hot = under;
    cold = hashed.cold;
    still = hashed.still;
    loading = hashed.loading;
  }
  AreHashed-with InCold items lists under hashed = record {
    hot = hashed.hot;
    cold = under;
    still = hashed.still;
    loading = hashed.loading;
  }
  AreHashed-with InStill items lists under hashed = record {
    hot = hashed.hot;
    cold = hashed.cold;
    still = under;
    loading = hashed.loading;
  }

  -- one more, put last
  pub AreHashed-entered : (held : HeldItem K V) (lists : Lists K V P) → IsUnder hash held
      → AreHashed hash lists → AreHashed hash (entered held lists)
  AreHashed-entered held lists under hashed =
      let place = place_of_item held.item in
      AreHashed-with place (items_at place lists ++ held ∷ []) lists
      (all-push (IsUnder hash) (items_at place lists) held (AreHashed-at place lists hashed) under) hashed

  -- another next token and another room
  pub AreHashed-room : (next room : ℕ) (lists : Lists K V P) → AreHashed hash lists
      → AreHashed hash (record lists { next = next; room = room })
  AreHashed-room next room lists hashed = record {
    hot = hashed.hot;
    cold = hashed.cold;
    still = hashed.still;
    loading = hashed.loading;
  }

  module _ (place : Place) (before : List (HeldItem K V)) (was held : HeldItem K V)
      (after : List (HeldItem K V)) (lists : Lists K V P)
      (split : items_at place lists ≡ before ++ was ∷ after) (hashed : AreHashed hash lists) where
    were : AllByRecursion (IsUnder hash) (before ++ was ∷ after)
    were = subst (λ (l : List (HeldItem K V)). AllByRecursion (IsUnder hash) l) split
        (AreHashed-at place lists hashed)

    -- one goes
    pub AreHashed-without : AreHashed hash (with_items place (before ++ after) lists)
    AreHashed-without = AreHashed-with place (before ++ after) lists
        (all-without (IsUnder hash) before was after were) hashed

    -- one goes, and its ring begins behind it
    pub AreHashed-restarted : AreHashed hash (with_items place (after ++ before) lists)
    AreHashed-restarted = AreHashed-with place (after ++ before) lists
        (all-restarted (IsUnder hash) before was after were) hashed

    -- one stands for another
    pub AreHashed-instead : IsUnder hash held
        → AreHashed hash (with_items place (before ++ held ∷ after) lists)
    AreHashed-instead under = AreHashed-with place (before ++ held ∷ after) lists
        (all-instead (IsUnder hash) before was held after under were) hashed

  -- an item of a place is under its hash
  pub held-under : (place : Place) (before : List (HeldItem K V)) (held : HeldItem K V)
      (after : List (HeldItem K V)) (lists : Lists K V P)
      → items_at place lists ≡ before ++ held ∷ after → AreHashed hash lists
      → held.hash ≡ hash held.item.key
  held-under place before held after lists split hashed =
      all-middle (IsUnder hash) before held after
      (subst (λ (l : List (HeldItem K V)). AllByRecursion (IsUnder hash) l) split
      (AreHashed-at place lists hashed))

  -- one stands in for another, where its weight decides
  pub AreHashed-rewritten : (place : Place) (before : List (HeldItem K V)) (was held : HeldItem K V)
      (after : List (HeldItem K V)) (lists : Lists K V P)
      → items_at place lists ≡ before ++ was ∷ after → IsUnder hash held → AreHashed hash lists
      → AreHashed hash (held_rewritten place before held after lists)
  AreHashed-rewritten InStill before was held after lists split under hashed =
      go (held.item.weight == 0)
    where
      go : (b : Bool) → AreHashed hash (if b then with_items InStill (before ++ held ∷ after) lists
          else entered held (with_items InStill (before ++ after) lists))
      go true = AreHashed-instead InStill before was held after lists split hashed under
      go false = AreHashed-entered held (with_items InStill (before ++ after) lists) under
          (AreHashed-without InStill before was held after lists split hashed)
  AreHashed-rewritten InHot before was held after lists split under hashed =
      go (held.item.weight == 0)
    where
      go : (b : Bool) → AreHashed hash (if b then entered held
          (with_items InHot (after ++ before) lists)
          else with_items InHot (before ++ held ∷ after) lists)
      go true = AreHashed-entered held (with_items InHot (after ++ before) lists) under
          (AreHashed-restarted InHot before was held after lists split hashed)
      go false = AreHashed-instead InHot before was held after lists split hashed under
  AreHashed-rewritten InCold before was held after lists split under hashed =
      go (held.item.weight == 0)
    where
      go : (b : Bool) → AreHashed hash (if b then entered held
          (with_items InCold (after ++ before) lists)
          else with_items InCold (before ++ held ∷ after) lists)
      go true = AreHashed-entered held (with_items InCold (after ++ before) lists) under
          (AreHashed-restarted InCold before was held after lists split hashed)
      go false = AreHashed-instead InCold before was held after lists split hashed under
