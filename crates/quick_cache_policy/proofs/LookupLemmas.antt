-- What look-ups and removals find, and what they leave.
use Rattle.std.proofs.Common.{◌≡◌, ℕ, ◌+◌, Bool, true, false, List, ◌∷◌, ◌++◌, Option, Some, None, refl, sym, ap, subst, ◌∙◌}
use Rattle.std.specs.List.{AllByRecursion}
use Rattle.std.proofs.lemmas.List.{map-append}
use Rattle.quick_cache_model.specs.CacheState.{CacheState, Item, LoadingEntry, Place, InHot, InCold, InStill, UpToOrder, IsValid}
use Rattle.quick_cache_model.specs.CacheState.{with_items as model_with_items}
use Rattle.quick_cache_model.specs.Lookups.{looked_up, after_hit, LooksUp}
use Rattle.quick_cache_model.specs.Removal.{Removes}
use Rattle.quick_cache_model.specs.Touches.{counted_up}
use Rattle.quick_cache_model.proofs.EachElement.{all-without}
use Rattle.quick_cache_model.proofs.OrderLaws.{UpToOrder-exact}
use Rattle.quick_cache_model.proofs.Valid.Lookups.{LooksUp-valid, Removes-valid}
use Rattle.quick_cache_store.specs.Lists.{HeldItem, HeldLoading, HeldGhost, Lists, AreApart, StandsIn, HasItem, HasNoKey, IsItemOf}
use Rattle.quick_cache_store.specs.Lists.{FindsItem, items_at, with_items, with_change, without_entry}
use Rattle.quick_cache_store.specs.Views.{items_of, hashes_of, loading_entry, loading_entries}
use Rattle.quick_cache_store.proofs.lists.CallerLemmas.{change-hot, change-cold, change-still, without-hot, without-cold, without-still}
use Rattle.quick_cache_store.proofs.lists.CallerLemmas.{without-loading, without-ghost}
use Rattle.quick_cache_policy.specs.declared.contents.Contents.{Contents}
use Rattle.quick_cache_policy.specs.Contents.{AreHashed, IsSound, state_of}
use Rattle.quick_cache_policy.specs.Entering.{CountsHit}
use Rattle.quick_cache_policy.specs.Finding.{AreUnder}
use Rattle.quick_cache_policy.proofs.FindLemmas.{HasNoKey-state}
use Rattle.quick_cache_policy.proofs.EnterLemmas.{state_with, with_items-state, split-state, AreHashed-without, AreHashed-instead}
use Rattle.quick_cache_policy.proofs.EnterLemmas.{AreHashed-room, held-under}

module _ {K V P : Type 0} (lists : Lists K V P) (apart : AreApart lists) where
  -- an item that is changed in its place
  pub change-at : (change : Item K V → Item K V) (place : Place) (before after : List (HeldItem K V))
      (held : HeldItem K V) → items_at place lists ≡ before ++ held ∷ after
      → with_change held.token change lists
      ≡ with_items place (before ++ record held { item = change held.item } ∷ after) lists
  change-at change InHot before after held split =
      change-hot lists apart change before after held split
  change-at change InCold before after held split =
      change-cold lists apart change before after held split
  change-at change InStill before after held split =
      change-still lists apart change before after held split

  -- an item that goes from its place
  pub without-at : (place : Place) (before after : List (HeldItem K V)) (held : HeldItem K V)
      → items_at place lists ≡ before ++ held ∷ after
      → without_entry false held.token lists
      ≡ record (with_items place (before ++ after) lists) {
        next = held.token;
        room = lists.room + 1;
      }
  without-at InHot before after held split = without-hot lists apart false before after held split
  without-at InCold before after held split =
      without-cold lists apart false before after held split
  without-at InStill before after held split =
      without-still lists apart false before after held split

-- an item stands where it was put
pub items_at-with : {K V P : Type 0} (place : Place) (items : List (HeldItem K V))
    (lists : Lists K V P) → items_at place (with_items place items lists) ≡ items
items_at-with InHot items lists = refl
items_at-with InCold items lists = refl
items_at-with InStill items lists = refl

-- ---- an item that was looked up

-- two changes that do the same to the item of a token do the same to the lists
pub with_change-same : {K V P : Type 0} (lists : Lists K V P) → AreApart lists → (token hash : ℕ)
    (item : Item K V) (first second : Item K V → Item K V) → first item ≡ second item
    → HasItem lists (record { token = token; hash = hash; item = item })
    → with_change token first lists ≡ with_change token second lists
with_change-same {K} {V} lists apart token hash item first second same has =
    change-at lists apart first has.place has.stands.before has.stands.after
    (record { token = token; hash = hash; item = item }) has.stands.split
    ∙ ap (λ (i : Item K V). with_items has.place (has.stands.before
    ++ record { token = token; hash = hash; item = i } ∷ has.stands.after) lists) same
    ∙ sym (change-at lists apart second has.place has.stands.before has.stands.after
    (record { token = token; hash = hash; item = item }) has.stands.split)

-- the contents once the item of a token was looked up, and a hit was counted
abbrev pub counted : {K V P W A T : Type 0} → Contents K V W A T P → (token : ℕ)
    → Contents K V W A T P
counted contents token = record contents {
  lists = with_change token (looked_up contents.mark_cut) contents.lists;
  hits = counted_up 1 contents.hits;
}

pub counted-is : {K V P W A T : Type 0} (contents now : Contents K V W A T P) (token hits : ℕ)
    → now ≡ record contents { lists = with_change token (looked_up contents.mark_cut) contents.lists }
    → hits ≡ counted_up 1 now.hits → record now { hits = hits } ≡ counted contents token
counted-is contents now token hits now_is hits_are = λ i. record (now_is i) {
  hits = (hits_are ∙ ap (λ (c : Contents _ _ _ _ _ _). counted_up 1 c.hits) now_is) i;
}

module _ {K V P W A T : Type 0} (ticket_of : P → ℕ) (contents : Contents K V W A T P)
    (apart : AreApart contents.lists) (token hash : ℕ) (item : Item K V) where
  module _ (has : HasItem contents.lists (record { token = token; hash = hash; item = item })) where
    changed : with_change token (looked_up contents.mark_cut) contents.lists
        ≡ with_items has.place (has.stands.before
        ++ record { token = token; hash = hash; item = looked_up contents.mark_cut item }
        ∷ has.stands.after) contents.lists
    changed = change-at contents.lists apart (looked_up contents.mark_cut) has.place
        has.stands.before has.stands.after
        (record { token = token; hash = hash; item = item }) has.stands.split

    -- the item is the one that was looked up
    pub counted-item : IsItemOf (counted contents token).lists token (looked_up contents.mark_cut item)
    counted-item = (
      hash,
      record {
        place = has.place;
        stands = record {
          before = has.stands.before;
          after = has.stands.after;
          split = ap (items_at has.place) changed ∙ items_at-with has.place _ contents.lists;
        };
      },
    )

    -- the state is that of a hit
    pub counted-state : state_of ticket_of (counted contents token)
        ≡ model_with_items has.place (items_of has.stands.before
        ++ looked_up contents.mark_cut item ∷ items_of has.stands.after)
        (after_hit (state_of ticket_of contents))
    counted-state =
        ap (λ (l : Lists K V P). state_of ticket_of (record contents {
          lists = l;
          hits = counted_up 1 contents.hits;
        })) changed
        ∙ with_items-state ticket_of (record contents { hits = counted_up 1 contents.hits })
        has.place _ contents.lists
        ∙ ap (λ (l : List (Item K V)). model_with_items has.place l
        (after_hit (state_of ticket_of contents)))
        (map-append (λ (h : HeldItem K V). h.item) has.stands.before _)

    -- it was looked up
    pub looks_up-hit : (stands_for : K → Bool) → stands_for item.key ≡ true → {X : Type 0}
        → (of : Item K V → X)
        → UpToOrder (LooksUp stands_for (state_of ticket_of contents) of (Some (of item)))
        (state_of ticket_of (counted contents token))
    looks_up-hit stands_for passes of = UpToOrder-exact _ _
        (subst (λ (s : CacheState K V). LooksUp stands_for (state_of ticket_of contents) of
        (Some (of item)) s) (sym counted-state)
        (LooksUp.hit has.place (items_of has.stands.before) item (items_of has.stands.after)
        (record {
          split = split-state ticket_of contents has.place has.stands.before
              (record { token = token; hash = hash; item = item }) has.stands.after contents.lists
              has.stands.split;
          passes = passes;
        })))

    -- a hit was counted at it
    pub counted-hit : (stands_for : K → Bool) → stands_for item.key ≡ true
        → CountsHit stands_for (state_of ticket_of contents)
        (state_of ticket_of (counted contents token))
    counted-hit stands_for passes = record {
      place = has.place;
      before = items_of has.stands.before;
      item = item;
      after = items_of has.stands.after;
      at = record {
        split = split-state ticket_of contents has.place has.stands.before
            (record { token = token; hash = hash; item = item }) has.stands.after contents.lists
            has.stands.split;
        passes = passes;
      };
      rest = counted-state;
    }

    -- and a query still finds it
    pub counted-found : (stands_for : K → Bool) → stands_for item.key ≡ true → (known : ℕ)
        → hash ≡ known → FindsItem stands_for known (counted contents token).lists token
    unfolding counted-item
    counted-found stands_for passes known is =
        subst (λ (h : ℕ). FindsItem stands_for h (counted contents token).lists token) is
        (record {
          item = looked_up contents.mark_cut item;
          stands = counted-item.1;
          passes = passes;
        })

    -- each key stays under its hash
    pub counted-hashed : (hashed : K → ℕ) → AreHashed hashed contents.lists
        → AreHashed hashed (counted contents token).lists
    counted-hashed hashed are =
        subst (λ (l : Lists K V P). AreHashed hashed l) (sym changed)
        (AreHashed-instead hashed has.place has.stands.before
        (record { token = token; hash = hash; item = item })
        (record { token = token; hash = hash; item = looked_up contents.mark_cut item })
        has.stands.after contents.lists has.stands.split are
        (under has.place has.stands.before has.stands.after has.stands.split))
      where
        under : (at : Place) (front back : List (HeldItem K V))
            → items_at at contents.lists
            ≡ front ++ record { token = token; hash = hash; item = item } ∷ back
            → hash ≡ hashed item.key
        under at front back split = held-under hashed at front
            (record { token = token; hash = hash; item = item }) back contents.lists split are

    -- what was sound is
    pub counted-sound : (equal : K → K → Bool) (hashed : K → ℕ) (stands_for : K → Bool)
        → stands_for item.key ≡ true → IsSound ticket_of equal hashed contents
        → IsSound ticket_of equal hashed (counted contents token)
    counted-sound equal hashed stands_for passes sound = record {
      valid = subst (λ (s : CacheState K V). IsValid equal s)
          (sym counted-state)
          (LooksUp-valid equal stands_for (λ i. i.value) (state_of ticket_of contents) _ _
          (LooksUp.hit has.place (items_of has.stands.before) item (items_of has.stands.after)
          (record {
            split = split-state ticket_of contents has.place has.stands.before
                (record { token = token; hash = hash; item = item }) has.stands.after contents.lists
                has.stands.split;
            passes = passes;
          })) sound.valid);
      sized = sound.sized;
      hashed = counted-hashed hashed sound.hashed;
    }

-- ---- what is removed

module _ {K V P W A T : Type 0} (ticket_of : P → ℕ) (contents : Contents K V W A T P)
    (apart : AreApart contents.lists) (stands_for : K → Bool) (hash : ℕ) where
  -- the contents without the entry of a token
  abbrev pub taken : (token : ℕ) → Contents K V W A T P
  taken token = record contents { lists = without_entry false token contents.lists }

  module _ (equal : K → K → Bool) (answer : Option (K × V)) (lists : Lists K V P)
      (removes : Removes stands_for (state_of ticket_of contents) hash answer
      (state_with ticket_of contents lists)) where
    -- what was sound is
    removed-sound : (hashed : K → ℕ) → AreHashed hashed lists
        → IsSound ticket_of equal hashed contents
        → IsSound ticket_of equal hashed (record contents { lists = lists })
    removed-sound hashed are sound = record {
      valid = Removes-valid equal stands_for hash (state_of ticket_of contents)
          (state_with ticket_of contents lists) answer removes sound.valid;
      sized = sound.sized;
      hashed = are;
    }

  -- an item
  module _ (token : ℕ) (held : HeldItem K V) (has : HasItem contents.lists held)
      (named : held.token ≡ token) where
    pub without_item : without_entry false token contents.lists
        ≡ record (with_items has.place (has.stands.before ++ has.stands.after) contents.lists) {
          next = held.token;
          room = contents.lists.room + 1;
        }
    without_item = ap (λ t. without_entry false t contents.lists) (sym named)
        ∙ without-at contents.lists apart has.place has.stands.before has.stands.after held
        has.stands.split

    pub without_item-state : state_with ticket_of contents (without_entry false token contents.lists)
        ≡ model_with_items has.place (items_of has.stands.before ++ items_of has.stands.after)
        (state_of ticket_of contents)
    without_item-state =
        ap (state_with ticket_of contents) without_item
        ∙ with_items-state ticket_of contents has.place (has.stands.before ++ has.stands.after)
        contents.lists
        ∙ ap (λ (l : List (Item K V)). model_with_items has.place l (state_of ticket_of contents))
        (map-append (λ (h : HeldItem K V). h.item) has.stands.before has.stands.after)

    pub removes-item : stands_for held.item.key ≡ true
        → Removes stands_for (state_of ticket_of contents) hash
        (Some (held.item.key, held.item.value))
        (state_with ticket_of contents (without_entry false token contents.lists))
    removes-item passes = subst (λ (s : CacheState K V). Removes stands_for
        (state_of ticket_of contents) hash (Some (held.item.key, held.item.value)) s)
        (sym without_item-state)
        (Removes.of_item has.place (items_of has.stands.before) held.item
        (items_of has.stands.after) (record {
          split = split-state ticket_of contents has.place has.stands.before held
              has.stands.after contents.lists has.stands.split;
          passes = passes;
        }))

    pub item-sound : (equal : K → K → Bool) → stands_for held.item.key ≡ true
        → (hashed : K → ℕ) → IsSound ticket_of equal hashed contents
        → IsSound ticket_of equal hashed (taken token)
    item-sound equal passes hashed sound =
        removed-sound equal (Some (held.item.key, held.item.value))
        (without_entry false token contents.lists) (removes-item passes) hashed
        (subst (λ (l : Lists K V P). AreHashed hashed l) (sym without_item)
        (AreHashed-room hashed held.token (contents.lists.room + 1)
        (with_items has.place (has.stands.before ++ has.stands.after) contents.lists)
        (AreHashed-without hashed has.place has.stands.before held held has.stands.after
        contents.lists has.stands.split sound.hashed))) sound

  -- a placeholder
  module _ (token : ℕ) (waiting : HeldLoading K P) (stands : StandsIn contents.lists.loading waiting)
      (named : waiting.token ≡ token) where
    pub without_loading : without_entry false token contents.lists
        ≡ record contents.lists {
          loading = stands.before ++ stands.after;
          next = waiting.token;
          room = contents.lists.room + 1;
        }
    without_loading = ap (λ t. without_entry false t contents.lists) (sym named)
        ∙ without-loading contents.lists apart false stands.before stands.after waiting stands.split

    pub removes-loading : stands_for waiting.key ≡ true
        → Removes stands_for (state_of ticket_of contents) hash None
        (state_with ticket_of contents (without_entry false token contents.lists))
    removes-loading passes = subst (λ (s : CacheState K V). Removes stands_for
        (state_of ticket_of contents) hash None s)
        (sym (ap (state_with ticket_of contents) without_loading
        ∙ ap (λ (l : List (LoadingEntry K)). record (state_of ticket_of contents) { loading = l })
        (map-append (loading_entry ticket_of) stands.before stands.after)))
        (Removes.of_loading (loading_entries ticket_of stands.before)
        (loading_entry ticket_of waiting) (loading_entries ticket_of stands.after) (record {
          split = ap (loading_entries ticket_of) stands.split
              ∙ map-append (loading_entry ticket_of) stands.before (waiting ∷ stands.after);
          passes = passes;
        }))

    pub loading-sound : (equal : K → K → Bool) → stands_for waiting.key ≡ true
        → (hashed : K → ℕ) → IsSound ticket_of equal hashed contents
        → IsSound ticket_of equal hashed (taken token)
    loading-sound equal passes hashed sound =
        removed-sound equal None (without_entry false token contents.lists)
        (removes-loading passes) hashed
        (subst (λ (l : Lists K V P). AreHashed hashed l) (sym without_loading)
        (record {
          hot = sound.hashed.hot;
          cold = sound.hashed.cold;
          still = sound.hashed.still;
          loading = all-without (λ (w : HeldLoading K P). w.hash ≡ hashed w.key) stands.before
              waiting stands.after
              (subst (λ (l : List (HeldLoading K P)). AllByRecursion (λ w. w.hash ≡ hashed w.key) l)
              stands.split sound.hashed.loading);
        })) sound

  -- a ghost
  module _ (token : ℕ) (stands : StandsIn contents.lists.ghosts
      (record { token = token; hash = hash })) where
    pub without_ghost : without_entry false token contents.lists
        ≡ record contents.lists {
          ghosts = stands.before ++ stands.after;
          next = token;
          room = contents.lists.room + 1;
        }
    without_ghost = without-ghost contents.lists apart false stands.before stands.after
        (record { token = token; hash = hash }) stands.split

    pub removes-ghost : AreUnder stands_for hash contents.lists
        → HasNoKey stands_for hash contents.lists
        → Removes stands_for (state_of ticket_of contents) hash None
        (state_with ticket_of contents (without_entry false token contents.lists))
    removes-ghost under none = subst (λ (s : CacheState K V). Removes stands_for
        (state_of ticket_of contents) hash None s)
        (sym (ap (state_with ticket_of contents) without_ghost
        ∙ ap (λ (l : List ℕ). record (state_of ticket_of contents) { ghosts = l })
        (map-append (λ (s : HeldGhost). s.hash) stands.before stands.after)))
        (Removes.of_ghost (hashes_of stands.before) (hashes_of stands.after) (record {
          keys = HasNoKey-state ticket_of stands_for hash contents under none;
          split = ap hashes_of stands.split
              ∙ map-append (λ (s : HeldGhost). s.hash) stands.before _;
        }))

    pub ghost-sound : (equal : K → K → Bool) → AreUnder stands_for hash contents.lists
        → HasNoKey stands_for hash contents.lists
        → (hashed : K → ℕ) → IsSound ticket_of equal hashed contents
        → IsSound ticket_of equal hashed (taken token)
    ghost-sound equal under none hashed sound =
        removed-sound equal None (without_entry false token contents.lists)
        (removes-ghost under none) hashed
        (subst (λ (l : Lists K V P). AreHashed hashed l) (sym without_ghost)
        (record {
          hot = sound.hashed.hot;
          cold = sound.hashed.cold;
          still = sound.hashed.still;
          loading = sound.hashed.loading;
        })) sound
