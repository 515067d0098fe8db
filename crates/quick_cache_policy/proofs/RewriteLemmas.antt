-- A pair over an item: it takes the item's place, and the lists are the state that the write leads
-- to before room is made, but for the order of what has none, and stay sound.
use Rattle.std.proofs.Common.{◌≡◌, ℕ, ◌+◌, ◌≤◌, ◌==◌, Bool, true, false, if◌then◌else◌, List, ◌∷◌, ◌++◌, length, length-append, None, refl}
use Rattle.std.proofs.Common.{sym, ap, subst, ◌∙◌, arith}
use Rattle.std.proofs.lemmas.Bool.{eqb-true}
use Rattle.std.specs.Cmp.{IsEquivalence}
use Rattle.quick_cache_model.specs.CacheState.{CacheState, Item, Place, InHot, InCold, InStill, SameButOrder, UpToOrder, rewritten}
use Rattle.quick_cache_model.specs.Finding.{IsItemAt}
use Rattle.quick_cache_model.specs.Hooks.{Rules, HookCall, evicted}
use Rattle.quick_cache_model.specs.Eviction.{EvictsToCapacity}
use Rattle.quick_cache_model.specs.Writes.{Strategy, WritesAdmitted, new_item, mark_after}
use Rattle.quick_cache_model.specs.Touches.{with_touches, raised_by, counted_up}
use Rattle.quick_cache_model.proofs.OrderLaws.{UpToOrder-map}
use Rattle.quick_cache_model.proofs.Valid.Edits.{rewritten-valid}
use Rattle.quick_cache_model.proofs.Valid.Orders.{SameButOrder-valid}
use Rattle.quick_cache_model.proofs.Valid.Places.{IsInPlace-marked}
use Rattle.quick_cache_model.proofs.Valid.States.{IsValid-in_place}
use Rattle.quick_cache_model.specs.Removal.{pair_of}
use Rattle.quick_cache_model.specs.Fates.{residents}
use Rattle.quick_cache_model.specs.Leads.{Tells, TellsResidents, TellsBeside}
use Rattle.quick_cache_store.specs.Lists.{HeldItem, Lists, AreApart, FindsItem, IsItemOf, Rewrites, items_at, with_items, entered}
use Rattle.quick_cache_store.specs.Lists.{held_rewritten}
use Rattle.quick_cache_store.specs.Views.{items_of}
use Rattle.quick_cache_store.proofs.lists.StandingLemmas.{found-same}
use Rattle.quick_cache_policy.specs.declared.contents.Contents.{Contents}
use Rattle.quick_cache_policy.specs.Contents.{IsSound, state_of}
use Rattle.quick_cache_policy.proofs.SoundLemmas.{state_of-reordered, AreHashed-reordered}
use Rattle.quick_cache_policy.proofs.FindLemmas.{IsItemAt-stands}
use Rattle.quick_cache_policy.proofs.EnterLemmas.{state_with, rewritten-state, AreHashed-rewritten, entered-count}
use Rattle.quick_cache_policy.proofs.OverwriteLemmas.{evicts-from}
use Rattle.quick_cache_policy.proofs.TellLemmas.{rewritten-tells}

-- the mark once touches were taken in, where there are none as well
pub with_touches-raised : {K V : Type 0} (cut n : ℕ) (item : Item K V) → item.mark ≤ cut
    → (with_touches cut n item).mark ≡ raised_by cut n item.mark
with_touches-raised {K = K} {V = V} cut n item within = go (n == 0) refl
  where
    raised : Item K V
    raised = record item { mark = raised_by cut n item.mark; reads = counted_up n item.reads }

    go : (b : Bool) → (n == 0) ≡ b → (if b then item else raised).mark ≡ raised_by cut n item.mark
    go true is = omega (arith, eqb-true n 0 is, within)
    go false is = refl

module _ {K V P : Type 0} where
  -- how many items stand in the rings
  abbrev rings : Lists K V P → ℕ
  rings lists = length lists.hot + length lists.cold

  -- an item that stands in for another is one more at most
  held_rewritten-count : (place : Place) (before : List (HeldItem K V)) (was held : HeldItem K V)
      (after : List (HeldItem K V)) (lists : Lists K V P)
      → items_at place lists ≡ before ++ was ∷ after
      → rings (held_rewritten place before held after lists) ≤ rings lists + 1
  held_rewritten-count InStill before was held after lists split = go (held.item.weight == 0)
    where
      go : (b : Bool) → rings (if b then with_items InStill (before ++ held ∷ after) lists
          else entered held (with_items InStill (before ++ after) lists)) ≤ rings lists + 1
      go true = omega arith
      go false = entered-count held (with_items InStill (before ++ after) lists)
  held_rewritten-count InHot before was held after lists split = go (held.item.weight == 0)
    where
      go : (b : Bool) → rings (if b then entered held (with_items InHot (after ++ before) lists)
          else with_items InHot (before ++ held ∷ after) lists) ≤ rings lists + 1
      go true = omega (
        arith,
        entered-count held (with_items InHot (after ++ before) lists),
        length-append after before,
        length-append before (was ∷ after),
        ap (λ (l : List (HeldItem K V)). length l) split,
      )
      go false = omega (
        arith,
        length-append before (held ∷ after),
        length-append before (was ∷ after),
        ap (λ (l : List (HeldItem K V)). length l) split,
      )
  held_rewritten-count InCold before was held after lists split = go (held.item.weight == 0)
    where
      go : (b : Bool) → rings (if b then entered held (with_items InCold (after ++ before) lists)
          else with_items InCold (before ++ held ∷ after) lists) ≤ rings lists + 1
      go true = omega (
        arith,
        entered-count held (with_items InCold (after ++ before) lists),
        length-append after before,
        length-append before (was ∷ after),
        ap (λ (l : List (HeldItem K V)). length l) split,
      )
      go false = omega (
        arith,
        length-append before (held ∷ after),
        length-append before (was ∷ after),
        ap (λ (l : List (HeldItem K V)). length l) split,
      )

module _ {K V P W A X : Type 0} (ticket_of : P → ℕ) (contents : Contents K V W A X P)
    (apart : AreApart contents.lists) (equal : K → K → Bool) (rules : Rules K V) (key : K)
    (token : ℕ) (found : FindsItem (equal key) (rules.hash key) contents.lists token)
    (item was : Item K V) (new : Lists K V P)
    (rewrites : Rewrites contents.lists token item was new) where
  -- the item that was found
  abbrev known : HeldItem K V
  known = record { token = token; hash = rules.hash key; item = found.item }

  -- the one that was written over
  abbrev held_was : HeldItem K V
  held_was = record { token = token; hash = rewrites.hash; item = was }

  -- what was written
  abbrev held_now : HeldItem K V
  held_now = record { token = token; hash = rewrites.hash; item = item }

  -- it is the one that was found
  one : held_was ≡ known
  one = found-same contents.lists apart token known held_was found.stands (record {
    place = rewrites.place;
    stands = record {
      before = rewrites.before;
      after = rewrites.after;
      split = rewrites.split;
    };
  }) refl refl

  -- an item of its token is it
  pub over_item-same : (other : Item K V) → IsItemOf contents.lists token other → other ≡ was
  over_item-same other is =
      let held : HeldItem K V = record { token = token; hash = is.0; item = other } in
      ap (λ (h : HeldItem K V). h.item)
      (found-same contents.lists apart token known held found.stands is.1 refl refl ∙ sym one)

  -- it stands in the state where it stands in the lists
  there : IsItemAt (equal key) (state_of ticket_of contents) rewrites.place
      (items_of rewrites.before) was (items_of rewrites.after)
  there = IsItemAt-stands ticket_of (equal key) (rules.hash key) contents rewrites.place
      rewrites.before held_was rewrites.after rewrites.split
      (subst (λ (h : HeldItem K V). equal key h.item.key ≡ true) (sym one) found.passes)

  -- the lists are the state with the item in its place, but for the order of what has none
  pub over_item-state : SameButOrder
      (rewritten rewrites.place (items_of rewrites.before) item (items_of rewrites.after)
      (state_of ticket_of contents))
      (state_with ticket_of contents new)
  over_item-state = subst
      (λ (s : CacheState K V). SameButOrder s (state_with ticket_of contents new))
      (rewritten-state ticket_of contents rewrites.place rewrites.before held_now rewrites.after
      contents.lists)
      (state_of-reordered ticket_of contents _ new rewrites.rewritten)

  -- its mark is up to the greatest
  marked : IsSound ticket_of equal rules.hash contents → was.mark ≤ contents.mark_cut
  marked sound = IsInPlace-marked rewrites.place (items_of rewrites.before) was
      (items_of rewrites.after) (state_of ticket_of contents) there.split
      (IsValid-in_place equal (state_of ticket_of contents) sound.valid)

  -- the write over the item
  pub over_item-writes : IsSound ticket_of equal rules.hash contents → (value : V)
      (strategy : Strategy) (n : ℕ) → rules.may_count n
      → item ≡ new_item rules key value was.queue
      (mark_after contents.mark_cut strategy (raised_by contents.mark_cut n was.mark))
      → (last : CacheState K V) (calls : List (HookCall K V))
      → UpToOrder (EvictsToCapacity rules 0 (state_with ticket_of contents new) calls) last
      → UpToOrder (WritesAdmitted rules (equal key) key strategy (state_of ticket_of contents) value
      (evicted was.queue was.key was.value ∷ calls) None) last
  over_item-writes sound value strategy n counted is last calls evicts =
      UpToOrder-map _ _ last
      (λ state e. WritesAdmitted.overwrites rewrites.place (items_of rewrites.before) was
      (with_touches contents.mark_cut n was) (items_of rewrites.after) calls state there (n, counted, refl)
      (subst (λ (i : Item K V). EvictsToCapacity rules 0
      (rewritten rewrites.place (items_of rewrites.before) i (items_of rewrites.after)
      (state_of ticket_of contents)) calls state)
      (is ∙ ap (λ (m : ℕ). new_item rules key value was.queue (mark_after contents.mark_cut strategy m))
      (sym (with_touches-raised contents.mark_cut n was (marked sound)))) e))
      (evicts-from rules _ (state_with ticket_of contents new) last calls over_item-state evicts)

  -- the item is told, and what is told from there is told of the pair too
  pub over_item-tells : (value : V) → pair_of item ≡ (key, value) → (last : CacheState K V)
      (calls : List (HookCall K V))
      → TellsResidents (state_with ticket_of contents new) calls last
      → TellsBeside key value (state_of ticket_of contents)
      (evicted was.queue was.key was.value ∷ calls) None last
  over_item-tells value pair last calls tells =
      subst (λ (p : K × V). Tells (p ∷ residents (state_of ticket_of contents))
      (evicted was.queue was.key was.value ∷ calls) (residents last)) pair
      (rewritten-tells rewrites.place (items_of rewrites.before) item was (items_of rewrites.after)
      (state_of ticket_of contents) (state_with ticket_of contents new) last calls there.split
      over_item-state tells)

  -- the rings have one item more at most
  pub over_item-count : length new.hot + length new.cold
      ≤ length contents.lists.hot + length contents.lists.cold + 1
  over_item-count = omega (
    arith,
    ap (λ (l : Lists K V P). length l.hot + length l.cold) rewrites.rewritten.same,
    held_rewritten-count rewrites.place rewrites.before held_was held_now rewrites.after
        contents.lists rewrites.split,
  )

  -- the lists are sound before room is made
  pub over_item-sound : IsEquivalence equal → item.key ≡ key → item.queue ≡ was.queue
      → item.mark ≤ contents.mark_cut → IsSound ticket_of equal rules.hash contents
      → IsSound ticket_of equal rules.hash (record contents { lists = new })
  over_item-sound laws same queue within sound = record {
    valid = SameButOrder-valid equal _ (state_with ticket_of contents new) over_item-state
        (rewritten-valid equal laws rewrites.place (items_of rewrites.before) was item
        (items_of rewrites.after) (state_of ticket_of contents) there.split
        (subst (λ (k : K). equal k was.key ≡ true) (sym same) there.passes) queue within
        sound.valid);
    sized = sound.sized;
    hashed = AreHashed-reordered rules.hash _ new rewrites.rewritten
        (AreHashed-rewritten rules.hash rewrites.place rewrites.before held_was held_now
        rewrites.after contents.lists rewrites.split
        (ap (λ (h : HeldItem K V). h.hash) one ∙ ap rules.hash (sym same)) sound.hashed);
  }
