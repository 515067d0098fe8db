-- Entry calls: what the lists are once an item whose value was written goes, or gives its slot to a
-- placeholder.
use Rattle.std.proofs.Common.{◌≡◌, ℕ, ◌+◌, ◌==◌, Bool, true, false, List, [], ◌∷◌, ◌++◌, refl, sym, ap, subst, ◌∙◌}
use Rattle.std.specs.Cmp.{IsEquivalence}
use Rattle.std.proofs.lemmas.List.{map-append}
use Rattle.quick_cache_model.specs.declared.queue.Queue.{Queue}
use Rattle.quick_cache_model.specs.CacheState.{CacheState, Item, Place, InHot, InCold, InStill, SameButOrder, UpToOrder}
use Rattle.quick_cache_model.specs.Entries.{Remove, ReplaceWithGuard, Removed, Replaced, ActsOnEntry}
use Rattle.quick_cache_model.specs.Finding.{IsItemAt}
use Rattle.quick_cache_model.specs.Hooks.{Rules}
use Rattle.quick_cache_model.specs.Placeholders.{with_placeholder}
use Rattle.quick_cache_model.specs.Refusals.{IsProvided, needs_of_replacement}
use Rattle.quick_cache_model.proofs.EachElement.{all-push}
use Rattle.quick_cache_model.proofs.OrderLaws.{UpToOrder-exact}
use Rattle.quick_cache_model.proofs.Valid.Lookups.{ActsOnEntry-valid}
use Rattle.quick_cache_model.proofs.Valid.Orders.{SameButOrder-valid}
use Rattle.quick_cache_store.specs.declared.slots.entry.Awaited.{Awaited}
use Rattle.quick_cache_store.specs.declared.slots.entry.Entry.{Entry}
use Rattle.quick_cache_store.specs.Lists.{HeldItem, HeldLoading, Lists, AreApart, FindsItem, HasItem, PutsLast, items_at, with_items}
use Rattle.quick_cache_store.specs.Lists.{with_value, without_entry}
use Rattle.quick_cache_store.specs.Views.{items_of, joined_around, loading_entry, loading_entries}
use Rattle.quick_cache_store.proofs.lists.CallerLemmas.{without-hot, without-cold, without-still, items_of-around}
use Rattle.quick_cache_store.proofs.lists.StandingLemmas.{found-same}
use Rattle.quick_cache_policy.specs.declared.contents.Contents.{Contents}
use Rattle.quick_cache_policy.specs.Contents.{AreHashed, IsSound, state_of}
use Rattle.quick_cache_policy.specs.Entering.{RemovesWritten, TakesWeighed}
use Rattle.quick_cache_policy.proofs.EnterLemmas.{state_with, split-state, held-under, AreHashed-without, AreHashed-restarted}
use Rattle.quick_cache_policy.proofs.EnterLemmas.{AreHashed-room}
use Rattle.quick_cache_policy.proofs.EntryLemmas.{left_from, removed-acts, replaced-acts}
use Rattle.quick_cache_policy.proofs.SoundLemmas.{state_of-reordered, AreHashed-reordered}

-- an item whose value was written is still found
pub written-found : {K V P : Type 0} (stands_for : K → Bool) (hash : ℕ) (lists : Lists K V P)
    (token : ℕ) (found : FindsItem stands_for hash lists token) (value : V)
    → FindsItem stands_for hash (with_items found.stands.place (found.stands.stands.before
    ++ record { token = token; hash = hash; item = with_value value found.item }
    ∷ found.stands.stands.after) lists) token
written-found {K = K} {V = V} {P = P} stands_for hash lists token found value = record {
  item = with_value value found.item;
  stands = record {
    place = found.stands.place;
    stands = record {
      before = found.stands.stands.before;
      after = found.stands.stands.after;
      split = there found.stands.place _;
    };
  };
  passes = found.passes;
}
  where
    there : (place : Place) (items : List (HeldItem K V))
        → items_at place (with_items place items lists) ≡ items
    there InHot items = refl
    there InCold items = refl
    there InStill items = refl

module _ {K V P W A T : Type 0} (ticket_of : P → ℕ) (old new : Contents K V W A T P)
    (apart : AreApart old.lists) (token : ℕ) (stands_for : K → Bool) (hash : ℕ)
    (found : FindsItem stands_for hash old.lists token) (rules : Rules K V)
    (gone : (K × V) × Queue) (takes : TakesWeighed rules.weight old token gone new) where
  -- the item that went
  abbrev went : HeldItem K V
  went = record { token = token; hash = takes.stood.0; item = takes.item }

  abbrev has : HasItem old.lists went
  has = takes.stood.1

  one : went ≡ record { token = token; hash = hash; item = found.item }
  one = found-same old.lists apart token
      (record { token = token; hash = hash; item = found.item }) went found.stands has refl refl

  abbrev pub before_it : List (Item K V)
  before_it = items_of has.stands.before

  abbrev pub after_it : List (Item K V)
  after_it = items_of has.stands.after

  pub went-at : IsItemAt stands_for (state_of ticket_of old) has.place before_it takes.item after_it
  went-at = record {
    split = split-state ticket_of old has.place has.stands.before went has.stands.after old.lists
        has.stands.split;
    passes = ap (λ (h : HeldItem K V). stands_for h.item.key) one ∙ found.passes;
  }

  -- whether its ring restarts
  abbrev restarts : Bool
  restarts = rules.weight takes.item.key takes.item.value == 0

  abbrev pub left_state : CacheState K V
  left_state = left_from has.place restarts before_it after_it (state_of ticket_of old)

  -- the state that it left
  pub left-is : state_of ticket_of new ≡ left_state
  left-is = ap (state_of ticket_of) takes.rest
      ∙ go has.place has.stands.before has.stands.after has.stands.split
    where
      go : (place : Place) (before after : List (HeldItem K V))
          → items_at place old.lists ≡ before ++ went ∷ after
          → state_with ticket_of old (without_entry restarts token old.lists)
          ≡ left_from place restarts (items_of before) (items_of after) (state_of ticket_of old)
      go InHot before after split =
          ap (state_with ticket_of old) (without-hot old.lists apart restarts before after went split)
          ∙ ap (λ (l : List (Item K V)). record (state_of ticket_of old) { hot = l })
          (items_of-around restarts before after)
      go InCold before after split =
          ap (state_with ticket_of old)
          (without-cold old.lists apart restarts before after went split)
          ∙ ap (λ (l : List (Item K V)). record (state_of ticket_of old) { cold = l })
          (items_of-around restarts before after)
      go InStill before after split =
          ap (state_with ticket_of old)
          (without-still old.lists apart restarts before after went split)
          ∙ ap (λ (l : List (Item K V)). record (state_of ticket_of old) { still = l })
          (map-append (λ (h : HeldItem K V). h.item) before after)

  -- each key stays under its hash
  pub left-hashed : AreHashed rules.hash old.lists → AreHashed rules.hash new.lists
  left-hashed hashed = subst (λ (c : Contents K V W A T P). AreHashed rules.hash c.lists)
      (sym takes.rest) (go has.place has.stands.before has.stands.after has.stands.split)
    where
      around : (place : Place) (before after : List (HeldItem K V))
          → items_at place old.lists ≡ before ++ went ∷ after → (b : Bool)
          → AreHashed rules.hash (with_items place (joined_around b before after) old.lists)
      around place before after split true = AreHashed-restarted rules.hash place before went went
          after old.lists split hashed
      around place before after split false = AreHashed-without rules.hash place before went went
          after old.lists split hashed

      go : (place : Place) (before after : List (HeldItem K V))
          → items_at place old.lists ≡ before ++ went ∷ after
          → AreHashed rules.hash (without_entry restarts token old.lists)
      go InHot before after split = subst (λ (l : Lists K V P). AreHashed rules.hash l)
          (sym (without-hot old.lists apart restarts before after went split))
          (AreHashed-room rules.hash token (old.lists.room + 1) _
          (around InHot before after split restarts))
      go InCold before after split = subst (λ (l : Lists K V P). AreHashed rules.hash l)
          (sym (without-cold old.lists apart restarts before after went split))
          (AreHashed-room rules.hash token (old.lists.room + 1) _
          (around InCold before after split restarts))
      go InStill before after split = subst (λ (l : Lists K V P). AreHashed rules.hash l)
          (sym (without-still old.lists apart restarts before after went split))
          (AreHashed-room rules.hash token (old.lists.room + 1) _
          (AreHashed-without rules.hash InStill before went went after old.lists split hashed))

  -- it was removed
  removes : ActsOnEntry rules stands_for (state_of ticket_of old) takes.item takes.item.value Remove
      Removed (state_of ticket_of new)
  removes = subst (λ (s : CacheState K V). ActsOnEntry rules stands_for (state_of ticket_of old)
      takes.item takes.item.value Remove Removed s) (sym left-is)
      (removed-acts rules stands_for (state_of ticket_of old) has.place before_it takes.item
      after_it went-at)

  pub removes-written : RemovesWritten rules stands_for (state_of ticket_of old) gone.0
      (state_of ticket_of new)
  removes-written = record {
    item = takes.item;
    gives = takes.pair;
    step = UpToOrder-exact _ _ removes;
  }

  -- and what was sound is
  pub removes-sound : (equal : K → K → Bool) → IsEquivalence equal
      → IsSound ticket_of equal rules.hash old → IsSound ticket_of equal rules.hash new
  removes-sound equal laws sound = record {
    valid = ActsOnEntry-valid equal laws rules stands_for (state_of ticket_of old) takes.item
        takes.item.value Remove Removed (state_of ticket_of new) removes sound.valid;
    sized = rw takes.rest sound.sized;
    hashed = left-hashed sound.hashed;
  }

  -- ---- a placeholder in its slot

  module _ {X : Type 0} (lists : Lists K V P) (at_token : ℕ) (awaited : Awaited K P)
      (puts : PutsLast {T = X} new.lists at_token hash (Entry.Loading awaited) lists) (next : ℕ)
      (next_is : next ≡ old.next_ticket + 1)
      (key_is : awaited.key ≡ takes.item.key) (queue_is : awaited.queue ≡ takes.item.queue)
      (ticket_is : ticket_of awaited.placeholder ≡ old.next_ticket) where
    -- the contents with it
    abbrev pub replaced_by : Contents K V W A T P
    replaced_by = record new { lists = lists; next_ticket = next }

    abbrev waiting : HeldLoading K P
    waiting = record {
      token = at_token;
      hash = hash;
      key = awaited.key;
      queue = awaited.queue;
      placeholder = awaited.placeholder;
    }

    next_same : new.next_ticket ≡ old.next_ticket
    next_same = ap (λ (c : Contents K V W A T P). c.next_ticket) takes.rest

    -- the state that it leads to
    replaced-state : SameButOrder (with_placeholder takes.item.key takes.item.queue left_state)
        (state_of ticket_of replaced_by)
    replaced-state =
        let loads : loading_entries ticket_of (new.lists.loading ++ waiting ∷ [])
        ≡ loading_entries ticket_of new.lists.loading ++ record {
          key = takes.item.key;
          queue = takes.item.queue;
          ticket = new.next_ticket;
        } ∷ [] = map-append (loading_entry ticket_of) new.lists.loading (waiting ∷ [])
        ∙ (λ i. loading_entries ticket_of new.lists.loading ++ record {
          key = key_is i;
          queue = queue_is i;
          ticket = (ticket_is ∙ sym next_same) i;
        } ∷ []) in
        subst (λ (s : CacheState K V). SameButOrder (with_placeholder takes.item.key
        takes.item.queue s) (state_of ticket_of replaced_by)) left-is
        (subst (λ (s : CacheState K V). SameButOrder s (state_of ticket_of replaced_by))
        (λ i. record (state_of ticket_of new) {
          loading = loads i;
          next_ticket = (next_is ∙ ap (λ n. n + 1) (sym next_same)) i;
        })
        (state_of-reordered ticket_of (record new { next_ticket = next }) _ lists puts.put))

    replaces : IsProvided needs_of_replacement (state_of ticket_of old)
        → ActsOnEntry rules stands_for (state_of ticket_of old) takes.item takes.item.value
        ReplaceWithGuard Replaced
        (with_placeholder takes.item.key takes.item.queue left_state)
    replaces provided = replaced-acts rules stands_for (state_of ticket_of old) has.place before_it
        takes.item after_it went-at provided

    -- it was replaced
    pub replaces-written : IsProvided needs_of_replacement (state_of ticket_of old)
        → UpToOrder (ActsOnEntry rules stands_for (state_of ticket_of old) takes.item
        takes.item.value ReplaceWithGuard Replaced) (state_of ticket_of replaced_by)
    replaces-written provided = record {
      ordered = with_placeholder takes.item.key takes.item.queue left_state;
      holds = replaces provided;
      same = replaced-state;
    }

    -- and what was sound is
    pub replaces-sound : IsProvided needs_of_replacement (state_of ticket_of old)
        → (equal : K → K → Bool) → IsEquivalence equal
        → IsSound ticket_of equal rules.hash old → IsSound ticket_of equal rules.hash replaced_by
    replaces-sound provided equal laws sound =
        let are = left-hashed sound.hashed in record {
          valid = SameButOrder-valid equal _ (state_of ticket_of replaced_by) replaced-state
              (ActsOnEntry-valid equal laws rules stands_for (state_of ticket_of old) takes.item
              takes.item.value ReplaceWithGuard Replaced _ (replaces provided) sound.valid);
          sized = rw takes.rest sound.sized;
          hashed = AreHashed-reordered rules.hash _ lists puts.put (record {
            hot = are.hot;
            cold = are.cold;
            still = are.still;
            loading = all-push (λ (w : HeldLoading K P). w.hash ≡ rules.hash w.key)
                new.lists.loading waiting are.loading
                (sym (ap (λ (h : HeldItem K V). h.hash) one)
                ∙ held-under rules.hash has.place has.stands.before went has.stands.after old.lists
                has.stands.split sound.hashed ∙ ap rules.hash (sym key_is));
          });
        }
