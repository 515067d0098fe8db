-- A placeholder that was made: the state that it leads to, and why none is made.
use Rattle.std.proofs.Common.{◌≡◌, ◌≢◌, ℕ, ◌+◌, ◌≤◌, ◌<◌, Bool, true, false, true≢false, [], ◌∷◌, ◌++◌, Result, Ok, Err, IsErr, IsErrAnd}
use Rattle.std.proofs.Common.{refl, sym, ap, subst, ◌∙◌, arith}
use Rattle.std.specs.Cmp.{IsEquivalence}
use Rattle.std.proofs.lemmas.List.{map-append}
use Rattle.quick_cache_model.specs.declared.refusal.Refusal.{Refusal}
use Rattle.quick_cache_model.specs.CacheState.{CacheState, LoadingEntry, SameButOrder, keys_by}
use Rattle.quick_cache_model.specs.Finding.{HasNoKey, HasNothing}
use Rattle.quick_cache_model.specs.Lookups.{after_miss}
use Rattle.quick_cache_model.specs.Placeholders.{with_placeholder}
use Rattle.quick_cache_model.specs.Refusals.{IsProvided, needs_of_placeholder, tickets_spent, slots_full, memory_refused, slots_taken}
use Rattle.quick_cache_model.specs.Refusals.{slot_count}
use Rattle.quick_cache_model.specs.Touches.{counted_up}
use Rattle.quick_cache_model.proofs.EachElement.{all-push}
use Rattle.quick_cache_model.proofs.Valid.Edits.{after_miss-valid, with_placeholder-valid}
use Rattle.quick_cache_model.proofs.Valid.Orders.{SameButOrder-valid}
use Rattle.quick_cache_store.specs.declared.slots.entry.Awaited.{Awaited}
use Rattle.quick_cache_store.specs.declared.slots.entry.Entry.{Entry}
use Rattle.quick_cache_store.specs.Lists.{HeldLoading, Lists, PutsLast, slots_left}
use Rattle.quick_cache_store.specs.Views.{loading_entry, loading_entries}
use Rattle.quick_cache_policy.specs.declared.contents.Contents.{Contents}
use Rattle.quick_cache_policy.specs.Contents.{IsSound, state_of}
use Rattle.quick_cache_policy.specs.Loading.{MakesNone, Makes}
use Rattle.quick_cache_policy.proofs.AnswerLemmas.{entry_count-taken}
use Rattle.quick_cache_policy.proofs.EnterLemmas.{state_with}
use Rattle.quick_cache_policy.proofs.SoundLemmas.{state_of-reordered, AreHashed-reordered}

-- ---- a query that gives a key stands for the keys that are equal to it

same-answer : (a b : Bool) → (a ≡ true → b ≡ true) → (b ≡ true → a ≡ true) → a ≡ b
same-answer true true to from = refl
same-answer true false to from = absurd (true≢false (sym (to refl)))
same-answer false true to from = absurd (true≢false (sym (from refl)))
same-answer false false to from = refl

module _ {K : Type 0} (equal : K → K → Bool) (stands_for : K → Bool) (key : K)
    (stands : stands_for key ≡ true)
    (one : (first second : K) → stands_for first ≡ true → stands_for second ≡ true
    → equal first second ≡ true)
    (all : (other : K) → equal key other ≡ true → stands_for other ≡ true) where
  pub stands-exactly : (x : K) → stands_for x ≡ equal key x
  stands-exactly x = same-answer (stands_for x) (equal key x) (λ is. one key x stands is) (all x)

-- ---- why none is made

module _ {K V : Type 0} (stands_for : K → Bool) (gives : K → Type 0) (hash : ℕ)
    (state : CacheState K V) where
  -- tickets are spent
  pub none-tickets : HasNoKey stands_for state → state.next_ticket ≡ 18446744073709551615
      → MakesNone stands_for gives hash state Refusal.TicketsSpent state
  none-tickets none spent = record {
    cause = tickets_spent none (omega (arith, spent));
    unchanged = refl;
  }

  -- on nothing, there is a slot
  pub provided-on_nothing : state.next_ticket < 18446744073709551615
      → slots_taken state < slot_count → IsProvided (needs_of_placeholder stands_for hash state) state
  provided-on_nothing ticket slot = record {
    ticket = λ _. omega (arith, ticket);
    slot = λ _. slot;
  }

  -- on a ghost, none is needed
  pub provided-on_ghost : state.next_ticket < 18446744073709551615
      → (HasNothing stands_for hash state → ⊥)
      → IsProvided (needs_of_placeholder stands_for hash state) state
  provided-on_ghost ticket some = record {
    ticket = λ _. omega (arith, ticket);
    slot = λ none. absurd (some none);
  }

  -- slots are full
  pub none-slots : HasNothing stands_for hash state → state.next_ticket < 18446744073709551615
      → slot_count ≤ slots_taken state
      → MakesNone stands_for gives hash state Refusal.SlotsFull state
  none-slots none ticket full = record {
    cause = slots_full (λ _. omega (arith, ticket)) none full;
    unchanged = refl;
  }

  -- memory was refused
  pub none-memory : HasNoKey stands_for state
      → IsProvided (needs_of_placeholder stands_for hash state) state
      → MakesNone stands_for gives hash state Refusal.Memory state
  none-memory none provided = record {
    cause = memory_refused provided none;
    unchanged = refl;
  }

-- what is handed on by `?` is the refusal of the call before
module _ {K V P W A X : Type 0} (ticket_of : P → ℕ) (own_ticket : W → ℕ) (stands_for : K → Bool)
    (gives : K → Type 0) (hash : ℕ) (old new : Contents K V W A X P) (refusal : Refusal) where
  pub Makes-refused : (answer : Result W Refusal) → IsErr answer
      → IsErrAnd answer (λ handed. handed ≡ refusal)
      → MakesNone stands_for gives hash (state_of ticket_of old) refusal (state_of ticket_of new)
      → Makes ticket_of own_ticket stands_for gives hash old answer new
  Makes-refused (Ok placeholder) is same none = absurd same
  Makes-refused (Err handed) is same none =
      subst (λ r. MakesNone stands_for gives hash (state_of ticket_of old) r
      (state_of ticket_of new)) (sym same) none

-- the slots are full where none is left
pub full-slots : {K V P W A X : Type 0} (ticket_of : P → ℕ) (contents : Contents K V W A X P)
    → slots_left contents.lists ≡ 0 → slot_count ≤ slots_taken (state_of ticket_of contents)
full-slots ticket_of contents none = omega (arith, none, entry_count-taken ticket_of contents)

pub free-slot : {K V P W A X : Type 0} (ticket_of : P → ℕ) (contents : Contents K V W A X P)
    → slots_left contents.lists ≢ 0 → slots_taken (state_of ticket_of contents) < slot_count
free-slot ticket_of contents some = omega (arith, some, entry_count-taken ticket_of contents)

-- ---- one that was put last

module _ {K V P W A T X : Type 0} (ticket_of : P → ℕ) (contents : Contents K V W A X P)
    (mid new : Lists K V P) (token hash : ℕ) (awaited : Awaited K P)
    (puts : PutsLast {T = T} mid token hash (Entry.Loading awaited) new) (misses next : ℕ)
    (misses_are : misses ≡ counted_up 1 contents.misses)
    (next_is : next ≡ contents.next_ticket + 1)
    (ticket_is : ticket_of awaited.placeholder ≡ contents.next_ticket) where
  -- the contents with it
  abbrev pub made : Contents K V W A X P
  made = record contents { lists = new; misses = misses; next_ticket = next }

  abbrev waiting : HeldLoading K P
  waiting = record {
    token = token;
    hash = hash;
    key = awaited.key;
    queue = awaited.queue;
    placeholder = awaited.placeholder;
  }

  pub made-state : SameButOrder
      (with_placeholder awaited.key awaited.queue (after_miss (state_with ticket_of contents mid)))
      (state_of ticket_of made)
  made-state =
      let entry : LoadingEntry K =
      record { key = awaited.key; queue = awaited.queue; ticket = contents.next_ticket } in
      let loads : loading_entries ticket_of (mid.loading ++ waiting ∷ [])
      ≡ loading_entries ticket_of mid.loading ++ entry ∷ [] =
      map-append (loading_entry ticket_of) mid.loading (waiting ∷ [])
      ∙ ap (λ (n : ℕ). loading_entries ticket_of mid.loading
      ++ record { key = awaited.key; queue = awaited.queue; ticket = n } ∷ []) ticket_is in
      subst (λ (s : CacheState K V). SameButOrder s (state_of ticket_of made))
      (λ i. record (state_with ticket_of contents mid) {
        loading = loads i;
        misses = misses_are i;
        next_ticket = next_is i;
      })
      (state_of-reordered ticket_of (record contents { misses = misses; next_ticket = next }) _ new
      puts.put)

  -- the contents are sound
  pub made-sound : (equal : K → K → Bool) → IsEquivalence equal → (hashed : K → ℕ)
      → keys_by (equal awaited.key) (state_with ticket_of contents mid) ≡ 0
      → hash ≡ hashed awaited.key
      → IsSound ticket_of equal hashed (record contents { lists = mid })
      → IsSound ticket_of equal hashed made
  made-sound equal laws hashed nowhere under sound = record {
    valid = SameButOrder-valid equal _ (state_of ticket_of made) made-state
        (with_placeholder-valid equal laws awaited.key awaited.queue
        (after_miss (state_with ticket_of contents mid)) nowhere
        (after_miss-valid equal (state_with ticket_of contents mid) sound.valid));
    sized = sound.sized;
    hashed = AreHashed-reordered hashed _ new puts.put (record {
      hot = sound.hashed.hot;
      cold = sound.hashed.cold;
      still = sound.hashed.still;
      loading = all-push (λ (w : HeldLoading K P). w.hash ≡ hashed w.key) mid.loading waiting
          sound.hashed.loading under;
    });
  }
