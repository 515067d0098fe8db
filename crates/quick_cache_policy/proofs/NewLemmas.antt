-- A pair under a key of which nothing is known: it is put last once room was made, under a key that
-- is nowhere then, and in the queue that was chosen before.
use Rattle.std.proofs.Common.{◌≡◌, ℕ, ◌≤◌, Bool, List, ◌∷◌, None, refl, sym, ap, subst, arith}
use Rattle.std.specs.Cmp.{IsEquivalence}
use Rattle.std.proofs.lemmas.List.Sorted.{IsPermutation-sym, IsPermutation-trans}
use Rattle.quick_cache_model.specs.declared.queue.Queue.{Queue}
use Rattle.quick_cache_model.specs.CacheState.{CacheState, Item, SameButOrder, UpToOrder, keys_by, entered as model_entered}
use Rattle.quick_cache_model.specs.Finding.{HasNothing}
use Rattle.quick_cache_model.specs.Hooks.{Rules, HookCall}
use Rattle.quick_cache_model.specs.Eviction.{EvictsToCapacity}
use Rattle.quick_cache_model.specs.Writes.{Insert, WritesAdmitted, new_item, queue_for}
use Rattle.quick_cache_model.proofs.Eviction.Keys.{keys_by-none}
use Rattle.quick_cache_model.proofs.OrderLaws.{SameButOrder-trans, entered-reordered}
use Rattle.quick_cache_model.proofs.Valid.Edits.{entered-valid}
use Rattle.quick_cache_model.proofs.Valid.Orders.{SameButOrder-valid}
use Rattle.quick_cache_model.specs.Removal.{pair_of}
use Rattle.quick_cache_model.specs.Fates.{residents}
use Rattle.quick_cache_model.specs.Leads.{Tells, TellsResidents, TellsBeside}
use Rattle.quick_cache_model.proofs.Leads.{Leads-to, Leads-beside}
use Rattle.quick_cache_model.proofs.Residents.{residents-entered, residents-ordered}
use Rattle.quick_cache_store.specs.declared.slots.entry.Entry.{Entry}
use Rattle.quick_cache_store.specs.Lists.{HeldItem, Lists, PutsLast, entered}
use Rattle.quick_cache_policy.specs.declared.contents.Contents.{Contents}
use Rattle.quick_cache_policy.specs.Contents.{IsSound, state_of}
use Rattle.quick_cache_policy.proofs.SoundLemmas.{state_of-reordered, AreHashed-reordered}
use Rattle.quick_cache_policy.proofs.EnterLemmas.{state_with, entered-state, AreHashed-entered, AreHashed-room}

-- ---- the item, put last once room was made

module _ {K V P W A T X : Type 0} (ticket_of : P → ℕ) (old made : Contents K V W A X P)
    (equal : K → K → Bool) (laws : IsEquivalence equal) (rules : Rules K V) (key : K) (value : V)
    (nothing : HasNothing (equal key) (rules.hash key) (state_of ticket_of old))
    (keys : (test : K → Bool) → keys_by test (state_of ticket_of made)
    ≤ keys_by test (state_of ticket_of old))
    (token : ℕ) (item : Item K V) (new : Lists K V P)
    (puts : PutsLast {T = T} made.lists token (rules.hash key) (Entry.Item item) new) where
  held : HeldItem K V
  held = record { token = token; hash = rules.hash key; item = item }

  pub put-state : SameButOrder (model_entered item (state_of ticket_of made))
      (state_with ticket_of made new)
  unfolding held
  put-state = subst (λ (s : CacheState K V). SameButOrder s (state_with ticket_of made new))
      (entered-state ticket_of made held made.lists)
      (state_of-reordered ticket_of made _ new puts.put)

  -- the write
  pub new-writes : item ≡ new_item rules key value
      (queue_for rules (state_of ticket_of old) key value Queue.Cold) 0
      → (calls : List (HookCall K V))
      → UpToOrder (EvictsToCapacity rules (rules.weight key value) (state_of ticket_of old) calls)
      (state_of ticket_of made)
      → UpToOrder (WritesAdmitted rules (equal key) key Insert (state_of ticket_of old) value calls
      None) (state_with ticket_of made new)
  new-writes is calls evicts =
      let pair = new_item rules key value
      (queue_for rules (state_of ticket_of old) key value Queue.Cold) 0 in
      record {
        ordered = model_entered pair evicts.ordered;
        holds = WritesAdmitted.inserts_new evicts.ordered calls refl nothing evicts.holds;
        same = SameButOrder-trans (model_entered pair evicts.ordered)
            (model_entered pair (state_of ticket_of made)) (state_with ticket_of made new)
            (entered-reordered pair evicts.ordered (state_of ticket_of made) evicts.same)
            (subst (λ (i : Item K V). SameButOrder (model_entered i (state_of ticket_of made))
            (state_with ticket_of made new)) is put-state);
      }

  -- what was told while room was made is told of the pair too
  pub new-tells : pair_of item ≡ (key, value) → (calls : List (HookCall K V))
      → TellsResidents (state_of ticket_of old) calls (state_of ticket_of made)
      → TellsBeside key value (state_of ticket_of old) calls None (state_with ticket_of made new)
  new-tells pair calls tells =
      subst (λ (p : K × V). Tells (p ∷ residents (state_of ticket_of old)) calls
      (residents (state_with ticket_of made new))) pair
      (Leads-to (pair_of item ∷ residents (state_of ticket_of made))
      (residents (state_with ticket_of made new))
      (IsPermutation-trans (pair_of item ∷ residents (state_of ticket_of made))
      (residents (model_entered item (state_of ticket_of made)))
      (residents (state_with ticket_of made new))
      (IsPermutation-sym _ _ (residents-entered item (state_of ticket_of made)))
      (residents-ordered (model_entered item (state_of ticket_of made))
      (state_with ticket_of made new) put-state))
      (Leads-beside (pair_of item) tells))

  -- the lists are sound
  pub new-sound : item.key ≡ key → item.mark ≤ made.mark_cut → IsSound ticket_of equal rules.hash made
      → IsSound ticket_of equal rules.hash (record made { lists = new })
  unfolding held
  new-sound same marked sound = record {
    valid = SameButOrder-valid equal _ (state_with ticket_of made new) put-state
        (entered-valid equal laws item (state_of ticket_of made)
        (subst (λ k. keys_by (equal k) (state_of ticket_of made) ≡ 0) (sym same)
        (omega (
          arith,
          keys (equal key),
          keys_by-none (equal key) (state_of ticket_of old) nothing.keys,
        )))
        marked sound.valid);
    sized = sound.sized;
    hashed = AreHashed-reordered rules.hash _ new puts.put
        (AreHashed-room rules.hash new.next new.room (entered held made.lists)
        (AreHashed-entered rules.hash held made.lists (ap rules.hash (sym same)) sound.hashed));
  }
