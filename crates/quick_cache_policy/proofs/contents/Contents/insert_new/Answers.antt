use Rattle.std.proofs.Common.{◌≡◌, ℕ, [], sym, ap, subst, ◌∙◌, arith, inl, inr}
use Rattle.std.specs.Int.NonZero.{non_zero_u32_get as number}
use Rattle.quick_cache_model.specs.declared.queue.Queue.{Queue}
use Rattle.quick_cache_model.specs.CacheState.{Item, UpToOrder}
use Rattle.quick_cache_model.specs.Eviction.{EvictsToCapacity}
use Rattle.quick_cache_model.specs.Writes.{queue_for}
use Rattle.quick_cache_model.specs.Removal.{pair_of}
use Rattle.quick_cache_store.specs.declared.slots.entry.Entry.{Entry}
use Rattle.quick_cache_store.specs.declared.lists.found.Found.{Found}
use Rattle.quick_cache_store.specs.Lists.{Finds, PutsLast}
use Rattle.quick_cache_policy.specs.Contents.{state_of}
use Rattle.quick_cache_policy.specs.Policies.{rules_by}
use Rattle.quick_cache_policy.specs.Writing.{queue_by, AreAdmittedCalls, IsReplacement}
use Rattle.quick_cache_policy.proofs.FindLemmas.{AreHashed-under, HasNothing-state}
use Rattle.quick_cache_policy.proofs.NewLemmas.{new-writes, new-tells, new-sound}
use Rattle.quick_cache_policy.proofs.AdmissionLemmas.{Finds-no_item}
use Rattle.quick_cache_policy.proofs.WrittenPlaces.{no-place, put-places}
use Rattle.quick_cache_policy.specs.declared.contents.Contents.{Contents}
use Rattle.quick_cache_policy.proofs.BoundLemmas.{PaysFor-within}
use Rattle.quick_cache_policy.proofs.contents.Contents.insert_new.Goals as goal

pub returns-clause-writes : goal.returns-clause-writes
returns-clause-writes g c =
    let rules = rules_by g.M.Policy g.P.Touch.Touches.may_count c.args.terms.now in
    let ticket_of = g.P.SharedPlaceholder.ticket_of in
    let key = c.args.key in
    let value = c.args.weighed.value in
    let old = state_of ticket_of c.args.self.now in
    let lists = c.args.self.now.lists in
    let made = c.evict_to_capacity.new.self in
    let found = subst (λ h. Finds (g.K.PartialEq.eq key) h lists Found.Nothing)
    c.requires.hash_is c.requires.found in
    let under = AreHashed-under (g.K.PartialEq.eq key) (rules.hash key) lists rules.hash
    (λ k same. sym (g.met.M.Policy.same_hash c.args.terms.now key k same))
    c.requires.sound.hashed in
    let queue : c.choose_queue-queue.result ≡ queue_for rules old key value Queue.Cold =
    c.choose_queue-queue.ensures ∙ ap (λ n. queue_by old n Queue.Cold) c.requires.weight_is in
    let evicts = c.evict_to_capacity.ensures.evicts in
    record {
      calls = evicts.calls;
      holds = (
        λ steady. new-writes ticket_of c.args.self.now made g.K.PartialEq.eq g.met.K.Eq.laws rules
            key value
            (HasNothing-state ticket_of (g.K.PartialEq.eq key) (rules.hash key) c.args.self.now
            under found)
            c.evict_to_capacity.ensures.stays.keys (number c.put.result) c.new-item.result
            c.put.new.self
            (subst (λ (h : ℕ). PutsLast {T = g.row.P-Touch.Denot} made.lists (number c.put.result) h
            (Entry.Item c.new-item.result) c.put.new.self) c.requires.hash_is c.put.ensures.last)
            (c.new-item.ensures ∙ (λ i. record c.new-item.result {
              key = key;
              value = value;
              weight = c.requires.weight_is i;
              mark = 0;
              reads = 0;
              queue = queue i;
            })) evicts.calls
            (subst (λ (n : ℕ). UpToOrder (EvictsToCapacity rules n old evicts.calls)
            (state_of ticket_of made)) c.requires.weight_is (evicts.holds.0 steady)),
        AreAdmittedCalls.writes [] evicts.calls IsReplacement.none evicts.holds.1,
        new-tells ticket_of c.args.self.now made g.K.PartialEq.eq g.met.K.Eq.laws rules key value
            (HasNothing-state ticket_of (g.K.PartialEq.eq key) (rules.hash key) c.args.self.now
            under found)
            c.evict_to_capacity.ensures.stays.keys (number c.put.result) c.new-item.result
            c.put.new.self
            (subst (λ (h : ℕ). PutsLast {T = g.row.P-Touch.Denot} made.lists (number c.put.result) h
            (Entry.Item c.new-item.result) c.put.new.self) c.requires.hash_is c.put.ensures.last)
            (ap pair_of c.new-item.ensures) evicts.calls evicts.holds.2,
      );
      runs = evicts.runs;
    }

-- the key is nowhere where room was made, for making room brings none
-- the key stood nowhere
pub returns-clause-stays : goal.returns-clause-stays
returns-clause-stays g c =
    let rules = rules_by g.M.Policy g.P.Touch.Touches.may_count c.args.terms.now in
    let ticket_of = g.P.SharedPlaceholder.ticket_of in
    let key = c.args.key in
    let lists = c.args.self.now.lists in
    let made = c.evict_to_capacity.new.self in
    let found = subst (λ h. Finds (g.K.PartialEq.eq key) h lists Found.Nothing)
    c.requires.hash_is c.requires.found in
    let under = AreHashed-under (g.K.PartialEq.eq key) (rules.hash key) lists rules.hash
    (λ k same. sym (g.met.M.Policy.same_hash c.args.terms.now key k same))
    c.requires.sound.hashed in
    let none = Finds-no_item g.P.SharedPlaceholder.ticket_of g.K.PartialEq.eq key c.args.hash
    c.args.self.now c.requires.sound.valid
    (AreHashed-under (g.K.PartialEq.eq key) c.args.hash c.args.self.now.lists
    (g.M.Policy.hashed c.args.terms.now)
    (λ k same. sym (c.requires.hash_is ∙ g.met.M.Policy.same_hash c.args.terms.now key k same))
    c.requires.sound.hashed) Found.Nothing c.requires.found (λ token e. absurd (cc)) in
    record {
      sound = new-sound ticket_of c.args.self.now made g.K.PartialEq.eq g.met.K.Eq.laws rules key
          c.args.weighed.value
          (HasNothing-state ticket_of (g.K.PartialEq.eq key) (rules.hash key) c.args.self.now under
          found)
          c.evict_to_capacity.ensures.stays.keys (number c.put.result) c.new-item.result
          c.put.new.self
          (subst (λ (h : ℕ). PutsLast {T = g.row.P-Touch.Denot} made.lists (number c.put.result) h
          (Entry.Item c.new-item.result) c.put.new.self) c.requires.hash_is c.put.ensures.last)
          (ap (λ (i : Item _ _). i.key) c.new-item.ensures)
          (omega (arith, ap (λ (i : Item _ _). i.mark) c.new-item.ensures))
          c.evict_to_capacity.ensures.stays.sound;
      places = λ place there. elim (put-places {T = g.row.P-Touch.Denot}
          c.evict_to_capacity.new.self.lists c.put.new.self
          (number c.put.result) c.args.hash c.new-item.result c.put.ensures.last place there) [
            | inl stood ↦ inl (c.evict_to_capacity.ensures.stays.places place stood)
            | inr made ↦ inr (
              ap (λ p. p.1) made ∙ ap (λ (i : Item _ _). i.key) c.new-item.ensures,
              λ other there same. absurd (no-place g.P.SharedPlaceholder.ticket_of c.args.self.now
                  (g.K.PartialEq.eq key) none other there same),
            )
          ];
      room = omega arith;
      work = PaysFor-within _ _ _ _ _ _ _ _ (omega arith) c.evict_to_capacity.ensures.stays.work;
      same = ap (λ (r : Contents _ _ _ _ _ _). record r { lists = c.put.new.self })
          c.evict_to_capacity.ensures.stays.same;
    }
