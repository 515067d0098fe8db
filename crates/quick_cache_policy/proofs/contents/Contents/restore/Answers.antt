use Rattle.std.proofs.Common.{◌≡◌, ◌∙◌, ℕ, Bool, true, min, inl, inr, refl, sym, ap, subst, arith}
use Rattle.std.specs.List.{Contains}
use Rattle.std.specs.Int.NonZero.{non_zero_u32_get as number}
use Rattle.quick_cache_model.specs.CacheState.{CacheState, Item, SameButOrder, keys_by, entered as model_entered}
use Rattle.quick_cache_model.specs.Finding.{HasNothing}
use Rattle.quick_cache_model.specs.Writes.{new_item}
use Rattle.quick_cache_store.specs.declared.slots.entry.Entry.{Entry}
use Rattle.quick_cache_store.specs.declared.lists.found.Found.{Found}
use Rattle.quick_cache_store.specs.Lists.{Finds, PutsLast}
use Rattle.quick_cache_policy.specs.Contents.{state_of, AreHashed, IsSound}
use Rattle.quick_cache_policy.specs.Places.{places_of}
use Rattle.quick_cache_policy.specs.Policies.{rules_by}
use Rattle.quick_cache_policy.specs.declared.contents.Contents.{Contents}
use Rattle.quick_cache_policy.proofs.AnswerLemmas.{Provides-refused}
use Rattle.quick_cache_policy.proofs.EnterLemmas.{state_with, AreHashed-room}
use Rattle.quick_cache_policy.proofs.FindLemmas.{AreHashed-under, Finds-nothing, HasNothing-state}
use Rattle.quick_cache_policy.proofs.NewLemmas.{new-sound, put-state}
use Rattle.quick_cache_policy.proofs.PlaceLemmas.{LosesOnly-same}
use Rattle.quick_cache_policy.proofs.WrittenPlaces.{no-place, put-places, LosesOnly-keeps, WritesPlace-keeps}
use Rattle.quick_cache_policy.proofs.contents.Contents.restore.Goals as goal

-- where nothing was found, the key is unknown
found-unknown : {K V P W A T : Type 0} (ticket_of : P → ℕ) (old : Contents K V W A T P)
    (stands_for : K → Bool) (hashed : K → ℕ) (handed hash : ℕ)
    → ((k : K) → stands_for k ≡ true → hashed k ≡ hash) → handed ≡ hash
    → AreHashed hashed old.lists → (found : Found)
    → Finds stands_for handed old.lists found → found ≡ Found.Nothing
    → HasNothing stands_for hash (state_of ticket_of old)
found-unknown ticket_of old stands_for hashed handed hash same is are found finds nothing =
    HasNothing-state ticket_of stands_for hash old
    (AreHashed-under stands_for hash old.lists hashed same are)
    (subst (λ (h : ℕ). Finds stands_for h old.lists Found.Nothing) is
    (subst (Finds stands_for handed old.lists) nothing finds))

-- something is known of the key
pub returns-in_default : goal.returns-in_default
returns-in_default g c =
    let ticket_of = g.P.SharedPlaceholder.ticket_of in
    let old = c.args.self.now in
    let equal_to = g.K.PartialEq.eq c.args.key in
    record {
      answers = (
        refl,
        refl,
        refl,
        λ can. c.in_default.not-Nothing (Finds-nothing ticket_of equal_to c.args.hash old
            c.find-found.result c.find-found.ensures
            (subst (λ (h : ℕ). HasNothing equal_to h (state_of ticket_of old))
            (sym c.requires.hash_is) can)),
      );
      asks = λ e. absurd (cc);
      sound = c.requires.sound;
      places = LosesOnly-keeps ticket_of old g.K.PartialEq.eq g.met.K.Eq.laws c.requires.sound.valid
          _ (λ place there. there);
      room = omega arith;
      same = refl;
    }

-- there was no slot or no memory
pub returns-in-Err-clause-answers : goal.returns-in-Err-clause-answers
returns-in-Err-clause-answers g c =
    let ticket_of = g.P.SharedPlaceholder.ticket_of in
    let old = c.args.self.now in
    let equal_to = g.K.PartialEq.eq c.args.key in
    let hash = g.M.Policy.hashed c.args.terms.now c.args.key in
    let refused = Provides-refused ticket_of equal_to hash old c.provide.new.self.lists.room
    (AreHashed-under equal_to hash old.lists (g.M.Policy.hashed c.args.terms.now)
    (λ k same. sym (g.met.M.Policy.same_hash c.args.terms.now c.args.key k same))
    c.requires.sound.hashed) c.find-found.result
    (subst (λ (h : ℕ). Finds equal_to h old.lists c.find-found.result) c.requires.hash_is
    c.find-found.ensures) c.in-Err.refusal c.in-Err.ensures.provides in
    (refl, refl, ap (state_of ticket_of) c.provide.ensures.lists, refused)

pub returns-in-Err-clause-places : goal.returns-in-Err-clause-places
returns-in-Err-clause-places g c =
    LosesOnly-keeps g.P.SharedPlaceholder.ticket_of c.args.self.now g.K.PartialEq.eq
    g.met.K.Eq.laws c.requires.sound.valid _
    (LosesOnly-same _ _
    (ap (λ (r : Contents _ _ _ _ _ _). places_of r.lists) c.provide.ensures.lists))

-- the pair was put last
pub returns-clause-answers : goal.returns-clause-answers
returns-clause-answers g c =
    let rules = rules_by g.M.Policy g.P.Touch.Touches.may_count c.args.terms.now in
    let ticket_of = g.P.SharedPlaceholder.ticket_of in
    let key = c.args.key in
    let old = c.args.self.now in
    let made = c.provide.new.self in
    let unknown = found-unknown ticket_of old (g.K.PartialEq.eq key) rules.hash
    c.args.hash (rules.hash key) (λ k same. sym (g.met.M.Policy.same_hash c.args.terms.now key k same))
    c.requires.hash_is c.requires.sound.hashed c.find-found.result c.find-found.ensures
    c.in-Nothing.is in
    let pair = new_item rules key c.args.value c.args.queue (min c.args.mark old.mark_cut) in
    let is : c.new-item.result ≡ pair =
    c.new-item.ensures ∙ (λ i. record {
      key = key;
      value = c.args.value;
      weight = c.weigh-weight.ensures i;
      mark = (c.min-mark.ensures
          ∙ ap (λ (r : Contents _ _ _ _ _ _). min c.args.mark r.mark_cut) c.provide.ensures.lists) i;
      reads = 0;
      queue = c.args.queue;
    }) in
    let put = put-state ticket_of old made g.K.PartialEq.eq g.met.K.Eq.laws rules key c.args.value
    unknown (λ test. omega (arith, ap (λ (r : Contents _ _ _ _ _ _). keys_by test (state_of ticket_of r)) c.provide.ensures.lists)) (number c.put.result) c.new-item.result c.put.new.self
    (subst (λ (h : ℕ). PutsLast {T = g.row.P-Touch.Denot} made.lists (number c.put.result) h
    (Entry.Item c.new-item.result) c.put.new.self) c.requires.hash_is c.put.ensures.last) in (
      unknown,
      record {
        ordered = model_entered pair (state_of ticket_of old);
        holds = refl;
        same = subst (λ (s : CacheState _ _). SameButOrder (model_entered pair s)
            (state_with ticket_of made c.put.new.self)) (ap (state_of ticket_of) c.provide.ensures.lists)
            (subst (λ (i : Item _ _). SameButOrder (model_entered i (state_of ticket_of made))
            (state_with ticket_of made c.put.new.self)) is put);
      },
    )

pub returns-clause-sound : goal.returns-clause-sound
returns-clause-sound g c =
    let rules = rules_by g.M.Policy g.P.Touch.Touches.may_count c.args.terms.now in
    let ticket_of = g.P.SharedPlaceholder.ticket_of in
    let key = c.args.key in
    let old = c.args.self.now in
    let made = c.provide.new.self in
    new-sound ticket_of old made g.K.PartialEq.eq g.met.K.Eq.laws rules key c.args.value
    (found-unknown ticket_of old (g.K.PartialEq.eq key) rules.hash c.args.hash (rules.hash key)
    (λ k same. sym (g.met.M.Policy.same_hash c.args.terms.now key k same)) c.requires.hash_is
    c.requires.sound.hashed c.find-found.result c.find-found.ensures c.in-Nothing.is)
    (λ test. omega (
      arith,
      ap (λ (r : Contents _ _ _ _ _ _). keys_by test (state_of ticket_of r))
          c.provide.ensures.lists,
    )) (number c.put.result) c.new-item.result c.put.new.self
    (subst (λ (h : ℕ). PutsLast {T = g.row.P-Touch.Denot} made.lists (number c.put.result) h
    (Entry.Item c.new-item.result) c.put.new.self) c.requires.hash_is c.put.ensures.last)
    (ap (λ (i : Item _ _). i.key) c.new-item.ensures)
    (omega (arith, ap (λ (i : Item _ _). i.mark) c.new-item.ensures, c.min-mark.ensures))
    (subst (λ r. IsSound ticket_of g.K.PartialEq.eq rules.hash r) (sym c.provide.ensures.lists)
    (record {
      valid = c.requires.sound.valid;
      sized = c.requires.sound.sized;
      hashed = AreHashed-room rules.hash old.lists.next made.lists.room old.lists
          c.requires.sound.hashed;
    }))

-- its key stood nowhere
pub returns-clause-places : goal.returns-clause-places
returns-clause-places g c =
    let rules = rules_by g.M.Policy g.P.Touch.Touches.may_count c.args.terms.now in
    let ticket_of = g.P.SharedPlaceholder.ticket_of in
    let key = c.args.key in
    let old = c.args.self.now in
    let unknown = found-unknown ticket_of old (g.K.PartialEq.eq key) rules.hash
    c.args.hash (rules.hash key) (λ k same. sym (g.met.M.Policy.same_hash c.args.terms.now key k same))
    c.requires.hash_is c.requires.sound.hashed c.find-found.result c.find-found.ensures
    c.in-Nothing.is in
    WritesPlace-keeps ticket_of old g.K.PartialEq.eq g.met.K.Eq.laws c.requires.sound.valid key _
    (λ place there. elim (put-places {T = g.row.P-Touch.Denot} c.provide.new.self.lists
    c.put.new.self (number c.put.result) c.args.hash c.new-item.result c.put.ensures.last place there) [
      | inl stood ↦ inl (subst (λ l. Contains l place)
          (ap (λ (r : Contents _ _ _ _ _ _). places_of r.lists) c.provide.ensures.lists) stood)
      | inr made ↦ inr (
        ap (λ p. p.1) made ∙ ap (λ (i : Item _ _). i.key) c.new-item.ensures,
        λ other there same. absurd (no-place ticket_of old (g.K.PartialEq.eq key)
            unknown.keys.items other there same),
      )
    ])
