use Rattle.std.proofs.Common.{rules, [], ◌∷◌, length, refl, sym, ap, subst, ◌∙◌, arith}
use Rattle.std.specs.Int.NonZero.{non_zero_u32_get as number}
use Rattle.quick_cache_model.specs.declared.queue.Queue.{Queue}
use Rattle.quick_cache_model.specs.Hooks.{BeforeEvict, EvictCold}
use Rattle.quick_cache_store.specs.Lists.{Lists}
use Rattle.quick_cache_policy.specs.declared.contents.Contents.{Contents}
use Rattle.quick_cache_policy.specs.Advances.{AreEvictions, FirstIsEvicted}
use Rattle.quick_cache_policy.specs.Contents.{IsSound, state_of, ring_count}
use Rattle.quick_cache_policy.specs.Policies.{rules_by}
use Rattle.std.specs.List.{Contains}
use Rattle.quick_cache_policy.specs.Places.{places_of}
use Rattle.quick_cache_policy.proofs.PlaceLemmas.{LosesOnly-gone, LosesOnly-stays}
use Rattle.quick_cache_policy.proofs.VictimLemmas.{ring-first, Replaces-ghost, Replaces-stays, hashes_of-last, newest-hashes}
use Rattle.quick_cache_policy.proofs.VictimLemmas.{ghosts-one_more}
use Rattle.quick_cache_policy.proofs.SoundLemmas.{FirstIsEvicted-stays, FirstIsEvicted-cold, IsSound-evicted, AreHashed-first}
use Rattle.quick_cache_policy.proofs.SoundLemmas.{AreHashed-rest, AreHashed-stays, AreHashed-ghosts, without-ghosts, ring_count-falls}
use Rattle.quick_cache_policy.proofs.SoundLemmas.{hot_count-stays}
use Rattle.quick_cache_policy.proofs.contents.Contents.evict_cold.Goals as goal

-- there is one ghost more
pub forget_oldest-requires : goal.forget_oldest-requires
forget_oldest-requires g c =
    let first = c.in-Some.ensures in
    let lists = c.args.self.now.lists in
    record {
      one = ghosts-one_more c.args.self.now.ghost_limit lists.ghosts c.bury.new.self.ghosts
          (record { token = number c.in-Some.token; hash = c.bury.ensures.hash })
          (ap (λ (l : Lists _ _ _). l.ghosts)
          (Replaces-ghost lists c.facts.ensures.apart first.0 first.1 (number c.in-Some.token) _
          c.bury.new.self c.bury.ensures first.2 first.3))
          c.requires.sound.valid.ghosts_within;
    }

-- the ghost goes again where the victim stays among the weightless
pub returns-in-Stays-clause-evicts : goal.returns-in-Stays-clause-evicts
returns-in-Stays-clause-evicts g c =
    let first = c.in-Some.ensures in
    let contents = c.args.self.now in
    let lists = contents.lists in
    let apart = c.facts.ensures.apart in
    let t = number c.in-Some.token in
    let hash = c.bury.ensures.hash in
    let item = c.bury.result in
    let kept = c.in-Stays.item in
    let new = c.replace.new.self in
    let split = ring-first lists apart Queue.Cold first.0 first.1 t hash item first.2 first.3
    c.bury.ensures.taken in
    let is = Replaces-ghost lists apart first.0 first.1 t _ c.bury.new.self c.bury.ensures first.2
    first.3 in
    let order = Replaces-stays lists c.bury.new.self c.facts-in-Stays.ensures.apart first.1 t
    hash item kept kept.value c.replace.result new is c.in-Stays.ensures.2 c.replace.ensures in
    record {
      calls = BeforeEvict item.key item.value kept.value ∷ [];
      holds = (
        FirstIsEvicted-stays g.P.SharedPlaceholder.ticket_of contents
            (rules_by g.M.Policy g.P.Touch.Touches.may_count c.args.terms.now)
            (record { token = t; hash = hash; item = item }) first.1 Queue.Cold t hash new.next
            new.room
            kept.value new split c.in-Stays.ensures.1 order,
        AreEvictions.stays item.key item.value kept.value [] AreEvictions.none,
      );
      runs = (c.decide.new.state, c.in-Stays.ensures.0, refl);
    }

pub returns-in-Stays-clause-falls : goal.returns-in-Stays-clause-falls
returns-in-Stays-clause-falls g c =
    ring_count-falls g.P.SharedPlaceholder.ticket_of c.args.self.now
    (rules_by g.M.Policy g.P.Touch.Touches.may_count c.args.terms.now) Queue.Cold _
    c.replace.new.self (returns-in-Stays-clause-evicts g c).holds.0

pub returns-in-Stays-clause-hot : goal.returns-in-Stays-clause-hot
returns-in-Stays-clause-hot g c =
    hot_count-stays g.P.SharedPlaceholder.ticket_of c.args.self.now
    (rules_by g.M.Policy g.P.Touch.Touches.may_count c.args.terms.now) _
    c.replace.new.self (returns-in-Stays-clause-evicts g c).holds.0

-- it is the newest where the victim leaves
pub returns-in-Leaves-clause-evicts : goal.returns-in-Leaves-clause-evicts
returns-in-Leaves-clause-evicts g c =
    let first = c.in-Some.ensures in
    let contents = c.args.self.now in
    let lists = contents.lists in
    let apart = c.facts.ensures.apart in
    let t = number c.in-Some.token in
    let hash = c.bury.ensures.hash in
    let item = c.bury.result in
    let left = c.in-Leaves.value in
    let mid = c.bury.new.self in
    let new = c.forget_oldest.new.self in
    let rules = rules_by g.M.Policy g.P.Touch.Touches.may_count c.args.terms.now in
    let split = ring-first lists apart Queue.Cold first.0 first.1 t hash item first.2 first.3
    c.bury.ensures.taken in
    let is = Replaces-ghost lists apart first.0 first.1 t _ mid c.bury.ensures first.2 first.3 in
    let hashes = hashes_of-last lists.ghosts mid.ghosts t hash (rules.hash item.key)
    (ap (λ (l : Lists _ _ _). l.ghosts) is)
    (AreHashed-first (g.M.Policy.hashed c.args.terms.now) Queue.Cold
    (record { token = t; hash = hash; item = item }) first.1 lists split c.requires.sound.hashed) in
    record {
      calls = BeforeEvict item.key item.value left ∷ EvictCold item.key left ∷ [];
      holds = (
        subst (λ (s : Contents _ _ _ _ _ _). FirstIsEvicted rules Queue.Cold
            (state_of g.P.SharedPlaceholder.ticket_of contents)
            (BeforeEvict item.key item.value left ∷ EvictCold item.key left ∷ [])
            (state_of g.P.SharedPlaceholder.ticket_of s))
            (sym (without-ghosts g.P.SharedPlaceholder.ticket_of contents mid first.1 _ new is
            c.forget_oldest.ensures.same))
            (FirstIsEvicted-cold g.P.SharedPlaceholder.ticket_of contents rules
            (record { token = t; hash = hash; item = item }) first.1 new.lists.ghosts new.lists.next
            new.lists.room left _ split c.in-Leaves.ensures.1 refl
            (c.forget_oldest.ensures.ghosts
            ∙ newest-hashes contents.ghost_limit mid.ghosts _ hashes)),
        AreEvictions.leaves Queue.Cold item.key item.value left [] AreEvictions.none,
      );
      runs = (
        c.decide.new.state,
        c.in-Leaves.ensures.0,
        (
          c.on_evict_cold.new.state,
          subst (λ k. (g.M.Policy.hooks c.args.terms.now).evict_cold c.decide.new.state k left
              c.on_evict_cold.new.state) c.in-Leaves.ensures.2 c.on_evict_cold.ensures,
          refl,
        ),
      );
    }

pub returns-in-Leaves-clause-falls : goal.returns-in-Leaves-clause-falls
returns-in-Leaves-clause-falls g c =
    let first = c.in-Some.ensures in
    let contents = c.args.self.now in
    let same = without-ghosts g.P.SharedPlaceholder.ticket_of contents c.bury.new.self first.1 _
    c.forget_oldest.new.self
    (Replaces-ghost contents.lists c.facts.ensures.apart first.0 first.1 (number c.in-Some.token) _
    c.bury.new.self c.bury.ensures first.2 first.3)
    c.forget_oldest.ensures.same in
    omega (
      arith,
      ap (λ (s : Contents _ _ _ _ _ _). ring_count Queue.Cold s) same,
      ap length
          first.2,
    )

pub returns-in-Leaves-clause-hot : goal.returns-in-Leaves-clause-hot
returns-in-Leaves-clause-hot g c =
    let first = c.in-Some.ensures in
    let contents = c.args.self.now in
    ap (λ (s : Contents _ _ _ _ _ _). ring_count Queue.Hot s)
    (without-ghosts g.P.SharedPlaceholder.ticket_of contents c.bury.new.self first.1 _
    c.forget_oldest.new.self
    (Replaces-ghost contents.lists c.facts.ensures.apart first.0 first.1 (number c.in-Some.token) _
    c.bury.new.self c.bury.ensures first.2 first.3)
    c.forget_oldest.ensures.same)

-- it comes back under its token
pub returns-in-Stays-clause-stays : goal.returns-in-Stays-clause-stays
returns-in-Stays-clause-stays g c =
    let first = c.in-Some.ensures in
    let contents = c.args.self.now in
    let apart = c.facts.ensures.apart in
    let t = number c.in-Some.token in
    let hash = c.bury.ensures.hash in
    let item = c.bury.result in
    let kept = c.in-Stays.item in
    let new = c.replace.new.self in
    let evicts = returns-in-Stays-clause-evicts g c in
    let lists = contents.lists in
    let split = ring-first lists apart Queue.Cold first.0 first.1 t hash item first.2 first.3
    c.bury.ensures.taken in
    let is = Replaces-ghost lists apart first.0 first.1 t _ c.bury.new.self c.bury.ensures first.2
    first.3 in
    let order = Replaces-stays lists c.bury.new.self c.facts-in-Stays.ensures.apart first.1 t
    hash item kept kept.value c.replace.result new is c.in-Stays.ensures.2 c.replace.ensures in
    record {
      sound = IsSound-evicted g.P.SharedPlaceholder.ticket_of contents
          (rules_by g.M.Policy g.P.Touch.Touches.may_count c.args.terms.now) g.K.PartialEq.eq
          (g.M.Policy.hashed c.args.terms.now) Queue.Cold evicts.calls new evicts.holds.0
          c.requires.sound
          (AreHashed-stays (g.M.Policy.hashed c.args.terms.now) Queue.Cold
          (record { token = t; hash = hash; item = item }) first.1 lists new new.next new.room t
          kept.value split c.requires.sound.hashed order);
      places = LosesOnly-stays Queue.Cold (record { token = t; hash = hash; item = item }) first.1
          lists
          new new.next
          new.room t hash kept.value split refl order;
      room = omega arith;
      same = search rules;
    }

pub returns-in-Leaves-clause-stays : goal.returns-in-Leaves-clause-stays
returns-in-Leaves-clause-stays g c =
    let first = c.in-Some.ensures in
    let contents = c.args.self.now in
    let lists = contents.lists in
    let hash = g.M.Policy.hashed c.args.terms.now in
    let new = c.forget_oldest.new.self in
    let rules = rules_by g.M.Policy g.P.Touch.Touches.may_count c.args.terms.now in
    let same = without-ghosts g.P.SharedPlaceholder.ticket_of contents c.bury.new.self first.1 _
    new (Replaces-ghost lists c.facts.ensures.apart first.0 first.1 (number c.in-Some.token) _
    c.bury.new.self c.bury.ensures first.2 first.3)
    c.forget_oldest.ensures.same in
    let evicts = returns-in-Leaves-clause-evicts g c in
    record {
      sound = subst (λ (s : Contents _ _ _ _ _ _). IsSound g.P.SharedPlaceholder.ticket_of
          g.K.PartialEq.eq
          hash s) (sym same)
          (IsSound-evicted g.P.SharedPlaceholder.ticket_of contents rules g.K.PartialEq.eq hash
          Queue.Cold
          evicts.calls _
          (subst (λ (s : Contents _ _ _ _ _ _). FirstIsEvicted rules Queue.Cold
          (state_of g.P.SharedPlaceholder.ticket_of contents) evicts.calls
          (state_of g.P.SharedPlaceholder.ticket_of s)) same evicts.holds.0) c.requires.sound
          (AreHashed-ghosts hash new.lists.ghosts _
          (AreHashed-rest hash Queue.Cold first.0 first.1 new.lists.next new.lists.room lists
          first.2
          c.requires.sound.hashed)));
      places = λ place there. LosesOnly-gone Queue.Cold first.0 first.1 lists
          (record lists { cold = first.1 }) lists.next lists.room
          first.2 refl place
          (subst (λ (r : Contents _ _ _ _ _ _). Contains (places_of r.lists) place)
          (without-ghosts g.P.SharedPlaceholder.ticket_of contents c.bury.new.self first.1 _
          c.forget_oldest.new.self
          (Replaces-ghost lists c.facts.ensures.apart first.0 first.1 (number c.in-Some.token) _
          c.bury.new.self c.bury.ensures first.2 first.3)
          c.forget_oldest.ensures.same) there);
      room = omega arith;
      same = ap (λ (r : Contents _ _ _ _ _ _). record r { lists = new.lists })
          c.forget_oldest.ensures.same;
    }
