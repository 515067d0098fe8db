use Rattle.std.proofs.Common.{arith, rules, ◌+◌, [], ◌∷◌, refl, sym, ap, subst, ◌∙◌, inl}
use Rattle.std.specs.Int.NonZero.{non_zero_u32_get as number}
use Rattle.quick_cache_model.specs.declared.queue.Queue.{Queue}
use Rattle.quick_cache_model.specs.CacheState.{Item, ring_place}
use Rattle.quick_cache_model.specs.Hooks.{BeforeEvict, EvictHot}
use Rattle.quick_cache_store.specs.Lists.{Lists, IsEntry}
use Rattle.quick_cache_store.proofs.lists.OneEntryLemmas.{first-loading, first-ghost, without-first}
use Rattle.quick_cache_policy.specs.Advances.{AreEvictions, Decides}
use Rattle.quick_cache_policy.specs.declared.evicting.victim.Fate.{Fate}
use Rattle.quick_cache_policy.specs.Contents.{AreHashed}
use Rattle.quick_cache_policy.specs.Policies.{rules_by}
use Rattle.quick_cache_policy.proofs.PlaceLemmas.{LosesOnly-gone, LosesOnly-stays}
use Rattle.quick_cache_policy.proofs.VictimLemmas.{ring-first, PutsLast-stays}
use Rattle.quick_cache_policy.proofs.SoundLemmas.{FirstIsEvicted-stays, FirstIsEvicted-hot, IsSound-evicted, AreHashed-rest}
use Rattle.quick_cache_policy.proofs.SoundLemmas.{AreHashed-stays, ring_count-falls, cold_count-stays}
use Rattle.quick_cache_policy.proofs.contents.Contents.evict_hot.Goals as goal

-- the first of the hot ring stands there
pub take-slot-requires : goal.take-slot-requires
take-slot-requires g c =
    let first = c.in-Some.ensures in
    inl (
      first.0,
      record {
        place = ring_place Queue.Hot;
        stands = record { before = []; after = first.1; split = first.2 };
      },
      first.3,
    )

-- its token has no placeholder
pub unreachable-requires-in-Loading : goal.unreachable-requires-in-Loading
unreachable-requires-in-Loading g c =
    let first = c.in-Some.ensures in
    let lists = c.args.self.now.lists in
    first-loading lists c.facts.ensures.apart first.0 first.1 Queue.Hot _ first.2
    (subst (λ e. IsEntry lists (number c.in-Some.token) c.take-slot.result.hash e) c.in-Loading.is
    c.take-slot.ensures.taken) (sym first.3)

-- and no ghost
pub unreachable-requires-in-Ghost : goal.unreachable-requires-in-Ghost
unreachable-requires-in-Ghost g c =
    let first = c.in-Some.ensures in
    let lists = c.args.self.now.lists in
    first-ghost lists c.facts.ensures.apart first.0 first.1 Queue.Hot _ first.2
    (subst (λ e. IsEntry lists (number c.in-Some.token) c.take-slot.result.hash e) c.in-Ghost.is
    c.take-slot.ensures.taken) (sym first.3)

-- a victim that weighs nothing any more is put among the weightless
pub returns-in-Stays-clause-evicts : goal.returns-in-Stays-clause-evicts
returns-in-Stays-clause-evicts g c =
    let first = c.in-Some.ensures in
    let contents = c.args.self.now in
    let lists = contents.lists in
    let apart = c.facts.ensures.apart in
    let t = number c.in-Some.token in
    let item = c.in-Item.item in
    let rules = rules_by g.M.Policy g.P.Touch.Touches.may_count c.args.terms.now in
    let split = ring-first lists apart Queue.Hot first.0 first.1 t c.take-slot.result.hash item
    first.2
    first.3 (subst (λ e. IsEntry lists t c.take-slot.result.hash e) c.in-Item.is
    c.take-slot.ensures.taken) in
    let taken = c.take-slot.ensures.rest
    ∙ without-first lists apart first.0 first.1 Queue.Hot t first.2 first.3 in
    let told = subst (λ (i : Item _ _). Decides {T = g.row.P-Touch.Denot} rules.weight
    (g.M.Policy.hooks c.args.terms.now) i c.args.state.now (Fate.Stays c.in-Stays.item)
    c.decide.new.state) c.in-Item.item-is c.in-Stays.ensures in
    let order = PutsLast-stays c.take-slot.new.self (record lists { hot = first.1 }) c.put.new.self
    t (lists.room + 1) (number c.put.result) c.take-slot.result.hash item c.in-Stays.item
    c.in-Stays.item.value taken told.2 c.put.ensures.last in
    record {
      calls = BeforeEvict item.key item.value c.in-Stays.item.value ∷ [];
      holds = (
        FirstIsEvicted-stays g.P.SharedPlaceholder.ticket_of contents rules
            (record { token = t; hash = c.take-slot.result.hash; item = item }) first.1 Queue.Hot
            (number c.put.result) c.take-slot.result.hash c.put.new.self.next c.put.new.self.room
            c.in-Stays.item.value c.put.new.self split told.1 order,
        AreEvictions.stays item.key item.value c.in-Stays.item.value [] AreEvictions.none,
      );
      runs = (c.decide.new.state, told.0, refl);
    }

-- one that weighs something is told to its hook
pub returns-in-Leaves-clause-evicts : goal.returns-in-Leaves-clause-evicts
returns-in-Leaves-clause-evicts g c =
    let first = c.in-Some.ensures in
    let contents = c.args.self.now in
    let lists = contents.lists in
    let apart = c.facts.ensures.apart in
    let t = number c.in-Some.token in
    let item = c.in-Item.item in
    let rules = rules_by g.M.Policy g.P.Touch.Touches.may_count c.args.terms.now in
    let split = ring-first lists apart Queue.Hot first.0 first.1 t c.take-slot.result.hash item
    first.2
    first.3 (subst (λ e. IsEntry lists t c.take-slot.result.hash e) c.in-Item.is
    c.take-slot.ensures.taken) in
    let taken = c.take-slot.ensures.rest
    ∙ without-first lists apart first.0 first.1 Queue.Hot t first.2 first.3 in
    let told = subst (λ (i : Item _ _). Decides {T = g.row.P-Touch.Denot} rules.weight
    (g.M.Policy.hooks c.args.terms.now) i c.args.state.now
    (Fate.Leaves c.in-Leaves.key c.in-Leaves.value) c.decide.new.state)
    c.in-Item.item-is c.in-Leaves.ensures in
    record {
      calls = BeforeEvict item.key item.value c.in-Leaves.value
          ∷ EvictHot item.key c.in-Leaves.value ∷ [];
      holds = (
        FirstIsEvicted-hot g.P.SharedPlaceholder.ticket_of contents rules
            (record { token = t; hash = c.take-slot.result.hash; item = item }) first.1 t
            (lists.room + 1) c.in-Leaves.value c.take-slot.new.self split told.1 taken,
        AreEvictions.leaves Queue.Hot item.key item.value c.in-Leaves.value [] AreEvictions.none,
      );
      runs = (
        c.decide.new.state,
        told.0,
        (
          c.on_evict_hot.new.state,
          subst (λ k. (g.M.Policy.hooks c.args.terms.now).evict_hot c.decide.new.state k
              c.in-Leaves.value c.on_evict_hot.new.state) told.2
              c.on_evict_hot.ensures,
          refl,
        ),
      );
    }

pub returns-in-Stays-clause-falls : goal.returns-in-Stays-clause-falls
returns-in-Stays-clause-falls g c =
    ring_count-falls g.P.SharedPlaceholder.ticket_of c.args.self.now
    (rules_by g.M.Policy g.P.Touch.Touches.may_count c.args.terms.now) Queue.Hot _ c.put.new.self
    (returns-in-Stays-clause-evicts g c).holds.0

pub returns-in-Stays-clause-cold : goal.returns-in-Stays-clause-cold
returns-in-Stays-clause-cold g c =
    cold_count-stays g.P.SharedPlaceholder.ticket_of c.args.self.now
    (rules_by g.M.Policy g.P.Touch.Touches.may_count c.args.terms.now) _ c.put.new.self
    (returns-in-Stays-clause-evicts g c).holds.0

pub returns-in-Leaves-clause-falls : goal.returns-in-Leaves-clause-falls
returns-in-Leaves-clause-falls g c =
    ring_count-falls g.P.SharedPlaceholder.ticket_of c.args.self.now
    (rules_by g.M.Policy g.P.Touch.Touches.may_count c.args.terms.now) Queue.Hot _
    c.take-slot.new.self
    (returns-in-Leaves-clause-evicts g c).holds.0

pub returns-in-Leaves-clause-cold : goal.returns-in-Leaves-clause-cold
returns-in-Leaves-clause-cold g c =
    cold_count-stays g.P.SharedPlaceholder.ticket_of c.args.self.now
    (rules_by g.M.Policy g.P.Touch.Touches.may_count c.args.terms.now) _ c.take-slot.new.self
    (returns-in-Leaves-clause-evicts g c).holds.0

-- it comes back under its token
pub returns-in-Stays-clause-stays : goal.returns-in-Stays-clause-stays
returns-in-Stays-clause-stays g c =
    let first = c.in-Some.ensures in
    let contents = c.args.self.now in
    let apart = c.facts.ensures.apart in
    let t = number c.in-Some.token in
    let item = c.in-Item.item in
    let hash = g.M.Policy.hashed c.args.terms.now in
    let rules = rules_by g.M.Policy g.P.Touch.Touches.may_count c.args.terms.now in
    let told = subst (λ (i : Item _ _). Decides {T = g.row.P-Touch.Denot} rules.weight
    (g.M.Policy.hooks c.args.terms.now) i c.args.state.now (Fate.Stays c.in-Stays.item)
    c.decide.new.state) c.in-Item.item-is c.in-Stays.ensures in
    let evicts = returns-in-Stays-clause-evicts g c in
    let lists = contents.lists in
    let split = ring-first lists apart Queue.Hot first.0 first.1 t c.take-slot.result.hash item
    first.2
    first.3 (subst (λ e. IsEntry lists t c.take-slot.result.hash e) c.in-Item.is
    c.take-slot.ensures.taken) in
    let taken = c.take-slot.ensures.rest
    ∙ without-first lists apart first.0 first.1 Queue.Hot t first.2 first.3 in
    let order = PutsLast-stays c.take-slot.new.self (record lists { hot = first.1 }) c.put.new.self
    t (lists.room + 1) (number c.put.result) c.take-slot.result.hash item c.in-Stays.item
    c.in-Stays.item.value taken told.2 c.put.ensures.last in
    record {
      sound = IsSound-evicted g.P.SharedPlaceholder.ticket_of contents rules g.K.PartialEq.eq hash
          Queue.Hot
          evicts.calls c.put.new.self evicts.holds.0 c.requires.sound
          (AreHashed-stays hash Queue.Hot (record {
            token = t;
            hash = c.take-slot.result.hash;
            item = item;
          })
          first.1 lists c.put.new.self c.put.new.self.next c.put.new.self.room (number c.put.result)
          c.in-Stays.item.value split c.requires.sound.hashed order);
      places = LosesOnly-stays Queue.Hot (record {
        token = t;
        hash = c.take-slot.result.hash;
        item = item;
      }) first.1
          lists c.put.new.self c.put.new.self.next c.put.new.self.room (number c.put.result)
          c.take-slot.result.hash c.in-Stays.item.value split
          (c.put.ensures.token ∙ ap (λ (l : Lists _ _ _). l.next) c.take-slot.ensures.rest) order;
      room = omega (arith, ap (λ (l : Lists _ _ _). l.room) c.take-slot.ensures.rest);
      same = refl;
    }

pub returns-in-Leaves-clause-stays : goal.returns-in-Leaves-clause-stays
returns-in-Leaves-clause-stays g c =
    let first = c.in-Some.ensures in
    let lists = c.args.self.now.lists in
    let hash = g.M.Policy.hashed c.args.terms.now in
    let evicts = returns-in-Leaves-clause-evicts g c in
    let t = number c.in-Some.token in
    record {
      sound = IsSound-evicted g.P.SharedPlaceholder.ticket_of c.args.self.now
          (rules_by g.M.Policy g.P.Touch.Touches.may_count c.args.terms.now) g.K.PartialEq.eq hash
          Queue.Hot
          evicts.calls c.take-slot.new.self evicts.holds.0 c.requires.sound
          (subst (λ (l : Lists _ _ _). AreHashed hash l)
          (sym (c.take-slot.ensures.rest
          ∙ without-first lists c.facts.ensures.apart first.0 first.1 Queue.Hot
          (number c.in-Some.token)
          first.2
          first.3))
          (AreHashed-rest hash Queue.Hot first.0 first.1 (number c.in-Some.token) (lists.room + 1)
          lists
          first.2
          c.requires.sound.hashed));
      places = LosesOnly-gone Queue.Hot first.0 first.1 lists c.take-slot.new.self t
          (lists.room + 1)
          first.2
          (c.take-slot.ensures.rest
          ∙ without-first lists c.facts.ensures.apart first.0 first.1 Queue.Hot t first.2 first.3);
      room = omega (arith, ap (λ (l : Lists _ _ _). l.room) c.take-slot.ensures.rest);
      same = search rules;
    }
