use Rattle.std.proofs.Common.{List, ◌+◌, ◌∙◌, sym, ap, subst, arith}
use Rattle.quick_cache_model.specs.Fates.{residents}
use Rattle.quick_cache_model.specs.Leads.{Tells}
use Rattle.quick_cache_model.specs.declared.queue.Queue.{Queue}
use Rattle.quick_cache_model.specs.Capacity.{SetsCapacity}
use Rattle.quick_cache_model.specs.Eviction.{EvictsToCapacity}
use Rattle.quick_cache_model.proofs.OrderLaws.{UpToOrder-map}
use Rattle.quick_cache_policy.specs.declared.contents.Contents.{Contents}
use Rattle.quick_cache_policy.specs.Contents.{IsSound, state_of, ring_count, work_of}
use Rattle.quick_cache_policy.specs.Policies.{rules_by}
use Rattle.quick_cache_policy.specs.Work.{WorksWithin}
use Rattle.quick_cache_policy.proofs.BoundLemmas.{PaysFor-within}
use Rattle.quick_cache_policy.proofs.CapacityLemmas.{refitted-state, refitted-sound}
use Rattle.quick_cache_policy.proofs.GhostLemmas.{SetsCapacity-cut}
use Rattle.std.specs.List.{Contains}
use Rattle.quick_cache_policy.specs.Places.{places_of}
use Rattle.quick_cache_policy.proofs.contents.Contents.set_capacity.Goals as goal

-- with the new sizes, and with the ghosts that are left, the contents are sound
pub evict_to_capacity-requires : goal.evict_to_capacity-requires
evict_to_capacity-requires g c =
    let ready = c.forget_ghosts.new.self in
    record {
      sound = subst (λ (s : Contents _ _ _ _ _ _). IsSound g.P.SharedPlaceholder.ticket_of
          g.K.PartialEq.eq (g.M.Policy.hashed c.args.terms.now) s)
          (sym c.forget_ghosts.ensures.same)
          (refitted-sound g.P.SharedPlaceholder.ticket_of c.args.self.now c.args.capacity
          c.args.hot_target c.args.ghost_limit c.requires.target_is c.requires.limit_is
          ready.lists.ghosts ready.lists.next ready.lists.room c.forget_ghosts.ensures.ghosts
          g.K.PartialEq.eq (g.M.Policy.hashed c.args.terms.now) c.requires.sound);
    }

-- the eviction begins with ghosts that were cut, which are those of an eviction that are cut then
pub returns-clause-sets : goal.returns-clause-sets
returns-clause-sets g c =
    let ticket = g.P.SharedPlaceholder.ticket_of in
    let rules = rules_by g.M.Policy g.P.Touch.Touches.may_count c.args.terms.now in
    let ready = c.forget_ghosts.new.self in
    let new = state_of ticket c.evict_to_capacity.new.self in
    let begins = ap (λ (s : Contents _ _ _ _ _ _). state_of ticket s) c.forget_ghosts.ensures.same
    ∙ refitted-state ticket c.args.self.now c.args.capacity c.args.hot_target c.args.ghost_limit
    c.requires.target_is c.requires.limit_is ready.lists.ghosts ready.lists.next ready.lists.room
    c.forget_ghosts.ensures.ghosts rules in
    let evicts = c.evict_to_capacity.ensures.evicts in
    record {
      calls = evicts.calls;
      holds = (
        λ steady. UpToOrder-map (EvictsToCapacity rules 0 (state_of ticket ready) evicts.calls)
            (SetsCapacity rules c.args.capacity (state_of ticket c.args.self.now) evicts.calls) new
            (λ state evicted. SetsCapacity-cut rules c.args.capacity
            (state_of ticket c.args.self.now) (state_of ticket ready) state evicts.calls begins
            evicted)
            (evicts.holds.0 steady),
        evicts.holds.1,
        subst (λ (ps : List (_ × _)). Tells ps evicts.calls (residents new)) (ap residents begins)
            evicts.holds.2,
      );
      runs = evicts.runs;
    }

pub returns-clause-work : goal.returns-clause-work
returns-clause-work g c =
    let old = c.args.self.now in
    let ready = c.forget_ghosts.new.self in
    let same = c.forget_ghosts.ensures.same in
    let n = ring_count Queue.Hot old + ring_count Queue.Cold old + 1 in
    let cut = old.mark_cut in
    subst (λ w. WorksWithin cut n w (work_of c.evict_to_capacity.new.self))
    (ap (λ (s : Contents _ _ _ _ _ _). work_of s) same)
    (subst (λ k. WorksWithin k n (work_of ready) (work_of c.evict_to_capacity.new.self))
    (ap (λ (s : Contents _ _ _ _ _ _). s.mark_cut) same)
    (PaysFor-within ready.mark_cut n (ring_count Queue.Hot ready) (ring_count Queue.Cold ready) _ _
    _ _
    (omega (
      arith,
      ap (λ (s : Contents _ _ _ _ _ _). ring_count Queue.Hot s) same,
      ap (λ (s : Contents _ _ _ _ _ _). ring_count Queue.Cold s) same,
    ))
    c.evict_to_capacity.ensures.stays.work))

pub returns-clause-places : goal.returns-clause-places
returns-clause-places g c = λ place there.
    subst (λ (r : Contents _ _ _ _ _ _). Contains (places_of r.lists) place)
    c.forget_ghosts.ensures.same (c.evict_to_capacity.ensures.stays.places place there)
