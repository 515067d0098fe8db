use Rattle.std.proofs.Common.{rules, ◌≡◌, true, false, Bool, ℕ, ◌+◌, ◌≤◌, [], ◌∷◌, ◌++◌, if◌then◌else◌, refl, sym, ap, subst, ◌∙◌}
use Rattle.std.proofs.Common.{inl, inr, arith}
use Rattle.std.specs.Int.NonZero.{non_zero_u32_get as number}
use Rattle.quick_cache_model.specs.declared.queue.Queue.{Queue}
use Rattle.quick_cache_model.specs.CacheState.{CacheState, entered}
use Rattle.quick_cache_model.specs.Hooks.{EvictCold, Calls}
use Rattle.quick_cache_model.specs.Touches.{first_mark}
use Rattle.quick_cache_model.specs.Writes.{new_item, queue_for}
use Rattle.quick_cache_store.proofs.lists.StandingLemmas.{loading-not_item, loading-not_ghost}
use Rattle.quick_cache_store.specs.declared.slots.entry.Awaited.{Awaited}
use Rattle.quick_cache_store.specs.Fills.{filled}
use Rattle.quick_cache_store.specs.Lists.{HeldLoading, Lists, without_entry}
use Rattle.quick_cache_store.specs.Views.{loading_entry, loading_entries}
use Rattle.quick_cache_policy.specs.declared.writing.admission.Admission.{Admission}
use Rattle.quick_cache_policy.specs.Advances.{Evicting}
use Rattle.quick_cache_policy.specs.Contents.{IsSound, state_of, ring_count, work_of}
use Rattle.quick_cache_policy.specs.Filling.{Fills, MakesRoomBehind}
use Rattle.quick_cache_policy.specs.Policies.{rules_by}
use Rattle.quick_cache_policy.specs.Writing.{Checks, queue_by}
use Rattle.quick_cache_policy.proofs.AnswerLemmas.{WorksWithin-none}
use Rattle.quick_cache_policy.proofs.BoundLemmas.{PaysFor-within}
use Rattle.quick_cache_policy.proofs.EnterLemmas.{state_with}
use Rattle.quick_cache_policy.proofs.FillLemmas.{entry-is_loading, awaited-is_loading, left, left-state, left-there, left-sound}
use Rattle.quick_cache_policy.proofs.FillLemmas.{filled-sound, filled-count, filled-makes, filled-tells, Fills-admitted}
use Rattle.quick_cache_policy.proofs.FillLemmas.{Fills-too_heavy}
use Rattle.quick_cache_policy.proofs.LoopLemmas.{Calls-then}
use Rattle.quick_cache_policy.proofs.KeptPlaces.{filled-keeps}
use Rattle.quick_cache_policy.specs.Places.{places_of, LosesOnly}
use Rattle.quick_cache_policy.proofs.WrittenPlaces.{without-places, LosesOnly-keeps}
use Rattle.quick_cache_policy.proofs.contents.Contents.fill.Goals as goal

few : (cut : ℕ) → 1 ≤ cut → (b : Bool) (mark : ℕ) → mark ≡ (if b then 1 else 0) → mark ≤ cut
few cut some true mark is = omega (arith, some, is)
few cut some false mark is = omega (arith, is)

-- a value that others waited for has the first mark
first : (cut : ℕ) → 1 ≤ cut → (b : Bool)
    → (if b then 1 else 0) ≡ (if b then first_mark cut else 0)
first cut some true = omega (arith, some)
first cut some false = refl

-- the lists are sound once the item stands there
pub make_room_for-requires : goal.make_room_for-requires
make_room_for-requires g c =
    let ticket_of = g.P.SharedPlaceholder.ticket_of in
    let contents = c.args.self.now in
    let t = number c.args.token in
    let apart = c.facts-2.ensures.apart in
    let found = c.requires.found in
    record {
      sound = filled-sound ticket_of contents apart t found.waiting found.stands found.named
          c.choose_queue-queue.result c.mark_if-mark.result c.in-Admitted.weighed.weight
          c.in-Admitted.weighed.value c.fill.new.self c.fill.ensures
          g.K.PartialEq.eq g.met.K.Eq.laws (g.M.Policy.hashed c.args.terms.now)
          (few contents.mark_cut c.requires.sound.sized.some_mark c.args.marked c.mark_if-mark.result
          c.mark_if-mark.ensures) c.requires.sound;
    }

-- the calls of the check, and then those of making room
pub returns-in-Admitted-clause-fills : goal.returns-in-Admitted-clause-fills
returns-in-Admitted-clause-fills g c =
    let ticket_of = g.P.SharedPlaceholder.ticket_of in
    let contents = c.args.self.now in
    let t = number c.args.token in
    let apart = c.facts-2.ensures.apart in
    let found = c.requires.found in
    let ticket = g.P.SharedPlaceholder.own_ticket c.args.placeholder.now in
    let rules = rules_by g.M.Policy g.P.Touch.Touches.may_count c.args.terms.now in
    let steady = g.M.Policy.steady c.args.terms.now in
    let hooks = g.M.Policy.hooks c.args.terms.now in
    let waiting = found.waiting in
    let stands = found.stands in
    let there = left-there ticket_of contents apart t waiting stands found.named ticket
    found.passes in
    let mid : CacheState _ _ = state_with ticket_of contents
    (without_entry false t contents.lists) in
    let mid_is : mid ≡ left ticket_of contents apart t waiting stands found.named =
    left-state ticket_of contents apart t waiting stands found.named in
    let seen = awaited-is_loading contents.lists apart t c.awaited-awaited.ensures.0
    c.awaited-awaited.result c.awaited-awaited.ensures.1 waiting stands found.named in
    let key = c.key.ensures ∙ ap (λ (w : HeldLoading _ _). w.key) seen in
    let weighed = c.in-Admitted.weighed in
    let weight : weighed.weight ≡ rules.weight waiting.key weighed.value =
    c.in-Admitted.ensures.checks.holds.1 ∙ ap (λ k. rules.weight k weighed.value) key in
    let otherwise = c.queue-otherwise.ensures ∙ ap (λ (w : HeldLoading _ _). w.queue) seen in
    let queue : c.choose_queue-queue.result
    ≡ queue_for rules mid waiting.key weighed.value waiting.queue = c.choose_queue-queue.ensures
    ∙ (λ i. queue_by (state_of ticket_of contents) (weight i) (otherwise i))
    ∙ ap (λ (s : CacheState _ _). queue_for rules s waiting.key weighed.value waiting.queue)
    (sym mid_is) in
    let pair = new_item rules waiting.key weighed.value
    (queue_for rules mid waiting.key weighed.value waiting.queue)
    (if c.args.marked then first_mark contents.mark_cut else 0) in
    let is : filled c.choose_queue-queue.result c.mark_if-mark.result weighed.weight weighed.value
    waiting.key ≡ pair = λ i. record {
      key = waiting.key;
      value = weighed.value;
      weight = weight i;
      mark = (c.mark_if-mark.ensures
          ∙ first contents.mark_cut c.requires.sound.sized.some_mark c.args.marked) i;
      reads = 0;
      queue = queue i;
    } in
    let new = state_of ticket_of c.make_room_for.new.self in
    let makes = c.make_room_for.ensures.makes in
    Calls-then hooks _ (Evicting steady (MakesRoomBehind rules weighed.weight) (entered pair mid)
    new) _ c.args.state.now c.admit.new.state c.make_room_for.new.state
    (Fills-admitted steady ticket (state_of ticket_of contents) rules c.args.marked c.args.value
    (loading_entries ticket_of stands.before) (loading_entry ticket_of waiting)
    (loading_entries ticket_of stands.after) there mid mid_is new weighed)
    (subst (λ k. Calls hooks (Checks steady rules contents.hot_target k c.args.value
    (Admission.Admitted weighed)) c.args.state.now c.admit.new.state)
    key c.in-Admitted.ensures.checks)
    (record {
      calls = makes.calls;
      holds = (
        λ steadily. filled-makes ticket_of contents apart t waiting stands found.named
            c.choose_queue-queue.result c.mark_if-mark.result c.in-Admitted.weighed.weight
            c.in-Admitted.weighed.value c.fill.new.self c.fill.ensures
            rules pair is new makes.calls (makes.holds.0 steadily),
        makes.holds.1,
        filled-tells ticket_of contents apart t waiting stands found.named
            c.choose_queue-queue.result c.mark_if-mark.result c.in-Admitted.weighed.weight
            c.in-Admitted.weighed.value c.fill.new.self c.fill.ensures
            pair is new makes.calls makes.holds.2,
      );
      runs = makes.runs;
    })

pub take-slot-requires : goal.take-slot-requires
take-slot-requires g c =
    inr (inl (c.requires.found.waiting, c.requires.found.stands, c.requires.found.named))

-- what has the token of a placeholder is that
pub unreachable-requires : goal.unreachable-requires
unreachable-requires g c =
    let found = c.requires.found in
    loading-not_item c.args.self.now.lists c.facts-2.ensures.apart (number c.args.token)
    c.take-slot.result.hash c.take-slot.result.entry c.take-slot.ensures.taken found.waiting
    found.stands found.named _ c.in-Item.is

pub unreachable-requires-in-Ghost : goal.unreachable-requires-in-Ghost
unreachable-requires-in-Ghost g c =
    let found = c.requires.found in
    loading-not_ghost c.args.self.now.lists c.facts-2.ensures.apart (number c.args.token)
    c.take-slot.result.hash c.take-slot.result.entry c.take-slot.ensures.taken found.waiting
    found.stands found.named c.in-Ghost.is

-- or the one that tells of the pair
pub returns-in-Loading-clause-fills : goal.returns-in-Loading-clause-fills
returns-in-Loading-clause-fills g c =
    let ticket_of = g.P.SharedPlaceholder.ticket_of in
    let contents = c.args.self.now in
    let t = number c.args.token in
    let apart = c.facts-2.ensures.apart in
    let found = c.requires.found in
    let ticket = g.P.SharedPlaceholder.own_ticket c.args.placeholder.now in
    let rules = rules_by g.M.Policy g.P.Touch.Touches.may_count c.args.terms.now in
    let steady = g.M.Policy.steady c.args.terms.now in
    let hooks = g.M.Policy.hooks c.args.terms.now in
    let waiting = found.waiting in
    let stands = found.stands in
    let there = left-there ticket_of contents apart t waiting stands found.named ticket
    found.passes in
    let mid : CacheState _ _ = state_with ticket_of contents
    (without_entry false t contents.lists) in
    let mid_is : mid ≡ left ticket_of contents apart t waiting stands found.named =
    left-state ticket_of contents apart t waiting stands found.named in
    let seen = awaited-is_loading contents.lists apart t c.awaited-awaited.ensures.0
    c.awaited-awaited.result c.awaited-awaited.ensures.1 waiting stands found.named in
    let key = c.key.ensures ∙ ap (λ (w : HeldLoading _ _). w.key) seen in
    let heavy = c.in-TooHeavy.value in
    let gone : c.in-Loading.gone.key ≡ waiting.key = ap (λ (w : HeldLoading _ _). w.key)
    (entry-is_loading contents.lists apart t c.take-slot.result.hash c.take-slot.result.entry
    c.take-slot.ensures.taken waiting stands found.named c.in-Loading.gone c.in-Loading.is) in
    let now : state_with ticket_of contents c.take-slot.new.self
    ≡ left ticket_of contents apart t waiting stands found.named =
    ap (state_with ticket_of contents) c.take-slot.ensures.rest ∙ mid_is in
    Calls-then hooks _ (λ more. more ≡ EvictCold waiting.key heavy ∷ []) _ c.args.state.now
    c.admit.new.state c.on_evict_cold.new.state
    (λ calls more checks is. subst (λ m. Fills steady ticket (state_of ticket_of contents) rules
    c.args.marked c.args.value (state_with ticket_of contents c.take-slot.new.self) (calls ++ m))
    (sym is)
    (Fills-too_heavy steady ticket (state_of ticket_of contents) rules c.args.marked c.args.value
    (loading_entries ticket_of stands.before) (loading_entry ticket_of waiting)
    (loading_entries ticket_of stands.after) there
    (state_with ticket_of contents c.take-slot.new.self) now heavy calls checks))
    (subst (λ k. Calls hooks (Checks steady rules contents.hot_target k c.args.value
    (Admission.TooHeavy heavy)) c.args.state.now c.admit.new.state)
    key c.in-TooHeavy.ensures.checks)
    (record {
      calls = EvictCold waiting.key heavy ∷ [];
      holds = refl;
      runs = (
        c.on_evict_cold.new.state,
        subst (λ k. hooks.evict_cold c.admit.new.state k heavy c.on_evict_cold.new.state)
            (ap (λ (a : Awaited _ _). a.key) c.in-Loading.gone-is ∙ gone) c.on_evict_cold.ensures,
        refl,
      );
    })

-- the key of the placeholder stood nowhere
pub returns-in-Admitted-clause-stays : goal.returns-in-Admitted-clause-stays
returns-in-Admitted-clause-stays g c =
    let ticket_of = g.P.SharedPlaceholder.ticket_of in
    let contents = c.args.self.now in
    let t = number c.args.token in
    let apart = c.facts-2.ensures.apart in
    let found = c.requires.found in
    let made = c.make_room_for.ensures.stays in
    record {
      sound = made.sound;
      places = filled-keeps ticket_of contents apart t found.waiting found.stands found.named
          g.K.PartialEq.eq g.met.K.Eq.laws (g.M.Policy.hashed c.args.terms.now) c.requires.sound
          (filled c.choose_queue-queue.result c.mark_if-mark.result c.in-Admitted.weighed.weight
          c.in-Admitted.weighed.value) (λ key. refl) c.fill.new.self c.fill.ensures
          (places_of c.make_room_for.new.self.lists) made.places;
      room = omega arith;
      work = PaysFor-within _ _ _ _ _ _ _ _ (filled-count ticket_of contents apart t
          found.waiting found.stands found.named
          c.choose_queue-queue.result c.mark_if-mark.result c.in-Admitted.weighed.weight
          c.in-Admitted.weighed.value c.fill.new.self c.fill.ensures) made.work;
      same = made.same;
    }

-- without the placeholder the lists are sound
-- a pair that is turned away takes no work
-- the placeholder alone left
pub returns-in-Loading-clause-stays : goal.returns-in-Loading-clause-stays
returns-in-Loading-clause-stays g c =
    let ticket_of = g.P.SharedPlaceholder.ticket_of in
    let equal = g.K.PartialEq.eq in
    let hashed = g.M.Policy.hashed c.args.terms.now in
    let contents = c.args.self.now in
    let t = number c.args.token in
    let apart = c.facts-2.ensures.apart in
    let found = c.requires.found in
    record {
      sound = subst (λ (l : Lists _ _ _). IsSound ticket_of equal hashed
          (record contents { lists = l }))
          (sym c.take-slot.ensures.rest)
          (left-sound ticket_of contents apart t found.waiting found.stands found.named equal hashed
          c.requires.sound);
      places = LosesOnly-keeps g.P.SharedPlaceholder.ticket_of c.args.self.now g.K.PartialEq.eq
          g.met.K.Eq.laws c.requires.sound.valid (places_of c.take-slot.new.self)
          (subst (λ (l : Lists _ _ _). LosesOnly (places_of c.args.self.now.lists) (places_of l))
          (sym c.take-slot.ensures.rest) (without-places (number c.args.token)
          c.args.self.now.lists));
      room = omega (arith, ap (λ (l : Lists _ _ _). l.room) c.take-slot.ensures.rest);
      work = WorksWithin-none c.args.self.now.mark_cut
          (ring_count Queue.Hot c.args.self.now + ring_count
          Queue.Cold c.args.self.now + 1)
          (work_of c.args.self.now) (omega arith) (omega arith);
      same = search rules;
    }
