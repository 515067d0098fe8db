use Rattle.std.proofs.Common.{◌≡◌, ◌+◌, ◌<◌, Ok, Err, Result, sym, ap, subst, ◌∙◌, inl, inr, arith}
use Rattle.std.specs.Int.NonZero.{non_zero_u32_get as number}
use Rattle.quick_cache_model.specs.Placeholders.{MakesPlaceholder, with_placeholder}
use Rattle.quick_cache_model.specs.Lookups.{after_miss}
use Rattle.quick_cache_model.specs.declared.refusal.Refusal.{Refusal}
use Rattle.quick_cache_model.proofs.EqualKeys.{keys_by-absent}
use Rattle.quick_cache_model.specs.Touches.{counted_up}
use Rattle.quick_cache_store.specs.declared.slots.entry.Entry.{Entry}
use Rattle.quick_cache_store.specs.Lists.{Lists, PutsLast}
use Rattle.quick_cache_policy.specs.declared.contents.Contents.{Contents}
use Rattle.quick_cache_policy.specs.Contents.{IsSound, state_of}
use Rattle.quick_cache_policy.specs.Loading.{IsMade, MakesNone}
use Rattle.quick_cache_policy.proofs.EnterLemmas.{state_with}
use Rattle.quick_cache_policy.proofs.FindLemmas.{HasNothing-state}
use Rattle.quick_cache_policy.proofs.MakeLemmas.{none-tickets, none-slots, none-memory, provided-on_nothing, Makes-refused, full-slots}
use Rattle.quick_cache_policy.proofs.MakeLemmas.{free-slot, made-state, made-sound, stands-exactly}
use Rattle.quick_cache_policy.proofs.KeptPlaces.{awaited-places}
use Rattle.quick_cache_policy.specs.Places.{places_of}
use Rattle.quick_cache_policy.proofs.contents.Contents.make_on_nothing.Goals as goal

-- a refusal for memory is none for slots, and what succeeded was not refused
no-slots : (refusal : _) → refusal ≡ Refusal.Memory
    → ◌≡◌ {A = Result (Unit {0}) _} (Err refusal) (Err Refusal.SlotsFull) → ⊥
no-slots refusal memory same =
    let clash : ◌≡◌ {A = Result (Unit {0}) _} (Err Refusal.Memory) (Err Refusal.SlotsFull) =
    ap (λ r. Err r) (sym memory) ∙ same in
    absurd (cc)

was-made : {X E : Type 0} (x : X) (e : E) → ◌≡◌ {A = Result X E} (Ok x) (Err e) → ⊥
was-made x e same = cc

-- tickets are spent
pub returns-then-self-clause-makes : goal.returns-then-self-clause-makes
returns-then-self-clause-makes g c =
    let contents = c.args.self.now in
    let stands_for = g.Q.Equivalent.equivalent c.args.query.now in
    let gives = g.Q.ToKey.to_key_gives c.args.query.now in
    let ticket_of = g.P.SharedPlaceholder.ticket_of in
    let state = state_of ticket_of contents in
    let nothing = HasNothing-state ticket_of stands_for c.args.hash contents c.requires.under
    c.requires.found in
    none-tickets stands_for gives c.args.hash state nothing.keys (omega (arith, c.if-self.true))

-- there is no slot, or no memory for one
pub returns-in_err-make_room-clause-makes : goal.returns-in_err-make_room-clause-makes
returns-in_err-make_room-clause-makes g c =
    let contents = c.args.self.now in
    let stands_for = g.Q.Equivalent.equivalent c.args.query.now in
    let gives = g.Q.ToKey.to_key_gives c.args.query.now in
    let ticket_of = g.P.SharedPlaceholder.ticket_of in
    let state = state_of ticket_of contents in
    let nothing = HasNothing-state ticket_of stands_for c.args.hash contents c.requires.under
    c.requires.found in
    let refused = c.in_err-make_room.field-0.0 in
    let full = c.in_err-make_room.ensures.full in
    let ticket : contents.next_ticket < 18446744073709551615 = omega (arith, c.if-self.false) in
    let same = ap (state_with ticket_of contents) c.make_room.ensures.lists in
    Makes-refused ticket_of g.P.SharedPlaceholder.own_ticket stands_for gives c.args.hash contents
    (record contents { lists = c.make_room.new.self }) refused c.from_residual.result
    c.from_residual.ensures.0 c.from_residual.ensures.1
    (elim c.in_err-make_room.ensures.refusals [
      | inl slots ↦ record {
        cause = (subst (λ r. MakesNone stands_for gives c.args.hash state r state) (sym slots)
            (none-slots stands_for gives c.args.hash state nothing ticket
            (full-slots ticket_of contents (full.0 (ap (λ r. Err r) slots))))).cause;
        unchanged = same;
      }
      | inr memory ↦ record {
        cause = (subst (λ r. MakesNone stands_for gives c.args.hash state r state) (sym memory)
            (none-memory stands_for gives c.args.hash state nothing.keys
            (provided-on_nothing stands_for gives c.args.hash state ticket
            (free-slot ticket_of contents (λ none. no-slots refused memory (full.1 none)))))).cause;
        unchanged = same;
      }
    ])

-- there is no memory for the key or the placeholder
pub returns-in_err-awaited-clause-makes : goal.returns-in_err-awaited-clause-makes
returns-in_err-awaited-clause-makes g c =
    let contents = c.args.self.now in
    let stands_for = g.Q.Equivalent.equivalent c.args.query.now in
    let gives = g.Q.ToKey.to_key_gives c.args.query.now in
    let ticket_of = g.P.SharedPlaceholder.ticket_of in
    let state = state_of ticket_of contents in
    let nothing = HasNothing-state ticket_of stands_for c.args.hash contents c.requires.under
    c.requires.found in
    let refused = c.in_err-awaited.field-0.0 in
    let full = c.in_ok-make_room.ensures.full in
    let ticket : contents.next_ticket < 18446744073709551615 = omega (arith, c.if-self.false) in
    Makes-refused ticket_of g.P.SharedPlaceholder.own_ticket stands_for gives c.args.hash contents
    (record contents { lists = c.make_room.new.self }) refused
    c.from_residual-in_err-awaited.result c.from_residual-in_err-awaited.ensures.0
    c.from_residual-in_err-awaited.ensures.1
    (record {
      cause = (subst (λ r. MakesNone stands_for gives c.args.hash state r state)
          (sym c.in_err-awaited.ensures.refused)
          (none-memory stands_for gives c.args.hash state nothing.keys
          (provided-on_nothing stands_for gives c.args.hash state ticket
          (free-slot ticket_of contents (λ none. was-made _ _ (full.1 none)))))).cause;
      unchanged = ap (state_with ticket_of contents) c.make_room.ensures.lists;
    })

-- it was made
pub returns-clause-makes : goal.returns-clause-makes
returns-clause-makes g c =
    let contents = c.args.self.now in
    let stands_for = g.Q.Equivalent.equivalent c.args.query.now in
    let gives = g.Q.ToKey.to_key_gives c.args.query.now in
    let ticket_of = g.P.SharedPlaceholder.ticket_of in
    let state = state_of ticket_of contents in
    let nothing = HasNothing-state ticket_of stands_for c.args.hash contents c.requires.under
    c.requires.found in
    let awaited = c.in_ok-awaited.awaited in
    let room = c.make_room.new.self.room in
    let mid : Lists _ _ _ = record contents.lists { room = room } in
    let puts = subst (λ (l : Lists _ _ _). PutsLast {T = g.row.P-Touch.Denot} l
    (number c.put.result) c.args.hash (Entry.Loading awaited) c.put.new.self)
    c.make_room.ensures.lists c.put.ensures.last in
    let now = record contents { lists = c.put.new.self } in
    let misses : c.count_made.new.self.misses ≡ counted_up 1 contents.misses =
    omega (arith, ap (λ (s : Contents _ _ _ _ _ _). s.misses) c.count_made.ensures) in
    let next : c.count_made.new.self.next_ticket ≡ contents.next_ticket + 1 =
    ap (λ (s : Contents _ _ _ _ _ _). s.next_ticket) c.count_made.ensures in
    let made_is : c.count_made.new.self ≡ record contents {
      lists = c.put.new.self;
      misses = c.count_made.new.self.misses;
      next_ticket = c.count_made.new.self.next_ticket;
    } = c.count_made.ensures ∙ ap (λ (s : Contents _ _ _ _ _ _). record contents {
      lists = c.put.new.self;
      misses = s.misses;
      next_ticket = s.next_ticket;
    }) (sym c.count_made.ensures) in
    let ticket = c.in_ok-awaited.ensures.kept in
    let full = c.in_ok-make_room.ensures.full in
    subst (λ (s : Contents _ _ _ _ _ _). IsMade stands_for gives c.args.hash state
    (g.P.SharedPlaceholder.own_ticket c.in_ok-awaited.placeholder) (state_of ticket_of s))
    (sym made_is)
    (record {
      provided = provided-on_nothing stands_for gives c.args.hash state
          (omega (arith, c.if-self.false))
          (free-slot ticket_of contents (λ none. was-made _ _ (full.1 none)));
      next = c.in_ok-awaited.ensures.ticket;
      key = awaited.key;
      given = c.in_ok-awaited.ensures.key;
      step = record {
        ordered = with_placeholder awaited.key awaited.queue (after_miss state);
        holds = subst (λ q. MakesPlaceholder stands_for state c.args.hash awaited.key
            (with_placeholder awaited.key q (after_miss state)))
            (sym c.in_ok-awaited.ensures.queue)
            (MakesPlaceholder.on_nothing
            (c.requires.stands awaited.key c.in_ok-awaited.ensures.key) nothing);
        same = made-state ticket_of contents mid c.put.new.self (number c.put.result) c.args.hash
            awaited puts c.count_made.new.self.misses c.count_made.new.self.next_ticket misses next
            ticket;
      };
    })

-- its key is equal to none that is there
pub returns-clause-sound : goal.returns-clause-sound
returns-clause-sound g c = λ hashed under sound.
    let contents = c.args.self.now in
    let stands_for = g.Q.Equivalent.equivalent c.args.query.now in
    let gives = g.Q.ToKey.to_key_gives c.args.query.now in
    let ticket_of = g.P.SharedPlaceholder.ticket_of in
    let state = state_of ticket_of contents in
    let nothing = HasNothing-state ticket_of stands_for c.args.hash contents c.requires.under
    c.requires.found in
    let awaited = c.in_ok-awaited.awaited in
    let room = c.make_room.new.self.room in
    let mid : Lists _ _ _ = record contents.lists { room = room } in
    let puts = subst (λ (l : Lists _ _ _). PutsLast {T = g.row.P-Touch.Denot} l
    (number c.put.result) c.args.hash (Entry.Loading awaited) c.put.new.self)
    c.make_room.ensures.lists c.put.ensures.last in
    let now = record contents { lists = c.put.new.self } in
    let misses : c.count_made.new.self.misses ≡ counted_up 1 contents.misses =
    omega (arith, ap (λ (s : Contents _ _ _ _ _ _). s.misses) c.count_made.ensures) in
    let next : c.count_made.new.self.next_ticket ≡ contents.next_ticket + 1 =
    ap (λ (s : Contents _ _ _ _ _ _). s.next_ticket) c.count_made.ensures in
    let made_is : c.count_made.new.self ≡ record contents {
      lists = c.put.new.self;
      misses = c.count_made.new.self.misses;
      next_ticket = c.count_made.new.self.next_ticket;
    } = c.count_made.ensures ∙ ap (λ (s : Contents _ _ _ _ _ _). record contents {
      lists = c.put.new.self;
      misses = s.misses;
      next_ticket = s.next_ticket;
    }) (sym c.count_made.ensures) in
    let ticket = c.in_ok-awaited.ensures.kept in
    let stands = c.requires.stands awaited.key c.in_ok-awaited.ensures.key in
    let exact = stands-exactly g.K.PartialEq.eq stands_for awaited.key stands
    (g.met.Q.Equivalent.same_key c.args.query.now)
    (λ other same. g.met.Q.ToKey.same_given c.args.query.now awaited.key other
    c.in_ok-awaited.ensures.key stands same) in
    subst (λ (s : Contents _ _ _ _ _ _). IsSound ticket_of g.K.PartialEq.eq hashed s) (sym made_is)
    (made-sound ticket_of contents mid c.put.new.self (number c.put.result) c.args.hash
    awaited puts c.count_made.new.self.misses c.count_made.new.self.next_ticket misses next
    ticket g.K.PartialEq.eq g.met.K.Eq.laws hashed
    (keys_by-absent g.K.PartialEq.eq g.met.K.Eq.laws stands_for awaited.key exact state
    nothing.keys)
    (sym (under awaited.key stands))
    (record {
      valid = sound.valid;
      sized = sound.sized;
      hashed = record {
        hot = sound.hashed.hot;
        cold = sound.hashed.cold;
        still = sound.hashed.still;
        loading = sound.hashed.loading;
      };
    }))

-- room was made, and no more
pub returns-in_err-make_room-clause-places : goal.returns-in_err-make_room-clause-places
returns-in_err-make_room-clause-places g c =
    ap (λ (l : Lists _ _ _). places_of l) c.make_room.ensures.lists

pub returns-in_err-awaited-clause-places : goal.returns-in_err-awaited-clause-places
returns-in_err-awaited-clause-places g c =
    ap (λ (l : Lists _ _ _). places_of l) c.make_room.ensures.lists

-- the placeholder stands beside the items
pub returns-clause-places : goal.returns-clause-places
returns-clause-places g c =
    ap (λ (s : Contents _ _ _ _ _ _). places_of s.lists) c.count_made.ensures
    ∙ awaited-places {T = g.row.P-Touch.Denot} c.make_room.new.self c.put.new.self
    (number c.put.result) c.args.hash c.in_ok-awaited.awaited c.put.ensures.last
    ∙ ap (λ (l : Lists _ _ _). places_of l) c.make_room.ensures.lists
