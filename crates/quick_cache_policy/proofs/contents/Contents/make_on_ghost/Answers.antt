use Rattle.std.proofs.Common.{◌≡◌, ℕ, ◌+◌, List, ◌++◌, refl, sym, ap, subst, ◌∙◌, arith}
use Rattle.std.specs.Int.NonZero.{non_zero_u32_get as number}
use Rattle.quick_cache_model.specs.CacheState.{CacheState, SameButOrder, IsValid}
use Rattle.quick_cache_model.specs.Placeholders.{MakesPlaceholder, with_placeholder}
use Rattle.quick_cache_model.specs.Lookups.{after_miss}
use Rattle.quick_cache_model.proofs.EqualKeys.{keys_by-absent}
use Rattle.quick_cache_model.specs.Touches.{counted_up}
use Rattle.quick_cache_store.specs.declared.slots.entry.Entry.{Entry}
use Rattle.std.proofs.lemmas.List.{map-append}
use Rattle.quick_cache_model.proofs.Valid.Edits.{without_ghost-valid}
use Rattle.quick_cache_store.specs.declared.lists.found.Found.{Found}
use Rattle.quick_cache_store.specs.Lists.{Lists, HeldGhost, PutsLast}
use Rattle.quick_cache_store.specs.Views.{hashes_of}
use Rattle.quick_cache_store.proofs.lists.StandingLemmas.{ghost-hash}
use Rattle.quick_cache_policy.specs.declared.contents.Contents.{Contents}
use Rattle.quick_cache_policy.specs.Contents.{IsSound, state_of}
use Rattle.quick_cache_policy.specs.Loading.{IsMade, MakesNone}
use Rattle.quick_cache_policy.proofs.FindLemmas.{HasNoKey-state, Finds-nothing, IsGhostAt-stands}
use Rattle.quick_cache_policy.proofs.LookupLemmas.{without_ghost}
use Rattle.quick_cache_policy.proofs.MakeLemmas.{none-tickets, none-memory, provided-on_ghost, Makes-refused, made-state, made-sound}
use Rattle.quick_cache_policy.proofs.MakeLemmas.{stands-exactly}
use Rattle.quick_cache_policy.proofs.KeptPlaces.{haunted-places}
use Rattle.quick_cache_policy.specs.Places.{places_of}
use Rattle.quick_cache_policy.proofs.contents.Contents.make_on_ghost.Goals as goal

-- a ghost is something
is-something : (token : _) → ◌≡◌ {A = Found} (Found.Ghost token) Found.Nothing → ⊥
is-something token same = cc

-- tickets are spent
pub returns-then-self-clause-makes : goal.returns-then-self-clause-makes
returns-then-self-clause-makes g c =
    let contents = c.args.self.now in
    let stands_for = g.Q.Equivalent.equivalent c.args.query.now in
    let gives = g.Q.ToKey.to_key_gives c.args.query.now in
    let ticket_of = g.P.SharedPlaceholder.ticket_of in
    let state = state_of ticket_of contents in
    let there = c.requires.found in
    let none = HasNoKey-state ticket_of stands_for c.args.hash contents c.requires.under there.0 in
    none-tickets stands_for gives c.args.hash state none (omega (arith, c.if-self.true))

-- there is no memory for the key or the placeholder
pub returns-in_err-awaited-clause-makes : goal.returns-in_err-awaited-clause-makes
returns-in_err-awaited-clause-makes g c =
    let contents = c.args.self.now in
    let stands_for = g.Q.Equivalent.equivalent c.args.query.now in
    let gives = g.Q.ToKey.to_key_gives c.args.query.now in
    let ticket_of = g.P.SharedPlaceholder.ticket_of in
    let state = state_of ticket_of contents in
    let there = c.requires.found in
    let none = HasNoKey-state ticket_of stands_for c.args.hash contents c.requires.under there.0 in
    Makes-refused ticket_of g.P.SharedPlaceholder.own_ticket stands_for gives c.args.hash contents
    contents c.in_err-awaited.field-0.0 c.from_residual.result c.from_residual.ensures.0
    c.from_residual.ensures.1
    (subst (λ r. MakesNone stands_for gives c.args.hash state r state)
    (sym c.in_err-awaited.ensures.refused)
    (none-memory stands_for gives c.args.hash state none
    (provided-on_ghost stands_for gives c.args.hash state (omega (arith, c.if-self.false))
    (λ nothing. is-something c.args.token
    (Finds-nothing ticket_of stands_for c.args.hash contents (Found.Ghost c.args.token) there
    nothing)))))

-- it was made
pub returns-clause-makes : goal.returns-clause-makes
returns-clause-makes g c =
    let contents = c.args.self.now in
    let stands_for = g.Q.Equivalent.equivalent c.args.query.now in
    let gives = g.Q.ToKey.to_key_gives c.args.query.now in
    let ticket_of = g.P.SharedPlaceholder.ticket_of in
    let state = state_of ticket_of contents in
    let there = c.requires.found in
    let none = HasNoKey-state ticket_of stands_for c.args.hash contents c.requires.under there.0 in
    let awaited = c.in_ok-awaited.awaited in
    let t = number c.args.token in
    let apart = c.facts.ensures.apart in
    let gone = without_ghost ticket_of contents apart stands_for c.args.hash t there.1 in
    let ghosts = there.1.before ++ there.1.after in
    let mid : Lists _ _ _ = record contents.lists {
      ghosts = ghosts;
      next = t;
      room = contents.lists.room + 1;
    } in
    let hash_is = ghost-hash contents.lists apart t c.replace.ensures.hash c.replace.result
    c.replace.ensures.taken (record { token = t; hash = c.args.hash }) there.1 refl in
    let puts = subst (λ (h : ℕ). PutsLast {T = g.row.P-Touch.Denot} mid t h
    (Entry.Loading awaited) c.replace.new.self) hash_is
    (subst (λ (l : Lists _ _ _). PutsLast {T = g.row.P-Touch.Denot} l t c.replace.ensures.hash
    (Entry.Loading awaited) c.replace.new.self) gone c.replace.ensures.last) in
    let misses : c.count_made.new.self.misses ≡ counted_up 1 contents.misses =
    omega (arith, ap (λ (s : Contents _ _ _ _ _ _). s.misses) c.count_made.ensures) in
    let next : c.count_made.new.self.next_ticket ≡ contents.next_ticket + 1 =
    ap (λ (s : Contents _ _ _ _ _ _). s.next_ticket) c.count_made.ensures in
    let made_is : c.count_made.new.self ≡ record contents {
      lists = c.replace.new.self;
      misses = c.count_made.new.self.misses;
      next_ticket = c.count_made.new.self.next_ticket;
    } = c.count_made.ensures ∙ ap (λ (s : Contents _ _ _ _ _ _). record contents {
      lists = c.replace.new.self;
      misses = s.misses;
      next_ticket = s.next_ticket;
    }) (sym c.count_made.ensures) in
    let ticket = c.in_ok-awaited.ensures.kept in
    let shades = map-append (λ (s : HeldGhost). s.hash) there.1.before there.1.after in
    let at = IsGhostAt-stands ticket_of stands_for c.args.hash contents c.requires.under there.0
    there.1.before t there.1.after there.1.split in
    let left : CacheState _ _ = record state {
      ghosts = hashes_of there.1.before ++ hashes_of there.1.after;
    } in
    subst (λ (s : Contents _ _ _ _ _ _). IsMade stands_for gives c.args.hash state
    (g.P.SharedPlaceholder.own_ticket c.in_ok-awaited.placeholder) (state_of ticket_of s))
    (sym made_is)
    (record {
      provided = provided-on_ghost stands_for gives c.args.hash state
          (omega (arith, c.if-self.false))
          (λ nothing. is-something c.args.token
          (Finds-nothing ticket_of stands_for c.args.hash contents (Found.Ghost c.args.token) there
          nothing));
      next = c.in_ok-awaited.ensures.ticket;
      key = awaited.key;
      given = c.in_ok-awaited.ensures.key;
      step = record {
        ordered = with_placeholder awaited.key awaited.queue (after_miss left);
        holds = subst (λ q. MakesPlaceholder stands_for state c.args.hash awaited.key
            (with_placeholder awaited.key q (after_miss left)))
            (sym c.in_ok-awaited.ensures.queue)
            (MakesPlaceholder.on_ghost (hashes_of there.1.before) (hashes_of there.1.after)
            (c.requires.stands awaited.key c.in_ok-awaited.ensures.key) at);
        same = subst (λ (l : List ℕ). SameButOrder
            (with_placeholder awaited.key awaited.queue (after_miss (record state { ghosts = l })))
            (state_of ticket_of (record contents {
              lists = c.replace.new.self;
              misses = c.count_made.new.self.misses;
              next_ticket = c.count_made.new.self.next_ticket;
            }))) shades
            (made-state ticket_of contents mid c.replace.new.self t c.args.hash awaited puts
            c.count_made.new.self.misses c.count_made.new.self.next_ticket misses next ticket);
      };
    })

-- its key is equal to none that is there
pub returns-clause-sound : goal.returns-clause-sound
returns-clause-sound g c = λ hashed under sound.
    let contents = c.args.self.now in
    let stands_for = g.Q.Equivalent.equivalent c.args.query.now in
    let gives = g.Q.ToKey.to_key_gives c.args.query.now in
    let ticket_of = g.P.SharedPlaceholder.ticket_of in
    let state = state_of ticket_of contents in
    let there = c.requires.found in
    let none = HasNoKey-state ticket_of stands_for c.args.hash contents c.requires.under there.0 in
    let awaited = c.in_ok-awaited.awaited in
    let t = number c.args.token in
    let apart = c.facts.ensures.apart in
    let gone = without_ghost ticket_of contents apart stands_for c.args.hash t there.1 in
    let ghosts = there.1.before ++ there.1.after in
    let mid : Lists _ _ _ = record contents.lists {
      ghosts = ghosts;
      next = t;
      room = contents.lists.room + 1;
    } in
    let hash_is = ghost-hash contents.lists apart t c.replace.ensures.hash c.replace.result
    c.replace.ensures.taken (record { token = t; hash = c.args.hash }) there.1 refl in
    let puts = subst (λ (h : ℕ). PutsLast {T = g.row.P-Touch.Denot} mid t h
    (Entry.Loading awaited) c.replace.new.self) hash_is
    (subst (λ (l : Lists _ _ _). PutsLast {T = g.row.P-Touch.Denot} l t c.replace.ensures.hash
    (Entry.Loading awaited) c.replace.new.self) gone c.replace.ensures.last) in
    let misses : c.count_made.new.self.misses ≡ counted_up 1 contents.misses =
    omega (arith, ap (λ (s : Contents _ _ _ _ _ _). s.misses) c.count_made.ensures) in
    let next : c.count_made.new.self.next_ticket ≡ contents.next_ticket + 1 =
    ap (λ (s : Contents _ _ _ _ _ _). s.next_ticket) c.count_made.ensures in
    let made_is : c.count_made.new.self ≡ record contents {
      lists = c.replace.new.self;
      misses = c.count_made.new.self.misses;
      next_ticket = c.count_made.new.self.next_ticket;
    } = c.count_made.ensures ∙ ap (λ (s : Contents _ _ _ _ _ _). record contents {
      lists = c.replace.new.self;
      misses = s.misses;
      next_ticket = s.next_ticket;
    }) (sym c.count_made.ensures) in
    let ticket = c.in_ok-awaited.ensures.kept in
    let shades = map-append (λ (s : HeldGhost). s.hash) there.1.before there.1.after in
    let at = IsGhostAt-stands ticket_of stands_for c.args.hash contents c.requires.under there.0
    there.1.before t there.1.after there.1.split in
    let stands = c.requires.stands awaited.key c.in_ok-awaited.ensures.key in
    let exact = stands-exactly g.K.PartialEq.eq stands_for awaited.key stands
    (g.met.Q.Equivalent.same_key c.args.query.now)
    (λ other same. g.met.Q.ToKey.same_given c.args.query.now awaited.key other
    c.in_ok-awaited.ensures.key stands same) in
    let left : CacheState _ _ = record state { ghosts = hashes_of ghosts } in
    subst (λ (s : Contents _ _ _ _ _ _). IsSound ticket_of g.K.PartialEq.eq hashed s) (sym made_is)
    (made-sound ticket_of contents mid c.replace.new.self t c.args.hash awaited puts
    c.count_made.new.self.misses c.count_made.new.self.next_ticket misses next ticket
    g.K.PartialEq.eq g.met.K.Eq.laws hashed
    (keys_by-absent g.K.PartialEq.eq g.met.K.Eq.laws stands_for awaited.key exact left
    (record {
      items = record { hot = none.items.hot; cold = none.items.cold; still = none.items.still };
      loading = none.loading;
    }))
    (sym (under awaited.key stands))
    (record {
      valid = subst (λ (l : List ℕ). IsValid g.K.PartialEq.eq (record state { ghosts = l }))
          (sym shades)
          (without_ghost-valid g.K.PartialEq.eq (hashes_of there.1.before) c.args.hash
          (hashes_of there.1.after) state at.split sound.valid);
      sized = sound.sized;
      hashed = record {
        hot = sound.hashed.hot;
        cold = sound.hashed.cold;
        still = sound.hashed.still;
        loading = sound.hashed.loading;
      };
    }))

-- the placeholder stands beside the items
pub returns-clause-places : goal.returns-clause-places
returns-clause-places g c =
    ap (λ (s : Contents _ _ _ _ _ _). places_of s.lists) c.count_made.ensures
    ∙ haunted-places {T = g.row.P-Touch.Denot} c.args.self.now.lists c.replace.new.self
    c.facts.ensures.apart (record { token = number c.args.token; hash = c.args.hash })
    c.requires.found.1 c.replace.ensures.hash c.in_ok-awaited.awaited c.replace.ensures.last
