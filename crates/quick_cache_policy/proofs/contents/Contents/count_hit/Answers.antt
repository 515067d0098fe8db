use Rattle.std.proofs.Common.{refl, sym, ap, subst, ◌∙◌, arith}
use Rattle.std.specs.Int.NonZero.{non_zero_u32_get as number}
use Rattle.quick_cache_model.specs.Lookups.{looked_up}
use Rattle.quick_cache_model.specs.Removal.{pair_of}
use Rattle.quick_cache_store.specs.Lists.{FindsItem}
use Rattle.quick_cache_policy.specs.Contents.{IsSound, state_of}
use Rattle.quick_cache_policy.specs.Entering.{CountsHit}
use Rattle.quick_cache_policy.specs.declared.contents.Contents.{Contents}
use Rattle.quick_cache_policy.specs.Finding.{IsLookedUp}
use Rattle.quick_cache_policy.proofs.LookupLemmas.{counted-is, looks_up-hit, counted-hit, counted-found, counted-item, counted-sound}
use Rattle.quick_cache_policy.specs.Places.{places_of}
use Rattle.quick_cache_policy.proofs.PlaceLemmas.{places_of-change}
use Rattle.quick_cache_policy.proofs.contents.Contents.count_hit.Goals as goal

-- the item was found, and it and a hit are counted
pub returns-clause-looks_up : goal.returns-clause-looks_up
returns-clause-looks_up g c =
    let ticket_of = g.P.SharedPlaceholder.ticket_of in
    let contents = c.args.self.now in
    let stands_for = g.Q.Equivalent.equivalent c.args._query.now in
    let t = number c.args.token in
    let hash = c.args.hash in
    let found = c.requires.found in
    let apart = c.facts.ensures.apart in
    let is = counted-is contents c.mark_and_read.new.self t
    c.saturating_add-self.result c.mark_and_read.ensures (omega (arith, c.saturating_add-self.ensures)) in
    subst (λ s. IsLookedUp ticket_of stands_for contents c.args.token s) (sym is) (record {
      item = found.item;
      stood = (hash, found.stands);
      passes = found.passes;
      now = counted-item ticket_of contents apart t hash found.item found.stands;
      value = looks_up-hit ticket_of contents apart t hash found.item found.stands stands_for
          found.passes (λ i. i.value);
      pair = looks_up-hit ticket_of contents apart t hash found.item found.stands stands_for
          found.passes pair_of;
    })

-- a hit is counted at it
pub returns-clause-counts : goal.returns-clause-counts
returns-clause-counts g c =
    let ticket_of = g.P.SharedPlaceholder.ticket_of in
    let contents = c.args.self.now in
    let stands_for = g.Q.Equivalent.equivalent c.args._query.now in
    let t = number c.args.token in
    let hash = c.args.hash in
    let found = c.requires.found in
    let apart = c.facts.ensures.apart in
    let is = counted-is contents c.mark_and_read.new.self t
    c.saturating_add-self.result c.mark_and_read.ensures (omega (arith, c.saturating_add-self.ensures)) in
    subst (λ s. CountsHit stands_for (state_of ticket_of contents) (state_of ticket_of s)) (sym is)
    (counted-hit ticket_of contents apart t hash found.item found.stands stands_for found.passes)

-- and it is still found
pub returns-clause-found : goal.returns-clause-found
returns-clause-found g c =
    let ticket_of = g.P.SharedPlaceholder.ticket_of in
    let contents = c.args.self.now in
    let stands_for = g.Q.Equivalent.equivalent c.args._query.now in
    let t = number c.args.token in
    let hash = c.args.hash in
    let found = c.requires.found in
    let apart = c.facts.ensures.apart in
    let is = counted-is contents c.mark_and_read.new.self t
    c.saturating_add-self.result c.mark_and_read.ensures (omega (arith, c.saturating_add-self.ensures)) in
    subst (λ (s : Contents _ _ _ _ _ _). FindsItem stands_for hash s.lists t) (sym is)
    (counted-found ticket_of contents apart t hash found.item found.stands stands_for found.passes
    hash refl)

pub returns-clause-sound : goal.returns-clause-sound
returns-clause-sound g c = λ hashed sound.
    let ticket_of = g.P.SharedPlaceholder.ticket_of in
    let contents = c.args.self.now in
    let stands_for = g.Q.Equivalent.equivalent c.args._query.now in
    let t = number c.args.token in
    let hash = c.args.hash in
    let found = c.requires.found in
    let apart = c.facts.ensures.apart in
    let is = counted-is contents c.mark_and_read.new.self t
    c.saturating_add-self.result c.mark_and_read.ensures (omega (arith, c.saturating_add-self.ensures)) in
    subst (λ s. IsSound ticket_of g.K.PartialEq.eq hashed s) (sym is)
    (counted-sound ticket_of contents apart t hash found.item found.stands g.K.PartialEq.eq hashed
    stands_for found.passes sound)

-- it moves nothing
pub returns-clause-places : goal.returns-clause-places
returns-clause-places g c =
    let contents = c.args.self.now in
    ap (λ (s : Contents _ _ _ _ _ _). places_of s.lists) c.mark_and_read.ensures
    ∙ places_of-change (number c.args.token) (looked_up contents.mark_cut) (λ item. refl)
    contents.lists
