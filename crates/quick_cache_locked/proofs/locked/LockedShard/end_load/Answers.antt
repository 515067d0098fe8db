use Rattle.std.proofs.Common.{◌≡◌, false, refl, rules}
use Rattle.std.specs.Prelude.{IsTrue}
use Rattle.quick_cache_locked.proofs.FitLoads.{EndsLoad-filled, AllFit-filled}
use Rattle.quick_cache_locked.proofs.TicketLemmas.{awaits_none, awaits_other, of_ticket}
use Rattle.quick_cache_locked.proofs.locked.LockedShard.end_load.Goals as goal

-- the key that is awaited is another
pub returns-then-ne-clause-ends : goal.returns-then-ne-clause-ends
returns-then-ne-clause-ends g c =
    let other : g.K.PartialEq.eq c.args.key.now c.in-Some.own.now ≡ false = search rules in
    rw (← c.self.view_is) (
      awaits_other g.K.PartialEq.eq c.args.placeholder.now.ticket c.args.key.now
          c.self.inside.shard.state c.loading_key.ensures.sound.valid c.in-Some.own.now
          c.in-Some.ensures.key other,
      refl,
      refl,
      refl,
    )

-- no key is awaited
pub returns-in-None-clause-ends : goal.returns-in-None-clause-ends
returns-in-None-clause-ends g c = rw (← c.self.view_is) (
  awaits_none g.K.PartialEq.eq c.args.placeholder.now.ticket c.args.key.now
      c.self.inside.shard.state c.in-None.ensures.key,
  refl,
  refl,
  refl,
)

-- the value fits an equal key, so it fits that of the placeholder
pub invariant_of-self : goal.invariant_of-self
invariant_of-self g c =
    let equal : IsTrue (g.K.PartialEq.eq c.args.key.now c.in-Some.own.now) = search rules in
    AllFit-filled g.L.Lifecycle
    (λ l was k v now left. g.met.L.Lifecycle.keeps_fits l was k v now left)
    c.self.inside.shard.lifecycle c.self.inside.shard.state c.replace_placeholder.new.self.state _
    c.args.placeholder.now.ticket c.args.waited c.args.value c.replace_placeholder.result _ _
    c.replace_placeholder.ensures.fills
    (of_ticket c.args.placeholder.now.ticket (λ k. g.L.Lifecycle.fits k c.args.value)
    g.K.PartialEq.eq c.self.inside.shard.state c.loading_key.ensures.sound.valid
    c.in-Some.own.now c.in-Some.ensures.key
    (g.met.L.Lifecycle.same_fits c.args.key.now c.in-Some.own.now c.args.value equal
    c.requires.fits))
    c.self.invariant

-- the load ends as the fill does
pub returns-clause-ends : goal.returns-clause-ends
returns-clause-ends g c =
    rw (← c.self.view_is)
    (EndsLoad-filled _ _ _ g.K.PartialEq.eq c.args.placeholder.now.ticket
    c.self.inside.shard.state c.args.waited c.args.key.now c.args.value _ _
    c.replace_placeholder.result c.replace_placeholder.new.self.state
    c.replace_placeholder.ensures.fills)

-- nothing changed
pub returns-then-ne-clause-places : goal.returns-then-ne-clause-places
returns-then-ne-clause-places g c =
    rw (← c.self.view_is) c.loading_key.ensures.sound.places.one_token

pub returns-in-None-clause-places : goal.returns-in-None-clause-places
returns-in-None-clause-places g c =
    rw (← c.self.view_is) c.loading_key.ensures.sound.places.one_token

pub returns-clause-places : goal.returns-clause-places
returns-clause-places g c = rw (← c.self.view_is) c.replace_placeholder.ensures.places
