use Rattle.std.proofs.Common.{refl, sym, ap, subst, ◌∙◌}
use Rattle.std.specs.Int.NonZero.{non_zero_u32_get as number}
use Rattle.quick_cache_store.specs.Lists.{HeldLoading, Finds}
use Rattle.quick_cache_policy.specs.Finding.{TakesSlot, at_ghost, at_loading}
use Rattle.quick_cache_policy.proofs.FillLemmas.{awaited-is_loading}
use Rattle.quick_cache_policy.proofs.contents.Contents.insert_admitted.Goals as goal

pub insert_new-requires-clause-found : goal.insert_new-requires-clause-found
insert_new-requires-clause-found g c =
    subst (Finds (g.K.PartialEq.eq c.args.key) c.args.hash c.args.self.now.lists) c.in-Nothing.is
    c.requires.found

pub insert_new-requires-clause-room : goal.insert_new-requires-clause-room
insert_new-requires-clause-room g c =
    c.requires.room (subst TakesSlot (sym c.in-Nothing.is) tt)

pub enter_at-requires-clause-enters : goal.enter_at-requires-clause-enters
enter_at-requires-clause-enters g c =
    at_ghost (subst (Finds (g.K.PartialEq.eq c.args.key) c.args.hash c.args.self.now.lists)
    c.in-Ghost.is c.requires.found) refl refl

pub awaited-requires : goal.awaited-requires
awaited-requires g c =
    let found = subst (Finds (g.K.PartialEq.eq c.args.key) c.args.hash c.args.self.now.lists)
    c.in-Loading.is c.requires.found in
    (found.waiting, found.stands, found.named)

pub enter_at-requires-in-Loading-clause-enters : goal.enter_at-requires-in-Loading-clause-enters
enter_at-requires-in-Loading-clause-enters g c =
    let found = subst (Finds (g.K.PartialEq.eq c.args.key) c.args.hash c.args.self.now.lists)
    c.in-Loading.is c.requires.found in
    at_loading found
    (c.queue-queue.ensures ∙ ap (λ (w : HeldLoading _ _). w.queue)
    (awaited-is_loading c.args.self.now.lists c.facts.ensures.apart
    (number c.in-Loading.token) c.awaited.ensures.0 c.awaited.result c.awaited.ensures.1
    found.waiting found.stands found.named)) refl

pub overwrite-requires-clause-found : goal.overwrite-requires-clause-found
overwrite-requires-clause-found g c =
    subst (Finds (g.K.PartialEq.eq c.args.key) c.args.hash c.args.self.now.lists) c.in-Item.is
    c.requires.found
